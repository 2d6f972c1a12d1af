-- The walk from a map node to the maps that it is made of.
use Rattle.std.proofs.Common.{◌≡◌, ℕ, zero, suc, ◌<◌, Bool, true, false, ◌&&◌, ◌||◌, List, [], ◌∷◌, ◌++◌, length, arith, sym, ◌∙◌, ap, refl, subst}
use Rattle.std.specs.Prelude.{Option, None, Some, is_some, if◌then◌else◌, slice_get, nat_eq}
use Rattle.std.proofs.lemmas.Option.{slice_get_within}
use Rattle.hy_val.specs.declared.sort.Scalar.{Scalar}
use Rattle.hy_val.specs.declared.sort.Sort.{Sort}
use Rattle.hy_val.specs.declared.sort.SortKind.TheVariants.{Scalar as ScalarSort, Map as MapSort}
use Rattle.hy_val.proofs.Lists.{slice_get-left, slice_get-seam}
use Rattle.hy_term.specs.TermSorts.{sort_at}
use Rattle.hy_term.specs.declared.node.TermNode.{TermNode}
use Rattle.hy_term.specs.declared.node.TermNode.TheVariants.{Lit, ZeroMap, Variable, Unary, Binary, If, Select, Store}
use Rattle.map_axioms.specs.declared.entry.Entry.{Entry}
use Rattle.map_axioms.specs.Steps.{found, is_map_of, MapsKnown, IsPart, AllParts, IsSelect, Read, IsRow}
use Rattle.map_axioms.proofs.Cases.{case_at, if_case, store_case, select_case, sort_within}
use Rattle.map_axioms.proofs.Homes.{number_is}
use Rattle.map_axioms.proofs.Rows.{reds_later, rows_later, rows_set}
use Rattle.map_axioms.proofs.Nodes.{is_select}

pub none_of : (o : Option ℕ) → is_some o ≡ false → o ≡ None
none_of None h = refl
none_of (Some x) h = cc

-- a node that is read stands in the terms
pub select_before : (nodes ns : List TermNode) (top i : ℕ) → IsSelect nodes top i → ns ≡ nodes → top < length ns
select_before nodes ns top i h same = let l = sort_within nodes top (MapSort h.index h.elem) h.map in let n : length ns ≡ length nodes = ap length same in omega (arith, l, n)

-- ---- the maps of a node

or_case : (P : Type 0) (a b : Bool) → (a || b) ≡ true → (a ≡ true → P) → (b ≡ true → P) → P
or_case P true b h x y = x refl
or_case P false b h x y = y h

no_way : (P : Type 0) → false ≡ true → P
no_way P h = absurd (let no : false ≡ true → ⊥ = λ q. cc in no h)

-- a map before another one, of its sort
pub record IsUnder (nodes : List TermNode) (top j : ℕ) : Type 0 where
  pub before : j < top
  pub sort : sort_at nodes j ≡ sort_at nodes top

under_as : (nodes : List TermNode) (top x j : ℕ) (s : Sort) → j ≡ x → x < top → sort_at nodes x ≡ Some s → sort_at nodes top ≡ Some s → IsUnder nodes top j
under_as nodes top x j s e l h k = record { before = omega (arith, e, l); sort = ap (sort_at nodes) e ∙ h ∙ sym k }

pub under_of : (nodes : List TermNode) (top i j : ℕ) (node : TermNode) → IsSelect nodes top i → slice_get nodes top ≡ Some node → is_map_of j node ≡ true → IsUnder nodes top j
under_of nodes top i j (Lit a) h is made = no_way (IsUnder nodes top j) made
under_of nodes top i j (ZeroMap x e) h is made = no_way (IsUnder nodes top j) made
under_of nodes top i j (Variable n s) h is made = no_way (IsUnder nodes top j) made
under_of nodes top i j (Unary op c) h is made = no_way (IsUnder nodes top j) made
under_of nodes top i j (Binary op l r) h is made = no_way (IsUnder nodes top j) made
under_of nodes top i j (If t x y) h is made =
    let c = case_at nodes top (If t x y) (MapSort h.index h.elem) h.map is in
    let u = if_case (slice_get c.known t) (slice_get c.known x) (slice_get c.known y) (MapSort h.index h.elem) c.is in
    let p = c.lower x (MapSort h.index h.elem) u.one in
    let q = c.lower y (MapSort h.index h.elem) u.other in
    or_case (IsUnder nodes top j) (nat_eq j x) (nat_eq j y) made (λ e. under_as nodes top x j (MapSort h.index h.elem) (number_is j x e) p.0 p.1 h.map)
    (λ e. under_as nodes top y j (MapSort h.index h.elem) (number_is j y e) q.0 q.1 h.map)
under_of nodes top i j (Select x k) h is made = no_way (IsUnder nodes top j) made
under_of nodes top i j (Store x k v) h is made =
    let c = case_at nodes top (Store x k v) (MapSort h.index h.elem) h.map is in
    let u = store_case (slice_get c.known x) (slice_get c.known k) (slice_get c.known v) (MapSort h.index h.elem) c.is in
    let p = c.lower x (MapSort u.index u.elem) u.map in
    under_as nodes top x j (MapSort h.index h.elem) (number_is j x made) p.0 (p.1 ∙ ap Some (sym u.is)) h.map

pub maps_known : (nodes : List TermNode) (rows : List ((ℕ × ℕ) × ℕ)) (top i : ℕ) (node : TermNode) → slice_get nodes top ≡ Some node → MapsKnown rows i node → (x : TermNode) → slice_get nodes top ≡ Some x → MapsKnown rows i x
maps_known nodes rows top i node is k x there = let same : node ≡ x = cc in subst (λ (y : TermNode). MapsKnown rows i y) same k

-- ---- the maps that wait

pub part_same : (nodes : List TermNode) (m : ℕ) → IsPart nodes m m
part_same nodes m = record { within = omega arith; sort = refl }

pub part_under : (nodes : List TermNode) (m top j : ℕ) → IsPart nodes m top → IsUnder nodes top j → IsPart nodes m j
part_under nodes m top j p u = record { within = let a = p.within in let b = u.before in omega (arith, a, b); sort = u.sort ∙ p.sort }

last_of : (xs : List ℕ) (x j y : ℕ) (P : ℕ → Type 0) → slice_get (xs ++ x ∷ []) j ≡ Some y → ((k z : ℕ) → slice_get xs k ≡ Some z → P z) → P x → P y
last_of [] x zero y P is old new = let same : x ≡ y = cc in subst P same new
last_of [] x (suc j) y P is old new = absurd (let no : None ≡ Some y → ⊥ = λ q. cc in no is)
last_of (z ∷ xs) x zero y P is old new = old 0 y is
last_of (z ∷ xs) x (suc j) y P is old new = last_of xs x j y P is (λ k w q. old (suc k) w q) new

pub parts_push : (nodes : List TermNode) (m x : ℕ) (xs xs' : List ℕ) → AllParts nodes m xs → IsPart nodes m x → xs' ≡ xs ++ x ∷ [] → AllParts nodes m xs'
parts_push nodes m x xs xs' h new is k j there = last_of xs x k j (λ y. IsPart nodes m y) (ap (λ (ys : List ℕ). slice_get ys k) (sym is) ∙ there) h new

pub parts_popped : (nodes : List TermNode) (m x : ℕ) (xs xs' : List ℕ) → AllParts nodes m xs → xs ≡ xs' ++ x ∷ [] → AllParts nodes m xs'
parts_popped nodes m x xs xs' h is k j there = h k j (ap (λ (ys : List ℕ). slice_get ys k) is ∙ slice_get-left xs' (x ∷ []) k (slice_get_within xs' k j there) ∙ there)

pub part_popped : (nodes : List TermNode) (m x : ℕ) (xs xs' : List ℕ) → AllParts nodes m xs → xs ≡ xs' ++ x ∷ [] → IsPart nodes m x
part_popped nodes m x xs xs' h is = h (length xs') x (ap (λ (ys : List ℕ). slice_get ys (length xs')) is ∙ slice_get-seam xs' x)

pub parts_none : (nodes : List TermNode) (m : ℕ) (xs : List ℕ) → xs ≡ [] → AllParts nodes m xs
parts_none nodes m xs none k j there = absurd (let no : None ≡ Some j → ⊥ = λ q. cc in no (ap (λ (ys : List ℕ). slice_get ys k) (sym none) ∙ there))

-- ---- what a step stands on

pub row_moved : (base : ℕ) (nodes out : List TermNode) (es : List Entry) (reds : List ℕ) (rows : List ((ℕ × ℕ) × ℕ)) (top i j : ℕ) → IsRow base nodes out es reds rows top i → sort_at nodes j ≡ sort_at nodes top
    → j < length reds → IsRow base nodes out es reds rows j i
row_moved base nodes out es reds rows top i j r same l = record {
  state = r.state;
  select = record { index = r.select.index; elem = r.select.elem; map = same ∙ r.select.map; place = r.select.place };
  map_before = l;
  place_before = r.place_before;
  reduced = r.reduced;
  stands = r.stands;
}

-- with the node for the entry among the rows
pub row_read : (base : ℕ) (nodes out : List TermNode) (es : List Entry) (out' : List TermNode) (es' : List Entry) (reds : List ℕ) (rows rows' : List ((ℕ × ℕ) × ℕ)) (top i t : ℕ) → IsRow base nodes out es reds rows top i
    → Read base nodes out es out' es' top i t → ((a b : ℕ) → found a b rows' ≡ (if nat_eq top a && nat_eq i b then Some t else found a b rows)) → IsRow base nodes out' es' reds rows' top i
row_read base nodes out es out' es' reds rows rows' top i t r x set = record {
  state = x.state;
  select = r.select;
  map_before = r.map_before;
  place_before = r.place_before;
  reduced = reds_later nodes out es out' es' reds x.later r.reduced;
  stands = rows_set nodes out' es' rows rows' top i t (rows_later nodes out es out' es' rows x.later r.stands) x.entry set;
}

-- ---- selects

pub record SelectParts (nodes : List TermNode) (k m i : ℕ) : Type 0 where
  pub select : IsSelect nodes m i
  pub map : m < k
  pub place : i < k

pub select_parts : (nodes : List TermNode) (k m i : ℕ) (s : Scalar) (node : TermNode) → slice_get nodes k ≡ Some node → node ≡ Select m i → sort_at nodes k ≡ Some (ScalarSort s) → SelectParts nodes k m i
select_parts nodes k m i s node is same h =
    let c = case_at nodes k (Select m i) (ScalarSort s) h (is ∙ ap Some same) in
    let u = select_case (slice_get c.known m) (slice_get c.known i) (ScalarSort s) c.is in
    let p = c.lower m (MapSort u.index u.elem) u.map in
    let q = c.lower i (ScalarSort u.index) u.place in
    record { select = record { index = u.index; elem = u.elem; map = p.1; place = q.1 }; map = p.0; place = q.0 }

pub not_select : (node : TermNode) → ((m i : ℕ) → node ≡ Select m i → ⊥) → is_select node ≡ false
not_select (Lit a) h = refl
not_select (ZeroMap i e) h = refl
not_select (Variable n s) h = refl
not_select (Unary op c) h = refl
not_select (Binary op l r) h = refl
not_select (If t x y) h = refl
not_select (Select m i) h = absurd (h m i refl)
not_select (Store m i v) h = refl
