-- What names of types stand for, by the values noted for each type.
use Rattle.std.proofs.Common.{◌≡◌, ℕ, zero, suc, ◌<◌, ◌≤◌, Bool, true, false, not, List, [], ◌∷◌, ◌++◌, length, map, take, get_or, set, replicate, append_assoc, ◌+◌, Option, Some, None, is_some, refl, sym, ◌∙◌, ap, subst, arith, Bor, true≢false}
use Rattle.std.proofs.lemmas.Bool.Decides.{Decides-eqb}
use Rattle.std.proofs.lemmas.List.{length-replicate}
use Rattle.std.proofs.lemmas.Option.{slice_get-map}
use Rattle.std.specs.Prelude.{filter_map, nat_eq, slice_get, unwrap_or, option_map, ◌||◌}
use Rattle.std.specs.List.{list_any, cons_option}
use Rattle.std.specs.Option.{option_and_then}
use Rattle.std.specs.Str.{bytes_eq}
use Rattle.bpl_ast.specs.declared.decl.Synonym.{Synonym}
use Rattle.bpl_ast.specs.declared.name.Name.{Name}
use Rattle.bpl_ast.specs.declared.sort.Sort.{Sort, roll-Sort}
use Rattle.bpl_ast.specs.declared.sort.Sort.TheFolds.{ind-Sort, map-Sort}
use Rattle.bpl_ast.specs.declared.sort.Sort.TheOpen.{Sort-F}
use Rattle.bpl_ast.specs.declared.sort.Sort.TheVariants as sorts
use Rattle.bpl_ast.specs.declared.sort.Sort.TheVariants.{rolls-Boolean, rolls-Bits, rolls-Named, rolls-Map}
use Rattle.hy_val.specs.NodeSorts.{as_scalar}
use Rattle.hy_val.specs.declared.sort.Scalar.{Scalar}
use Rattle.hy_val.specs.declared.sort.Sort.{Sort as Resolved}
use Rattle.type_pass.specs.Graphs.{Graph, edges}
use Rattle.type_pass.specs.Memos.{AreTypes, valued, listed_value, noted, from_node, heads, head_graph, number_among}
use Rattle.type_pass.specs.Orders.{is_in, IsOrder}
use Rattle.type_pass.specs.Sorts.{type_number, type_named, type_graph, mentions, resolved_by, map_sort, named_sort, names_map, is_map_if, written_as_map, resolved}
use Rattle.type_pass.proofs.MemoLaws.{iterated, IsStep, IsNoted, noted-all, noted-more}
use Rattle.type_pass.proofs.NumberLaws.{find-position, position-within, position-map, filter_map-append}
use Rattle.type_pass.proofs.SpaceLaws.{nil-append}
use Rattle.type_pass.proofs.SortEquations.{heads-boolean, heads-bits, heads-named, heads-map, part-boolean, part-bits, part-named, part-map, mentions-boolean, mentions-bits, mentions-named, mentions-map, resolved-boolean, resolved-bits, resolved-named, resolved-map}

-- ---- induction over sorts

module _ (P : Sort → Type 0) (boolean : (at : ℕ) → P (sorts.Boolean at)) (bits : (at width : ℕ) (text : List ℕ) → P (sorts.Bits at width text))
    (named : (n : Name) → P (sorts.Named n)) (mapped : (at : ℕ) (x y : Sort) → P x → P y → P (sorts.Map at x y)) where
  sort_layer : {S : Type 0} (v : S → Sort) (kv : (c : S) → P (v c)) (y : Sort-F S) → P (roll-Sort (map-Sort S Sort v y))
  sort_layer v kv (Sort-F.Boolean at) = subst P (sym (rolls-Boolean at)) (boolean at)
  sort_layer v kv (Sort-F.Bits at width text) = subst P (sym (rolls-Bits at width text)) (bits at width text)
  sort_layer v kv (Sort-F.Named n) = subst P (sym (rolls-Named n)) (named n)
  sort_layer v kv (Sort-F.Map at x y) = subst P (sym (rolls-Map at (v x) (v y))) (mapped at (v x) (v y) (kv x) (kv y))

  pub sort_induction : (s : Sort) → P s
  sort_induction = ind-Sort P (λ x y same. subst (λ (w : Sort-F Sort). P (roll-Sort w)) same (sort_layer (λ c. c.0) (λ c. c.1) y))

-- ---- names that agree

module _ {V : Type 0} where
  -- the same value for each name
  abbrev pub AllSame : (f h : List ℕ → V) → List (List ℕ) → Type 0
  AllSame f h [] = Unit {0}
  AllSame f h (t ∷ ts) = (f t ≡ h t) × AllSame f h ts

  same-left : (f h : List ℕ → V) (ts us : List (List ℕ)) → AllSame f h (ts ++ us) → AllSame f h ts
  same-left f h [] us s = tt
  same-left f h (t ∷ ts) us s = (s.0, same-left f h ts us s.1)

  same-right : (f h : List ℕ → V) (ts us : List (List ℕ)) → AllSame f h (ts ++ us) → AllSame f h us
  same-right f h [] us s = s
  same-right f h (t ∷ ts) us s = same-right f h ts us s.1

-- a name has no value
abbrev pub one_none : {V : Type 0} → (V → Bool) → (List ℕ → V) → List (List ℕ) → Bool
one_none is_none f ts = list_any (λ t. is_none (f t)) ts

either : (a b : Bool) (P : Type 0) → (a || b) ≡ true → (a ≡ true → P) → (b ≡ true → P) → P
either true b P h l r = l refl
either false b P h l r = r h

any-append : {X : Type 0} (p : X → Bool) (xs ys : List X) → list_any p (xs ++ ys) ≡ (list_any p xs || list_any p ys)
any-append p [] ys = refl
any-append p (x ∷ xs) ys = by (p x) (any-append p xs ys)
  where
    by : (b : Bool) → list_any p (xs ++ ys) ≡ (list_any p xs || list_any p ys) → (b || list_any p (xs ++ ys)) ≡ ((b || list_any p xs) || list_any p ys)
    by true h = refl
    by false h = h

-- what a sort stands for depends on its names alone
pub resolved-agree : (s : Sort) (f h : List ℕ → Option Resolved) → AllSame f h (mentions s) → resolved_by f s ≡ resolved_by h s
resolved-agree = sort_induction (λ s. (f h : List ℕ → Option Resolved) → AllSame f h (mentions s) → resolved_by f s ≡ resolved_by h s)
    (λ at f h same. resolved-boolean f at ∙ sym (resolved-boolean h at))
    (λ at width text f h same. resolved-bits f at width text ∙ sym (resolved-bits h at width text))
    (λ n f h same. resolved-named f n ∙ (subst (AllSame f h) (mentions-named n) same).0 ∙ sym (resolved-named h n))
    (λ at x y kx ky f h same.
    let both : AllSame f h (mentions x ++ mentions y) = subst (AllSame f h) (mentions-map at x y) same in
    resolved-map f at x y ∙ ap (λ v. map_sort (as_scalar v) (as_scalar (resolved_by f y))) (kx f h (same-left f h (mentions x) (mentions y) both))
    ∙ ap (λ v. map_sort (as_scalar (resolved_by h x)) (as_scalar v)) (ky f h (same-right f h (mentions x) (mentions y) both)) ∙ sym (resolved-map h at x y))

abbrev is_none : Option Resolved → Bool
is_none o = not (is_some o)

none-if : (o : Option Resolved) → is_none o ≡ true → o ≡ None
none-if None h = refl
none-if (Some s) h = absurd (true≢false (sym h))

map-none : (o : Option Scalar) → map_sort o None ≡ None
map-none None = refl
map-none (Some s) = refl

or-false : (b : Bool) → (b || false) ≡ true → b ≡ true
or-false true h = refl
or-false false h = absurd (true≢false (sym h))

-- and it stands for nothing where one of its names does
pub resolved-strict : (s : Sort) (f : List ℕ → Option Resolved) → one_none is_none f (mentions s) ≡ true → resolved_by f s ≡ None
resolved-strict = sort_induction (λ s. (f : List ℕ → Option Resolved) → one_none is_none f (mentions s) ≡ true → resolved_by f s ≡ None)
    (λ at f h. absurd (true≢false (sym (subst (λ ts. one_none is_none f ts ≡ true) (mentions-boolean at) h))))
    (λ at width text f h. absurd (true≢false (sym (subst (λ ts. one_none is_none f ts ≡ true) (mentions-bits at width text) h))))
    (λ n f h. resolved-named f n ∙ none-if (f n.text) (or-false (is_none (f n.text)) (subst (λ ts. one_none is_none f ts ≡ true) (mentions-named n) h)))
    (λ at x y kx ky f h.
    resolved-map f at x y ∙ either (one_none is_none f (mentions x)) (one_none is_none f (mentions y)) (map_sort (as_scalar (resolved_by f x)) (as_scalar (resolved_by f y)) ≡ None)
    (sym (any-append (λ t. is_none (f t)) (mentions x) (mentions y)) ∙ subst (λ ts. one_none is_none f ts ≡ true) (mentions-map at x y) h)
    (λ l. ap (λ v. map_sort (as_scalar v) (as_scalar (resolved_by f y))) (kx f l))
    (λ r. ap (λ v. map_sort (as_scalar (resolved_by f x)) (as_scalar v)) (ky f r) ∙ map-none (as_scalar (resolved_by f x))))

-- whether it is a map depends on the name that it is
pub written-agree : (s : Sort) (f h : List ℕ → Bool) → AllSame f h (heads s) → written_as_map f s ≡ written_as_map h s
written-agree = sort_induction (λ s. (f h : List ℕ → Bool) → AllSame f h (heads s) → written_as_map f s ≡ written_as_map h s)
    (λ at f h same. ap (λ p. p.is_map) (part-boolean (λ n. true) f at) ∙ sym (ap (λ p. p.is_map) (part-boolean (λ n. true) h at)))
    (λ at width text f h same. ap (λ p. p.is_map) (part-bits (λ n. true) f at width text) ∙ sym (ap (λ p. p.is_map) (part-bits (λ n. true) h at width text)))
    (λ n f h same. ap (λ p. p.is_map) (part-named (λ n. true) f n) ∙ (subst (AllSame f h) (heads-named n) same).0 ∙ sym (ap (λ p. p.is_map) (part-named (λ n. true) h n)))
    (λ at x y kx ky f h same. ap (λ p. p.is_map) (part-map (λ n. true) f at x y) ∙ sym (ap (λ p. p.is_map) (part-map (λ n. true) h at x y)))

not-true : (b : Bool) → not b ≡ true → b ≡ false
not-true true h = absurd (true≢false (sym h))
not-true false h = refl

pub written-strict : (s : Sort) (f : List ℕ → Bool) → one_none not f (heads s) ≡ true → written_as_map f s ≡ false
written-strict = sort_induction (λ s. (f : List ℕ → Bool) → one_none not f (heads s) ≡ true → written_as_map f s ≡ false)
    (λ at f h. ap (λ p. p.is_map) (part-boolean (λ n. true) f at))
    (λ at width text f h. ap (λ p. p.is_map) (part-bits (λ n. true) f at width text))
    (λ n f h. ap (λ p. p.is_map) (part-named (λ n. true) f n) ∙ not-true (f n.text) (or-false (not (f n.text)) (subst (λ ts. one_none not f ts ≡ true) (heads-named n) h)))
    (λ at x y kx ky f h. absurd (true≢false (sym (subst (λ ts. one_none not f ts ≡ true) (heads-map at x y) h))))

-- ---- types step by step

same-itself : (n : ℕ) → nat_eq n n ≡ true
same-itself n = (Decides-eqb n n).1 refl

later : (a b : Bool) → b ≡ true → (a || b) ≡ true
later true b k = refl
later false b k = k

head-in : (c : ℕ) (cs : List ℕ) → is_in (c ∷ cs) c ≡ true
head-in c cs = ap (λ b. b || is_in cs c) (same-itself c)

tail-in : (c d : ℕ) (cs : List ℕ) → is_in cs d ≡ true → is_in (c ∷ cs) d ≡ true
tail-in c d cs h = later (nat_eq d c) (is_in cs d) h

either-in : (c d : ℕ) (cs : List ℕ) (P : Type 0) → is_in (c ∷ cs) d ≡ true → (d ≡ c → P) → (is_in cs d ≡ true → P) → P
either-in c d cs P h l r = either (nat_eq d c) (is_in cs d) P h (λ e. l ((Decides-eqb d c).0 e)) r

skipped : (num : List ℕ → Option ℕ) (t : List ℕ) (ts : List (List ℕ)) → num t ≡ None → filter_map num (t ∷ ts) ≡ filter_map num ts
skipped num t ts n = ap (λ o. cons_option o (filter_map num ts)) n

taken : (num : List ℕ → Option ℕ) (t : List ℕ) (ts : List (List ℕ)) (c : ℕ) → num t ≡ Some c → filter_map num (t ∷ ts) ≡ c ∷ filter_map num ts
taken num t ts c n = ap (λ o. cons_option o (filter_map num ts)) n

-- the values of the numbers that names have
module _ {V : Type 0} (none : V) (num : List ℕ → Option ℕ) where
  same-names : (f h : ℕ → V) (ts : List (List ℕ)) → ((c : ℕ) → is_in (filter_map num ts) c ≡ true → f c ≡ h c) → AllSame (λ t. valued none f (num t)) (λ t. valued none h (num t)) ts
  same-names f h [] e = tt
  same-names f h (t ∷ ts) e = by (num t) refl (same-names f h ts)
    where
      by : (o : Option ℕ) → num t ≡ o → (((c : ℕ) → is_in (filter_map num ts) c ≡ true → f c ≡ h c) → AllSame (λ t. valued none f (num t)) (λ t. valued none h (num t)) ts)
          → AllSame (λ t. valued none f (num t)) (λ t. valued none h (num t)) (t ∷ ts)
      by None n rest =
          (ap (valued none f) n ∙ sym (ap (valued none h) n), rest (λ c here. e c (ap (λ cs. is_in cs c) (skipped num t ts n) ∙ here)))
      by (Some d) n rest = (
        ap (valued none f) n ∙ e d (ap (λ cs. is_in cs d) (taken num t ts d n) ∙ head-in d (filter_map num ts)) ∙ sym (ap (valued none h) n),
        rest (λ c here. e c (ap (λ cs. is_in cs c) (taken num t ts d n) ∙ tail-in d c (filter_map num ts) here)),
      )

  none-among : (is_none : V → Bool) → is_none none ≡ true → (f : ℕ → V) (ts : List (List ℕ)) (c : ℕ) → is_in (filter_map num ts) c ≡ true → f c ≡ none
      → one_none is_none (λ t. valued none f (num t)) ts ≡ true
  none-among is_none z f [] c here blank = absurd (true≢false (sym here))
  none-among is_none z f (t ∷ ts) c here blank = by (num t) refl (λ e. none-among is_none z f ts c e blank)
    where
      by : (o : Option ℕ) → num t ≡ o → (is_in (filter_map num ts) c ≡ true → one_none is_none (λ t. valued none f (num t)) ts ≡ true) → one_none is_none (λ t. valued none f (num t)) (t ∷ ts) ≡ true
      by None n tail =
          later (is_none (valued none f (num t))) (one_none is_none (λ t. valued none f (num t)) ts)
          (tail (sym (ap (λ cs. is_in cs c) (skipped num t ts n)) ∙ here))
      by (Some d) n tail =
          either-in d c (filter_map num ts) (one_none is_none (λ t. valued none f (num t)) (t ∷ ts) ≡ true) (sym (ap (λ cs. is_in cs c) (taken num t ts d n)) ∙ here)
          (λ same. ap (λ b. b || one_none is_none (λ t. valued none f (num t)) ts) (ap (λ o. is_none (valued none f o)) n ∙ ap is_none (ap f (sym same) ∙ blank) ∙ z))
          (λ rest. later (is_none (valued none f (num t))) (one_none is_none (λ t. valued none f (num t)) ts) (tail rest))

pub numbers-within : (num : List ℕ → Option ℕ) (bound : ℕ) → ((t : List ℕ) (k : ℕ) → num t ≡ Some k → k < bound) → (ts : List (List ℕ)) (c : ℕ) → is_in (filter_map num ts) c ≡ true → c < bound
numbers-within num bound w [] c here = absurd (true≢false (sym here))
numbers-within num bound w (t ∷ ts) c here = by (num t) refl (numbers-within num bound w ts c)
  where
    by : (o : Option ℕ) → num t ≡ o → (is_in (filter_map num ts) c ≡ true → c < bound) → c < bound
    by None n tail = tail (sym (ap (λ cs. is_in cs c) (skipped num t ts n)) ∙ here)
    by (Some d) n tail =
        either-in d c (filter_map num ts) (c < bound) (sym (ap (λ cs. is_in cs c) (taken num t ts d n)) ∙ here)
        (λ same. let lt = w t d n in omega (arith, same, lt))
        tail

pub among-within : (types : List Synonym) (ts : List (List ℕ)) (c : ℕ) → is_in (filter_map (type_number types) ts) c ≡ true → c < length types
among-within types ts c here = numbers-within (type_number types) (length types) (λ t k h. position-within (λ s. bytes_eq t s.name.text) types k h) ts c here

length-map : {A B : Type 0} (f : A → B) (xs : List A) → length (map f xs) ≡ length xs
length-map f [] = refl
length-map f (x ∷ xs) = ap suc (length-map f xs)

-- what a sort stands for where its names do, and the names on which that depends
module _ {V : Type 0} (none : V) (is_none : V → Bool) (none_is : is_none none ≡ true) (names_in : Sort → List (List ℕ)) (stands : (List ℕ → V) → Sort → V)
    (agrees : (s : Sort) (f h : List ℕ → V) → AllSame f h (names_in s) → stands f s ≡ stands h s)
    (stricts : (s : Sort) (f : List ℕ → V) → one_none is_none f (names_in s) ≡ true → stands f s ≡ none) (types : List Synonym) where
  abbrev pub name_graph : Graph
  name_graph = map (λ s. filter_map (type_number types) (names_in s.sort)) types

  abbrev pub type_step : (ℕ → V) → ℕ → V
  type_step f i = from_node none (λ s. stands (λ t. valued none f (type_number types t)) s.sort) (slice_get types i)

  edges-of : (i : ℕ) (o : Option Synonym) → slice_get types i ≡ o → edges name_graph i ≡ unwrap_or (option_map (λ s. filter_map (type_number types) (names_in s.sort)) o) []
  edges-of i o h = ap (λ v. unwrap_or v []) (slice_get-map (λ s. filter_map (type_number types) (names_in s.sort)) types i ∙ ap (option_map (λ s. filter_map (type_number types) (names_in s.sort))) h)

  pub type-step : IsStep none type_step name_graph
  type-step = record { agree = agree; strict = strict; inside = inside }
    where
      agree : (f h : ℕ → V) (i : ℕ) → ((c : ℕ) → is_in (edges name_graph i) c ≡ true → f c ≡ h c) → type_step f i ≡ type_step h i
      agree f h i e = by (slice_get types i) refl
        where
          by : (o : Option Synonym) → slice_get types i ≡ o → type_step f i ≡ type_step h i
          by None n = ap (from_node none (λ s. stands (λ t. valued none f (type_number types t)) s.sort)) n ∙ sym (ap (from_node none (λ s. stands (λ t. valued none h (type_number types t)) s.sort)) n)
          by (Some s) n =
              ap (from_node none (λ s. stands (λ t. valued none f (type_number types t)) s.sort)) n
              ∙ agrees s.sort (λ t. valued none f (type_number types t)) (λ t. valued none h (type_number types t))
              (same-names none (type_number types) f h (names_in s.sort) (λ c here. e c (ap (λ cs. is_in cs c) (edges-of i (Some s) n) ∙ here)))
              ∙ sym (ap (from_node none (λ s. stands (λ t. valued none h (type_number types t)) s.sort)) n)

      strict : (f : ℕ → V) (i c : ℕ) → is_in (edges name_graph i) c ≡ true → f c ≡ none → type_step f i ≡ none
      strict f i c here blank = by (slice_get types i) refl
        where
          by : (o : Option Synonym) → slice_get types i ≡ o → type_step f i ≡ none
          by None n = ap (from_node none (λ s. stands (λ t. valued none f (type_number types t)) s.sort)) n
          by (Some s) n =
              ap (from_node none (λ s. stands (λ t. valued none f (type_number types t)) s.sort)) n
              ∙ stricts s.sort (λ t. valued none f (type_number types t))
              (none-among none (type_number types) is_none none_is f (names_in s.sort) c (sym (ap (λ cs. is_in cs c) (edges-of i (Some s) n)) ∙ here) blank)

      inside : (i c : ℕ) → is_in (edges name_graph i) c ≡ true → c < length name_graph
      inside i c here = by (slice_get types i) refl
        where
          by : (o : Option Synonym) → slice_get types i ≡ o → c < length name_graph
          by None n = absurd (true≢false (sym here ∙ ap (λ cs. is_in cs c) (edges-of i None n)))
          by (Some s) n =
              let w = among-within types (names_in s.sort) c (sym (ap (λ cs. is_in cs c) (edges-of i (Some s) n)) ∙ here) in
              let l = length-map (λ s. filter_map (type_number types) (names_in s.sort)) types in
              omega (arith, w, l)

  -- what a name stands for after so many steps
  abbrev pub after : ℕ → List ℕ → V
  after zero text = none
  after (suc k) text = from_node none (λ s. stands (after k) s.sort) (type_named types text)

  pub after-iterated : (k : ℕ) (text : List ℕ) → after k text ≡ valued none (iterated none type_step k) (type_number types text)
  after-iterated zero text = by (type_number types text)
    where
      by : (o : Option ℕ) → none ≡ valued none (λ i. none) o
      by None = refl
      by (Some i) = refl
  after-iterated (suc k) text =
      ap (from_node none (λ s. stands (after k) s.sort)) (find-position (λ s. bytes_eq text s.name.text) types) ∙ by (λ j t. after-iterated k t j) (type_number types text)
    where
      by : after k ≡ (λ t. valued none (iterated none type_step k) (type_number types t)) → (o : Option ℕ) → from_node none (λ s. stands (after k) s.sort) (option_and_then (slice_get types) o) ≡ valued none (type_step (iterated none type_step k)) o
      by same None = refl
      by same (Some i) = ap (λ F. from_node none (λ (s : Synonym). stands F s.sort) (slice_get types i)) same

  -- the noted values are what names stand for
  pub all-noted : (ns : List ℕ) → IsOrder name_graph ns → (h : ℕ) (memo : List V) → length ns ≤ h → IsNoted none type_step name_graph (take h ns) memo
      → (text : List ℕ) → after (length types) text ≡ noted none memo (type_number types text)
  all-noted ns o h memo past n text = after-iterated (length types) text ∙ by (type_number types text) refl
    where
      size : length name_graph ≡ length types
      size = length-map (λ s. filter_map (type_number types) (names_in s.sort)) types

      by : (v : Option ℕ) → type_number types text ≡ v → valued none (iterated none type_step (length types)) v ≡ valued none (listed_value none memo) v
      by None e = refl
      by (Some c) e =
          let w = position-within (λ s. bytes_eq text s.name.text) types c e in
          ap (λ k. iterated none type_step k c) (sym size) ∙ sym (noted-all none type_step name_graph type-step ns o h memo past n c (omega (arith, w, size)))

-- ---- the two kinds of values

abbrev pub map_step : List Synonym → (ℕ → Bool) → ℕ → Bool
map_step types = type_step false not refl heads written_as_map written-agree written-strict types

abbrev pub sort_step : List Synonym → (ℕ → Option Resolved) → ℕ → Option Resolved
sort_step types = type_step None is_none refl mentions resolved_by resolved-agree resolved-strict types

names-map-after : (types : List Synonym) (k : ℕ) (text : List ℕ) → names_map k types text ≡ after false not refl heads written_as_map written-agree written-strict types k text
names-map-after types zero text = refl
names-map-after types (suc k) text = by (λ j t. names-map-after types k t j) (type_named types text)
  where
    by : names_map k types ≡ after false not refl heads written_as_map written-agree written-strict types k → (o : Option Synonym) → is_map_if (λ s. written_as_map (names_map k types) s.sort) o ≡ from_node false (λ s. written_as_map (after false not refl heads written_as_map written-agree written-strict types k) s.sort) o
    by same None = refl
    by same (Some s) = ap (λ F. written_as_map F s.sort) same

named-sort-after : (types : List Synonym) (k : ℕ) (text : List ℕ) → named_sort k types text ≡ after None is_none refl mentions resolved_by resolved-agree resolved-strict types k text
named-sort-after types zero text = refl
named-sort-after types (suc k) text = by (λ j t. named-sort-after types k t j) (type_named types text)
  where
    by : named_sort k types ≡ after None is_none refl mentions resolved_by resolved-agree resolved-strict types k → (o : Option Synonym) → option_and_then (λ s. resolved_by (named_sort k types) s.sort) o ≡ from_node None (λ s. resolved_by (after None is_none refl mentions resolved_by resolved-agree resolved-strict types k) s.sort) o
    by same None = refl
    by same (Some s) = ap (λ F. resolved_by F s.sort) same

pub maps-noted : (types : List Synonym) (ns : List ℕ) → IsOrder (head_graph types) ns → (h : ℕ) (memo : List Bool) → length ns ≤ h → IsNoted false (map_step types) (head_graph types) (take h ns) memo
    → (text : List ℕ) → names_map (length types) types text ≡ noted false memo (type_number types text)
maps-noted types ns o h memo past n text =
    names-map-after types (length types) text ∙ all-noted false not refl heads written_as_map written-agree written-strict types ns o h memo past n text

pub sorts-noted : (types : List Synonym) (ns : List ℕ) → IsOrder (type_graph types) ns → (h : ℕ) (memo : List (Option Resolved)) → length ns ≤ h → IsNoted None (sort_step types) (type_graph types) (take h ns) memo
    → (text : List ℕ) → named_sort (length types) types text ≡ noted None memo (type_number types text)
sorts-noted types ns o h memo past n text =
    named-sort-after types (length types) text ∙ all-noted None is_none refl mentions resolved_by resolved-agree resolved-strict types ns o h memo past n text

-- one type more
pub maps-more : (types : List Synonym) (ns : List ℕ) → IsOrder (head_graph types) ns → (h : ℕ) (memo : List Bool) (v : Bool) (n : ℕ) → h < length ns → n ≡ get_or ns h 0 → v ≡ map_step types (listed_value false memo) n
    → IsNoted false (map_step types) (head_graph types) (take h ns) memo → IsNoted false (map_step types) (head_graph types) (take (h + 1) ns) (set memo n v)
maps-more types ns o h memo v n within at value noted =
    noted-more false (map_step types) (head_graph types) (type-step false not refl heads written_as_map written-agree written-strict types) ns o h memo v n within at value noted

pub sorts-more : (types : List Synonym) (ns : List ℕ) → IsOrder (type_graph types) ns → (h : ℕ) (memo : List (Option Resolved)) (v : Option Resolved) (n : ℕ) → h < length ns → n ≡ get_or ns h 0
    → v ≡ sort_step types (listed_value None memo) n → IsNoted None (sort_step types) (type_graph types) (take h ns) memo → IsNoted None (sort_step types) (type_graph types) (take (h + 1) ns) (set memo n v)
sorts-more types ns o h memo v n within at value noted =
    noted-more None (sort_step types) (type_graph types) (type-step None is_none refl mentions resolved_by resolved-agree resolved-strict types) ns o h memo v n within at value noted

-- ---- the loops begin with nothing noted

no-value : {V : Type 0} (v : V) (n c : ℕ) → get_or (replicate n v) c v ≡ v
no-value v zero c = refl
no-value v (suc n) zero = refl
no-value v (suc n) (suc c) = no-value v n c

pub nothing-noted : {V : Type 0} (none : V) (step : (ℕ → V) → ℕ → V) (g : Graph) (n : ℕ) → n ≡ length g → IsNoted none step g [] (replicate n none)
nothing-noted none step g n e = record { known = λ c h. absurd (true≢false (sym h)); blank = λ c h. no-value none n c; size = length-replicate n none ∙ e }

-- ---- names behind references

number-names : (types : List Synonym) → number_among (map (λ s. s.name.text) types) ≡ type_number types
number-names types = λ j t. position-map (bytes_eq t) (λ (s : Synonym). s.name.text) types j

map-now : {A B : Type 0} (f : A → B) (xs : List (Bor A)) → map (λ x. f x.now) xs ≡ map f (map (λ x. x.now) xs)
map-now f [] = refl
map-now f (x ∷ xs) = ap (λ ys. f x.now ∷ ys) (map-now f xs)

pub names-known : (types : List (Bor Synonym)) (names : List (List ℕ)) → names ≡ map (λ s. s.now.name.text) types → number_among names ≡ type_number (map (λ s. s.now) types)
names-known types names e = ap number_among (e ∙ map-now (λ (s : Synonym). s.name.text) types) ∙ number-names (map (λ s. s.now) types)

pub graph-known : (names_in : Sort → List (List ℕ)) (types : List (Bor Synonym)) (names : List (List ℕ)) (g : Graph) → names ≡ map (λ s. s.now.name.text) types
    → g ≡ map (λ s. filter_map (number_among names) (names_in s.now.sort)) types
    → g ≡ map (λ s. filter_map (type_number (map (λ s. s.now) types)) (names_in s.sort)) (map (λ s. s.now) types)
graph-known names_in types names g e h =
    h ∙ map-now (λ (s : Synonym). filter_map (number_among names) (names_in s.sort)) types
    ∙ ap (λ num. map (λ (s : Synonym). filter_map num (names_in s.sort)) (map (λ s. s.now) types)) (names-known types names e)

at-now : {V A : Type 0} (none : V) (F : A → V) (xs : List (Bor A)) (n : ℕ) → from_node none (λ x. F x.now) (slice_get xs n) ≡ from_node none F (slice_get (map (λ x. x.now) xs) n)
at-now {A = A} none F xs n = by (slice_get xs n) ∙ sym (ap (from_node none F) (slice_get-map (λ x. x.now) xs n))
  where
    by : (o : Option (Bor A)) → from_node none (λ x. F x.now) o ≡ from_node none F (option_map (λ x. x.now) o)
    by None = refl
    by (Some x) = refl

-- the value of one type, by the names and what is noted
pub map-value : (types : List (Bor Synonym)) (names : List (List ℕ)) (flags : List Bool) (n : ℕ) (v : Bool) → names ≡ map (λ s. s.now.name.text) types
    → v ≡ from_node false (λ s. written_as_map (λ t. noted false flags (number_among names t)) s.now.sort) (slice_get types n) → v ≡ map_step (map (λ s. s.now) types) (listed_value false flags) n
map-value types names flags n v e h =
    h ∙ at-now false (λ (s : Synonym). written_as_map (λ t. noted false flags (number_among names t)) s.sort) types n
    ∙ ap (λ num. from_node false (λ (s : Synonym). written_as_map (λ t. noted false flags (num t)) s.sort) (slice_get (map (λ s. s.now) types) n)) (names-known types names e)

pub sort-value : (types : List (Bor Synonym)) (names : List (List ℕ)) (sorts : List (Option Resolved)) (n : ℕ) (v : Option Resolved) → names ≡ map (λ s. s.now.name.text) types
    → v ≡ from_node None (λ s. resolved_by (λ t. noted None sorts (number_among names t)) s.now.sort) (slice_get types n) → v ≡ sort_step (map (λ s. s.now) types) (listed_value None sorts) n
sort-value types names sorts n v e h =
    h ∙ at-now None (λ (s : Synonym). resolved_by (λ t. noted None sorts (number_among names t)) s.sort) types n
    ∙ ap (λ num. from_node None (λ (s : Synonym). resolved_by (λ t. noted None sorts (num t)) s.sort) (slice_get (map (λ s. s.now) types) n)) (names-known types names e)

pub same-count : {A B : Type 0} (f : A → B) (xs : List A) → length (map f xs) ≡ length xs
same-count f xs = length-map f xs

-- what a sort stands for, by what is noted
pub resolved-noted : (types : List Synonym) (names : List (List ℕ)) (maps : List Bool) (sorts : List (Option Resolved)) → AreTypes types names maps sorts → (sort : Sort)
    → resolved_by (λ t. noted None sorts (number_among names t)) sort ≡ resolved types sort
resolved-noted types names maps sorts are sort =
    ap (λ ns. resolved_by (λ t. noted None sorts (number_among ns t)) sort) are.numbered ∙ ap (λ num. resolved_by (λ t. noted None sorts (num t)) sort) (number-names types)
    ∙ ap (λ F. resolved_by F sort) same
  where
    same : (λ t. noted None sorts (type_number types t)) ≡ named_sort (length types) types
    same = λ j t. sym (are.stand_for t) j

pub noted-map : (types : List Synonym) (names : List (List ℕ)) (maps : List Bool) (sorts : List (Option Resolved)) → AreTypes types names maps sorts → (text : List ℕ)
    → noted false maps (number_among names text) ≡ names_map (length types) types text
noted-map types names maps sorts are text =
    ap (λ ns. noted false maps (number_among ns text)) are.numbered ∙ ap (λ num. noted false maps (num text)) (number-names types) ∙ sym (are.are_maps text)

pub known-number : (types : List Synonym) (names : List (List ℕ)) (text : List ℕ) → names ≡ map (λ s. s.name.text) types → number_among names text ≡ type_number types text
known-number types names text e = ap (λ ns. number_among ns text) e ∙ ap (λ num. num text) (number-names types)

pub sort-of-noted : (types self : List Synonym) (names : List (List ℕ)) (maps : List Bool) (sorts sorts1 : List (Option Resolved)) (sort : Sort) (r : Option Resolved) → types ≡ self → AreTypes types names maps sorts
    → sorts1 ≡ sorts → r ≡ resolved_by (λ t. noted None sorts1 (number_among names t)) sort → r ≡ resolved self sort
sort-of-noted types self names maps sorts sorts1 sort r t are s h =
    h ∙ ap (λ ss. resolved_by (λ t. noted None ss (number_among names t)) sort) s ∙ resolved-noted types names maps sorts are sort ∙ ap (λ ts. resolved ts sort) t

pub map-noted : (types self : List Synonym) (names : List (List ℕ)) (maps maps1 : List Bool) (sorts : List (Option Resolved)) (text : List ℕ) (r : Bool) → types ≡ self → AreTypes types names maps sorts
    → maps1 ≡ maps → r ≡ noted false maps1 (number_among names text) → r ≡ names_map (length self) self text
map-noted types self names maps maps1 sorts text r t are m h =
    h ∙ ap (λ ms. noted false ms (number_among names text)) m ∙ noted-map types names maps sorts are text ∙ ap (λ ts. names_map (length ts) ts text) t

pub number-noted : (types self : List Synonym) (names : List (List ℕ)) (maps : List Bool) (sorts : List (Option Resolved)) (text : List ℕ) → types ≡ self → AreTypes types names maps sorts → number_among names text ≡ type_number self text
number-noted types self names maps sorts text t are = known-number types names text are.numbered ∙ ap (λ ts. type_number ts text) t

-- what is noted of all types
pub types-made : (ss s1 s2 s3 : List (Bor Synonym)) (ts : List (Bor (List ℕ))) (numbers : List (List ℕ)) (maps : List Bool) (sorts : List (Option Resolved)) → s1 ≡ ss → s2 ≡ ss → s3 ≡ ss
    → map (λ t. t.now) ts ≡ map (λ s. s.now.name.text) s1 → numbers ≡ map (λ t. t.now) ts
    → ((text : List ℕ) → names_map (length s2) (map (λ s. s.now) s2) text ≡ noted false maps (type_number (map (λ s. s.now) s2) text))
    → ((text : List ℕ) → named_sort (length s3) (map (λ s. s.now) s3) text ≡ noted None sorts (type_number (map (λ s. s.now) s3) text))
    → AreTypes (map (λ s. s.now) ss) numbers maps sorts
types-made ss s1 s2 s3 ts numbers maps sorts e1 e2 e3 names n m r =
    let size : length ss ≡ length (map (λ s. s.now) ss) = sym (length-map (λ s. s.now) ss) in
    record {
      numbered = n ∙ names ∙ ap (λ v. map (λ s. s.now.name.text) v) e1 ∙ map-now (λ (s : Synonym). s.name.text) ss;
      are_maps = λ text.
          sym (ap (λ k. names_map k (map (λ s. s.now) ss) text) size) ∙ sym (ap (λ (v : List (Bor Synonym)). names_map (length v) (map (λ s. s.now) v) text) e2) ∙ m text
          ∙ ap (λ (v : List (Bor Synonym)). noted false maps (type_number (map (λ s. s.now) v) text)) e2;
      stand_for = λ text.
          sym (ap (λ k. named_sort k (map (λ s. s.now) ss) text) size) ∙ sym (ap (λ (v : List (Bor Synonym)). named_sort (length v) (map (λ s. s.now) v) text) e3) ∙ r text
          ∙ ap (λ (v : List (Bor Synonym)). noted None sorts (type_number (map (λ s. s.now) v) text)) e3;
    }

-- the loops, by the types behind references
pub flags-further : (types : List (Bor Synonym)) (names : List (List ℕ)) (ns : List ℕ) → names ≡ map (λ s. s.now.name.text) types → IsOrder (head_graph (map (λ s. s.now) types)) ns → (h : ℕ) (old old1 new : List Bool) (v : Bool) → h < length ns
    → old1 ≡ old → v ≡ from_node false (λ s. written_as_map (λ t. noted false old1 (number_among names t)) s.now.sort) (slice_get types (get_or ns h 0)) → new ≡ set old (get_or ns h 0) v
    → IsNoted false (map_step (map (λ s. s.now) types)) (head_graph (map (λ s. s.now) types)) (take h ns) old
    → IsNoted false (map_step (map (λ s. s.now) types)) (head_graph (map (λ s. s.now) types)) (take (h + 1) ns) new
flags-further types names ns e o h old old1 new v within same value put noted =
    subst (λ (fs : List Bool). IsNoted false (map_step (map (λ s. s.now) types)) (head_graph (map (λ s. s.now) types)) (take (h + 1) ns) fs) (sym put)
    (maps-more (map (λ s. s.now) types) ns o h old v (get_or ns h 0) within refl
    (map-value types names old1 (get_or ns h 0) v e value ∙ ap (λ fs. map_step (map (λ s. s.now) types) (listed_value false fs) (get_or ns h 0)) same) noted)

pub sorts-further : (types : List (Bor Synonym)) (names : List (List ℕ)) (ns : List ℕ) → names ≡ map (λ s. s.now.name.text) types → IsOrder (type_graph (map (λ s. s.now) types)) ns → (h : ℕ) (old old1 new : List (Option Resolved)) (v : Option Resolved) → h < length ns
    → old1 ≡ old → v ≡ from_node None (λ s. resolved_by (λ t. noted None old1 (number_among names t)) s.now.sort) (slice_get types (get_or ns h 0)) → new ≡ set old (get_or ns h 0) v
    → IsNoted None (sort_step (map (λ s. s.now) types)) (type_graph (map (λ s. s.now) types)) (take h ns) old
    → IsNoted None (sort_step (map (λ s. s.now) types)) (type_graph (map (λ s. s.now) types)) (take (h + 1) ns) new
sorts-further types names ns e o h old old1 new v within same value put noted =
    subst (λ (fs : List (Option Resolved)). IsNoted None (sort_step (map (λ s. s.now) types)) (type_graph (map (λ s. s.now) types)) (take (h + 1) ns) fs) (sym put)
    (sorts-more (map (λ s. s.now) types) ns o h old v (get_or ns h 0) within refl
    (sort-value types names old1 (get_or ns h 0) v e value ∙ ap (λ fs. sort_step (map (λ s. s.now) types) (listed_value None fs) (get_or ns h 0)) same) noted)

pub flags-done : (types : List (Bor Synonym)) (ns : List ℕ) → IsOrder (head_graph (map (λ s. s.now) types)) ns → (h : ℕ) (memo : List Bool) → length ns ≤ h
    → IsNoted false (map_step (map (λ s. s.now) types)) (head_graph (map (λ s. s.now) types)) (take h ns) memo
    → (text : List ℕ) → names_map (length types) (map (λ s. s.now) types) text ≡ noted false memo (type_number (map (λ s. s.now) types) text)
flags-done types ns o h memo past n text =
    ap (λ k. names_map k (map (λ s. s.now) types) text) (sym (length-map (λ s. s.now) types)) ∙ maps-noted (map (λ s. s.now) types) ns o h memo past n text

pub sorts-done : (types : List (Bor Synonym)) (ns : List ℕ) → IsOrder (type_graph (map (λ s. s.now) types)) ns → (h : ℕ) (memo : List (Option Resolved)) → length ns ≤ h
    → IsNoted None (sort_step (map (λ s. s.now) types)) (type_graph (map (λ s. s.now) types)) (take h ns) memo
    → (text : List ℕ) → named_sort (length types) (map (λ s. s.now) types) text ≡ noted None memo (type_number (map (λ s. s.now) types) text)
sorts-done types ns o h memo past n text =
    ap (λ k. named_sort k (map (λ s. s.now) types) text) (sym (length-map (λ s. s.now) types)) ∙ sorts-noted (map (λ s. s.now) types) ns o h memo past n text

-- edges of the graph of types lead to types
pub sorts-closed : (types : List Synonym) → (i c : ℕ) → is_in (edges (type_graph types) i) c ≡ true → c < length (type_graph types)
sorts-closed types = (type-step None is_none refl mentions resolved_by resolved-agree resolved-strict types).inside

pub ruleset type_laws = (heads-boolean, heads-bits, heads-named, heads-map, part-boolean, part-bits, part-named, part-map, mentions-boolean, mentions-bits, mentions-named, mentions-map, resolved-boolean, resolved-bits, resolved-named, resolved-map, filter_map-append, append_assoc, nil-append)
