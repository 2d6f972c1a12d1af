-- The entries of map nodes at an index, one after the other.
use Rattle.std.proofs.Common.{◌≡◌, ℕ, zero, suc, ◌<◌, Bool, true, false, ◌&&◌, List, [], ◌∷◌, ◌++◌, length, arith, sym, ◌∙◌, ap, refl, subst}
use Rattle.std.specs.Prelude.{Option, None, Some, if◌then◌else◌, slice_get, slice_index, IsTrue, IsSome, nat_eq}
use Rattle.std.specs.Option.{unwrap_or}
use Rattle.std.proofs.lemmas.Bool.Decides.{nat_tests}
use Rattle.std.proofs.lemmas.Option.{slice_get_within}
use Rattle.hy_val.specs.Sorts.{scalar_of, has_scalar, is_scalar, zero_of_scalar}
use Rattle.hy_val.specs.NodeSorts.{is_sort}
use Rattle.hy_val.specs.Operators.{sort_of_binary}
use Rattle.hy_val.specs.Values.{binary_value, pick, select_value}
use Rattle.hy_val.specs.declared.atom.Atom.{Atom}
use Rattle.hy_val.specs.declared.sort.Scalar.{Scalar}
use Rattle.hy_val.specs.declared.sort.ScalarKind.TheVariants.{Bool as BoolSort, Bv as BvSort}
use Rattle.hy_val.specs.declared.sort.Sort.{Sort}
use Rattle.hy_val.specs.declared.sort.SortKind.TheVariants.{Scalar as ScalarSort, Map as MapSort}
use Rattle.hy_val.specs.declared.operator.UnOp.{UnOp}
use Rattle.hy_val.specs.declared.operator.BvOp.{BvOp}
use Rattle.hy_val.specs.declared.operator.BvOp.TheVariants.{Eq}
use Rattle.hy_val.specs.declared.value.Value.{Value}
use Rattle.hy_val.proofs.Lawful.{keep_sorts}
use Rattle.hy_val.proofs.Lists.{slice_get-left, slice_get-seam}
use Rattle.hy_val.proofs.ResultSorts.{has_scalar_is}
use Rattle.hy_term.specs.TermSorts.{sorts, sort_at, sort_behind, sort_of_number, agree_onto}
use Rattle.hy_term.specs.Meaning.{value}
use Rattle.hy_term.specs.Variables.{below}
use Rattle.hy_term.specs.declared.node.TermNode.{TermNode}
use Rattle.hy_term.specs.declared.node.TermNode.TheVariants.{Lit, ZeroMap, Variable, Unary, Binary, If, Select, Store}
use Rattle.hy_term.proofs.Growing.{node_values}
use Rattle.hy_term.proofs.Sorting.{and_left, and_right}
use Rattle.map_axioms.specs.declared.entry.Entry.{Entry}
use Rattle.map_axioms.specs.Shared.{Shared}
use Rattle.map_axioms.specs.Steps.{entry_number, home, Stands, EntryKept, Later, State, IsReduced, AllReduced, renamed, Placed, Taken, IsAsked, asked, found, Apart, EntryStands, row_at, MapsKnown, RowsStand, Read, IsRow}
use Rattle.map_axioms.proofs.Cases.{case_at, unary_case, binary_case, if_case, select_case, store_case}
use Rattle.map_axioms.proofs.Homes.{number_at, below_at, home_number, home_source, home_entry, number_is, same_number}
use Rattle.map_axioms.proofs.Standing.{stands_later, entry_later, later_same, Addable, addable_binary, addable_if, stands_as, reduced_later}
use Rattle.map_axioms.proofs.Sharing.{given, placed, stands_at, number_there}
use Rattle.map_axioms.proofs.Storing.{select_of_store, select_of_pick}
use Rattle.map_axioms.proofs.Nodes.{Ground, addable_node, addable_as, is_select, behind_leaf, if_is, if_this, sound_at, has_its_sort}

pub no_scalar : (P : Type 0) (s : Scalar) (i e : Scalar) → ScalarSort s ≡ MapSort i e → P
no_scalar P s i e h = absurd (let no : ScalarSort s ≡ MapSort i e → ⊥ = λ q. cc in no h)

-- ---- the reduced node of a node

module _ (base : ℕ) (nodes out : List TermNode) (es : List Entry) (reds : List ℕ) (g : Ground base nodes out es reds) where
  pub taken_node : (node : TermNode) (s : Scalar) → sort_at nodes (length reds) ≡ Some (ScalarSort s) → slice_get nodes (length reds) ≡ Some node → is_select node ≡ false
      → (out' : List TermNode) (k : ℕ) → Shared out (renamed reds node) out' k → Taken base nodes out es out' es (length reds) k
  taken_node node s h is other out' k shared =
      let a = addable_node base nodes out es reds g node s h is other in
      let p = placed base nodes out es out' (renamed reds node) s k (λ a. value a nodes (length reds)) g.state a shared in
      let there = stands_at out (renamed reds node) out' k shared in
      record {
        state = p.state;
        later = p.later;
        red = record {
          stands = λ t e.
              let same : s ≡ t = cc in
              subst (λ (r : Scalar). Stands nodes out' es r k (λ a. value a nodes (length reds))) same p.stands;
          variable = λ n t e.
              let same : node ≡ Variable n (ScalarSort t) = cc in
              let mine : home base nodes n ≡ Some (ScalarSort t) = home_source base nodes n (below_at base nodes (length reds) n (ScalarSort t) g.under e) ∙ number_at nodes (length reds) n (ScalarSort t) g.agree e in
              number_there n out' k (ScalarSort t) (there ∙ ap (λ (x : TermNode). Some (renamed reds x)) same)
              (λ u q. let theirs = home_number base nodes out' n u p.state.at_home q in let one : u ≡ ScalarSort t = cc in one);
        };
      }

  -- a map has none
  pub taken_none : (i e : Scalar) (t : ℕ) → sort_at nodes (length reds) ≡ Some (MapSort i e) → Taken base nodes out es out es (length reds) t
  taken_none i e t h = record {
    state = g.state;
    later = later_same base nodes out es g.state;
    red = record {
      stands = λ s k. let other : ScalarSort s ≡ MapSort i e = cc in no_scalar (Stands nodes out es s t (λ a. value a nodes (length reds))) s i e other;
      variable = λ n s k.
          let c = case_at nodes (length reds) (Variable n (ScalarSort s)) (MapSort i e) h k in
          let x = if_is (is_sort (ScalarSort s)) (ScalarSort s) (MapSort i e) c.is in
          no_scalar (sort_of_number n out ≡ Some (ScalarSort s)) s i e x.0;
    };
  }

  pub child : (j : ℕ) (s : Scalar) → j < length reds → sort_at nodes j ≡ Some (ScalarSort s) → Stands nodes out es s (slice_index reds j) (λ a. value a nodes j)
  child j s l h = (g.each j l).stands s h

-- a select is reduced to the entry of its map
pub select_reduced : (nodes out : List TermNode) (es : List Entry) (k m i t : ℕ) → slice_get nodes k ≡ Some (Select m i) → EntryStands nodes out es i m t → IsReduced nodes out es k t
select_reduced nodes out es k m i t is h = record {
  stands = λ s e.
      let c = case_at nodes k (Select m i) (ScalarSort s) e is in
      let u = select_case (slice_get c.known m) (slice_get c.known i) (ScalarSort s) c.is in
      let low = c.lower m (MapSort u.index u.elem) u.map in
      let same : u.elem ≡ s = let q = u.is in cc in
      subst (λ (r : Scalar). Stands nodes out es r t (λ a. value a nodes k)) same
      (stands_as nodes out es u.elem t (λ a. select_value (value a nodes m) (value a nodes i)) (λ a. value a nodes k)
      (λ a ok. sym (node_values a nodes k (Select m i) (sound_at nodes k (ScalarSort s) e) is)) (h u.index u.elem low.1));
  variable = λ n s e. cc;
}

-- ---- an entry of a map variable

record Found (m i t : ℕ) (es : List Entry) : Type 0 where
  pub place : ℕ
  pub entry : Entry
  pub there : slice_get es place ≡ Some entry
  pub map : entry.map ≡ m
  pub at : entry.place ≡ i
  pub is : entry.entry ≡ t

found_by : (m i t : ℕ) (e : Entry) (es : List Entry) (b : Bool) → (nat_eq e.map m && nat_eq e.place i) ≡ b → (if b then Some e.entry else asked m i es) ≡ Some t → (asked m i es ≡ Some t → Found m i t es)
    → Found m i t (e ∷ es)
found_by m i t e es true test h ih = record {
  place = 0;
  entry = e;
  there = refl;
  map = number_is e.map m (and_left (nat_eq e.map m) (nat_eq e.place i) test);
  at = number_is e.place i (and_right (nat_eq e.map m) (nat_eq e.place i) test);
  is = cc;
}
found_by m i t e es false test h ih =
    let f = ih h in
    record { place = suc f.place; entry = f.entry; there = f.there; map = f.map; at = f.at; is = f.is }

found_entry : (m i t : ℕ) (es : List Entry) → asked m i es ≡ Some t → Found m i t es
found_entry m i t [] h = cc
found_entry m i t (e ∷ es) h = found_by m i t e es (nat_eq e.map m && nat_eq e.place i) refl h (found_entry m i t es)

-- a kept entry's node stands for the entry
pub entry_stands : (base : ℕ) (nodes out : List TermNode) (es : List Entry) (j : ℕ) (e : Entry) → slice_get es j ≡ Some e → (k : EntryKept base nodes out es e)
    → Stands nodes out es k.elem e.entry (λ a. select_value (a e.map) (value a nodes e.place))
entry_stands base nodes out es j e is k = record {
  sort = k.sort;
  means = λ a b ok link. k.is b ∙ link.maps j e is (k.stands.means a b ok link);
}

pub entry_found : (base : ℕ) (nodes out : List TermNode) (es : List Entry) (m i index t : ℕ) (elem : Scalar) → State base nodes out es → IsAsked base nodes out es m i index elem → asked m i es ≡ Some t
    → Placed base nodes out es out es elem t (λ a. select_value (a m) (value a nodes i))
entry_found base nodes out es m i index t elem st ask h =
    let f = found_entry m i t es h in
    let e = f.entry in
    let k = st.entry f.place f.entry f.there in
    let sort : Some (MapSort k.index k.elem) ≡ Some (MapSort ask.sort elem) = sym k.map ∙ ap (λ (n : ℕ). sort_of_number n nodes) f.map ∙ ask.map in
    let same : k.elem ≡ elem = cc in
    let s : Stands nodes out es elem f.entry.entry (λ a. select_value (a f.entry.map) (value a nodes f.entry.place)) =
    subst (λ (r : Scalar). Stands nodes out es r f.entry.entry (λ a. select_value (a f.entry.map) (value a nodes f.entry.place))) same (entry_stands base nodes out es f.place f.entry f.there k) in
    record {
      state = st;
      later = later_same base nodes out es st;
      stands =
          subst (λ (x : ℕ). Stands nodes out es elem t (λ a. select_value (a m) (value a nodes x))) f.at
          (subst (λ (x : ℕ). Stands nodes out es elem t (λ a. select_value (a x) (value a nodes f.entry.place))) f.map
          (subst (λ (x : ℕ). Stands nodes out es elem x (λ a. select_value (a f.entry.map) (value a nodes f.entry.place))) f.is s));
    }

-- the variable for an entry may be added
pub entry_addable : (base : ℕ) (nodes out : List TermNode) (es : List Entry) (m i index : ℕ) (elem : Scalar) → State base nodes out es → IsAsked base nodes out es m i index elem → IsTrue (is_scalar elem)
    → (sort_behind out (Variable (entry_number base i m) (ScalarSort elem)) ≡ Some (ScalarSort elem)) × (home base nodes (entry_number base i m) ≡ Some (ScalarSort elem))
entry_addable base nodes out es m i index elem st ask own = (
  behind_leaf out (Variable (entry_number base i m) (ScalarSort elem)) (ScalarSort elem) st.sound (λ ss. if_this (is_scalar elem) (ScalarSort elem) own),
  home_entry base nodes i m ask.sort elem ask.under ask.map,
)

last_or : (es : List Entry) (e : Entry) (j : ℕ) (x : Entry) (P : ℕ → Entry → Type 0) → slice_get (es ++ e ∷ []) j ≡ Some x → ((k : ℕ) (y : Entry) → slice_get es k ≡ Some y → P k y) → P (length es) e → P j x
last_or [] e zero x P is old new = let same : e ≡ x = cc in subst (P 0) same new
last_or [] e (suc j) x P is old new = absurd (let no : None ≡ Some x → ⊥ = λ q. cc in no is)
last_or (y ∷ es) e zero x P is old new = old 0 x is
last_or (y ∷ es) e (suc j) x P is old new = last_or es e j x (λ k z. P (suc k) z) is (λ k z q. old (suc k) z q) new

none_by : (b c : Bool) (x y : ℕ) (o p : Option ℕ) → (if b then Some x else o) ≡ None → o ≡ None
none_by true c x y o p h = cc
none_by false c x y o p h = h

off_by : (b : Bool) (x : ℕ) (o : Option ℕ) → (if b then Some x else o) ≡ None → b ≡ false
off_by true x o h = cc
off_by false x o h = refl

turned : (a b c d : ℕ) → (nat_eq a c && nat_eq b d) ≡ false → (nat_eq c a && nat_eq d b) ≡ false
turned a b c d h = grind (arith, nat_tests, h)

asked_push : (m i : ℕ) (es : List Entry) (e : Entry) → asked m i es ≡ None → (nat_eq e.map m && nat_eq e.place i) ≡ false → asked m i (es ++ e ∷ []) ≡ None
asked_push m i [] e h k = ap (λ (b : Bool). if b then Some e.entry else None) k
asked_push m i (x ∷ es) e h k =
    ap (λ (b : Bool). if b then Some x.entry else asked m i (es ++ e ∷ [])) (off_by (nat_eq x.map m && nat_eq x.place i) x.entry (asked m i es) h)
    ∙ asked_push m i es e (none_by (nat_eq x.map m && nat_eq x.place i) false x.entry 0 (asked m i es) None h) k

pub apart_push : (es : List Entry) (e : Entry) → Apart es → asked e.map e.place es ≡ None → Apart (es ++ e ∷ [])
apart_push [] e h k = (refl, tt)
apart_push (x ∷ es) e h k = (
  asked_push x.map x.place es e h.0 (turned x.map x.place e.map e.place (off_by (nat_eq x.map e.map && nat_eq x.place e.place) x.entry (asked e.map e.place es) k)),
  apart_push es e h.1 (none_by (nat_eq x.map e.map && nat_eq x.place e.place) false x.entry 0 (asked e.map e.place es) None k),
)

pub entry_new : (base : ℕ) (nodes out : List TermNode) (es : List Entry) (out' : List TermNode) (m i index t : ℕ) (elem : Scalar) (e : Entry) → State base nodes out es → IsAsked base nodes out es m i index elem
    → IsTrue (is_scalar elem) → asked m i es ≡ None → e.map ≡ m → e.place ≡ i → e.index ≡ index → e.number ≡ entry_number base i m → e.entry ≡ t → Shared out (Variable (entry_number base i m) (ScalarSort elem)) out' t
    → Placed base nodes out es out' (es ++ e ∷ []) elem t (λ a. select_value (a m) (value a nodes i))
entry_new base nodes out es out' m i index t elem e st ask own none is_m is_i is_x is_n is_t shared =
    let v = Variable (entry_number base i m) (ScalarSort elem) in
    let add = entry_addable base nodes out es m i index elem st ask own in
    let es' = es ++ e ∷ [] in
    let g = given base nodes out es v (ScalarSort elem) st add.0 add.1 out' t shared in
    let later : Later out es out' es' = record {
      nodes = g.later.nodes;
      sound = g.later.sound;
      more = λ j x is. slice_get-left es (e ∷ []) j (slice_get_within es j x is) ∙ is;
      within = g.later.within;
    } in
    let mine : EntryKept base nodes out' es' e = record {
      index = ask.sort;
      elem = elem;
      map = ap (λ (n : ℕ). sort_of_number n nodes) is_m ∙ ask.map;
      place = ap (sort_at nodes) is_i ∙ ask.at;
      number = is_n ∙ ap (λ (n : ℕ). entry_number base n m) (sym is_i) ∙ ap (λ (n : ℕ). entry_number base e.place n) (sym is_m);
      stands =
          subst (λ (x : ℕ). Stands nodes out' es' ask.sort x (λ a. value a nodes e.place)) (sym is_x)
          (subst (λ (x : ℕ). Stands nodes out' es' ask.sort index (λ a. value a nodes x)) (sym is_i)
          (stands_later out es out' es' later nodes ask.sort index (λ a. value a nodes i) ask.stands));
      sort = ap (sort_at out') is_t ∙ g.sort;
      is = λ b. ap (value b out') is_t ∙ g.is b ∙ ap b (sym is_n);
    } in
    let state : State base nodes out' es' = record {
      sound = g.state.sound;
      at_home = g.state.at_home;
      entry = λ j x is. last_or es e j x (λ k y. EntryKept base nodes out' es' y) is (λ k y q. entry_later out es out' es' later base nodes y (st.entry k y q)) mine;
      apart = apart_push es e st.apart (ap (λ (x : ℕ). asked x e.place es) is_m ∙ ap (λ (x : ℕ). asked m x es) is_i ∙ none);
    } in
    let there : slice_get es' (length es) ≡ Some e = slice_get-seam es e in
    let s : Stands nodes out' es' elem e.entry (λ a. select_value (a e.map) (value a nodes e.place)) = entry_stands base nodes out' es' (length es) e there mine in
    record {
      state = state;
      later = later;
      stands =
          subst (λ (x : ℕ). Stands nodes out' es' elem t (λ a. select_value (a m) (value a nodes x))) is_i
          (subst (λ (x : ℕ). Stands nodes out' es' elem t (λ a. select_value (a x) (value a nodes e.place))) is_m
          (subst (λ (x : ℕ). Stands nodes out' es' elem x (λ a. select_value (a e.map) (value a nodes e.place))) is_t s));
    }

-- ---- the entries of the nodes of a row

pub eq_fits : (s : Scalar) → sort_of_binary Eq s s ≡ Some BoolSort
eq_fits BoolSort = refl
eq_fits (BvSort w) = ap (λ (b : Bool). if b then Some BoolSort else None) (same_number w)

pub known_row : (rows : List ((ℕ × ℕ) × ℕ)) (j i : ℕ) → IsSome (found j i rows) → found j i rows ≡ Some (row_at rows j i)
known_row rows j i h = known_by (found j i rows) h
  where
    known_by : (o : Option ℕ) → IsSome o → o ≡ Some (unwrap_or o 0)
    known_by None k = cc
    known_by (Some x) k = refl

module _ (base : ℕ) (nodes out : List TermNode) (es : List Entry) (reds : List ℕ) (rows : List ((ℕ × ℕ) × ℕ)) (top i : ℕ)
    (agree : IsTrue (agree_onto [] nodes)) (under : IsTrue (below base nodes)) (r : IsRow base nodes out es reds rows top i) (maps : (x : TermNode) → slice_get nodes top ≡ Some x → MapsKnown rows i x) where
  index : Scalar
  index = r.select.index

  ground : Ground base nodes out es reds
  ground = record { agree = agree; under = under; state = r.state; each = r.reduced }

  pub row_sort : sort_at nodes top ≡ Some (MapSort r.select.index r.select.elem)
  row_sort = r.select.map

  row_sound : IsSome (sorts nodes)
  row_sound = sound_at nodes top (MapSort r.select.index r.select.elem) row_sort

  meant : (ℕ → Value) → Value
  meant a = select_value (value a nodes top) (value a nodes i)

  lower_red : (j : ℕ) (s : Scalar) → j < top → sort_at nodes j ≡ Some (ScalarSort s) → Stands nodes out es s (slice_index reds j) (λ a. value a nodes j)
  lower_red j s l h = child base nodes out es reds ground j s (let b = r.map_before in omega (arith, l, b)) h

  lower_row : (j : ℕ) → IsSome (found j i rows) → sort_at nodes j ≡ Some (MapSort r.select.index r.select.elem)
      → Stands nodes out es r.select.elem (row_at rows j i) (λ a. select_value (value a nodes j) (value a nodes i))
  lower_row j k h = r.stands j i (row_at rows j i) (known_row rows j i k) r.select.index r.select.elem h

  place_red : Stands nodes out es r.select.index (slice_index reds i) (λ a. value a nodes i)
  place_red = child base nodes out es reds ground i r.select.index r.place_before r.select.place

  pub row_asked : (n : ℕ) (sort : Sort) → slice_get nodes top ≡ Some (Variable n sort) → IsAsked base nodes out es n i (slice_index reds i) r.select.elem
  row_asked n sort is =
      let c = case_at nodes top (Variable n sort) (MapSort r.select.index r.select.elem) row_sort is in
      let x = if_is (is_sort sort) sort (MapSort r.select.index r.select.elem) c.is in
      record {
        sort = r.select.index;
        under = below_at base nodes top n sort under is;
        map = number_at nodes top n sort agree is ∙ ap Some x.0;
        at = r.select.place;
        stands = place_red;
      }

  pub row_variable : (n : ℕ) (sort : Sort) → slice_get nodes top ≡ Some (Variable n sort) → (a : ℕ → Value) → value a nodes top ≡ a n
  row_variable n sort is a = node_values a nodes top (Variable n sort) row_sound is

  pub row_variable_sort : (n : ℕ) (sort : Sort) → slice_get nodes top ≡ Some (Variable n sort) → (sort ≡ MapSort r.select.index r.select.elem) × IsTrue (is_scalar r.select.elem)
  row_variable_sort n sort is =
      let c = case_at nodes top (Variable n sort) (MapSort r.select.index r.select.elem) row_sort is in
      let x = if_is (is_sort sort) sort (MapSort r.select.index r.select.elem) c.is in
      (x.0, and_right (is_scalar r.select.index) (is_scalar r.select.elem) (ap is_sort (sym x.0) ∙ x.1))

  pub row_zero : (x y : Scalar) → slice_get nodes top ≡ Some (ZeroMap x y) → Addable base nodes out es (Lit (zero_of_scalar y)) r.select.elem (λ a. select_value (value a nodes top) (value a nodes i))
  row_zero x y is =
      let c = case_at nodes top (ZeroMap x y) (MapSort r.select.index r.select.elem) row_sort is in
      let e = if_is (is_sort (MapSort x y)) (MapSort x y) (MapSort r.select.index r.select.elem) c.is in
      let sorts_same = e.0 in
      let same : y ≡ r.select.elem = cc in
      let own : has_scalar (zero_of_scalar y) y ≡ true = keep_sorts.zero (ScalarSort y) (and_right (is_scalar x) (is_scalar y) e.1) in
      let sort : scalar_of (zero_of_scalar y) ≡ y = has_scalar_is (zero_of_scalar y) y own in
      record {
        behind = behind_leaf out (Lit (zero_of_scalar y)) (ScalarSort r.select.elem) r.state.sound (λ ss.
            ap (λ (s : Scalar). if has_scalar (zero_of_scalar y) s then Some (ScalarSort s) else None) sort
            ∙ if_this (has_scalar (zero_of_scalar y) y) (ScalarSort y) own ∙ ap (λ (s : Scalar). Some (ScalarSort s)) same);
        agrees = refl;
        at_home = tt;
        means = λ a b ok link. sym (ap (λ (v : Value). select_value v (value a nodes i)) (node_values a nodes top (ZeroMap x y) row_sound is));
      }

  pub row_if : (t x y : ℕ) → slice_get nodes top ≡ Some (If t x y)
      → Addable base nodes out es (If (slice_index reds t) (row_at rows x i) (row_at rows y i)) r.select.elem (λ a. select_value (value a nodes top) (value a nodes i))
  row_if t x y is =
      let c = case_at nodes top (If t x y) (MapSort r.select.index r.select.elem) row_sort is in
      let u = if_case (slice_get c.known t) (slice_get c.known x) (slice_get c.known y) (MapSort r.select.index r.select.elem) c.is in
      let p = c.lower t (ScalarSort BoolSort) u.test in
      let q = c.lower x (MapSort r.select.index r.select.elem) u.one in
      let o = c.lower y (MapSort r.select.index r.select.elem) u.other in
      let k = maps (If t x y) is in
      addable_as base nodes out es (If (slice_index reds t) (row_at rows x i) (row_at rows y i)) r.select.elem
      (λ a. pick (value a nodes t) (select_value (value a nodes x) (value a nodes i)) (select_value (value a nodes y) (value a nodes i)))
      (λ a. select_value (value a nodes top) (value a nodes i))
      (λ a ok. sym (ap (λ (v : Value). select_value v (value a nodes i)) (node_values a nodes top (If t x y) row_sound is)
      ∙ select_of_pick (value a nodes t) (value a nodes x) (value a nodes y) (value a nodes i)))
      (addable_if base nodes out es (slice_index reds t) (row_at rows x i) (row_at rows y i) r.select.elem (λ a. value a nodes t)
      (λ a. select_value (value a nodes x) (value a nodes i)) (λ a. select_value (value a nodes y) (value a nodes i))
      (lower_red t BoolSort p.0 p.1) (lower_row x k.0 q.1) (lower_row y k.1 o.1))

  pub row_same : (x j v : ℕ) → slice_get nodes top ≡ Some (Store x j v)
      → Addable base nodes out es (Binary Eq (slice_index reds j) (slice_index reds i)) BoolSort (λ a. binary_value Eq (value a nodes j) (value a nodes i))
  row_same x j v is =
      let c = case_at nodes top (Store x j v) (MapSort r.select.index r.select.elem) row_sort is in
      let u = store_case (slice_get c.known x) (slice_get c.known j) (slice_get c.known v) (MapSort r.select.index r.select.elem) c.is in
      let p = c.lower j (ScalarSort u.index) u.place in
      let sorts_same = u.is in
      let same : u.index ≡ r.select.index = cc in
      addable_binary base nodes out es Eq (slice_index reds j) (slice_index reds i) r.select.index r.select.index BoolSort (λ a. value a nodes j) (λ a. value a nodes i)
      (lower_red j r.select.index p.0 (p.1 ∙ ap (λ (s : Scalar). Some (ScalarSort s)) same)) place_red (eq_fits r.select.index)

  -- with the comparison behind the others
  pub row_store : (x j v t : ℕ) (out' : List TermNode) → slice_get nodes top ≡ Some (Store x j v)
      → Placed base nodes out es out' es BoolSort t (λ a. binary_value Eq (value a nodes j) (value a nodes i))
      → Addable base nodes out' es (If t (slice_index reds v) (row_at rows x i)) r.select.elem (λ a. select_value (value a nodes top) (value a nodes i))
  row_store x j v t out' is p =
      let c = case_at nodes top (Store x j v) (MapSort r.select.index r.select.elem) row_sort is in
      let u = store_case (slice_get c.known x) (slice_get c.known j) (slice_get c.known v) (MapSort r.select.index r.select.elem) c.is in
      let sorts_same = u.is in
      let same_index : u.index ≡ r.select.index = cc in
      let same_elem : u.elem ≡ r.select.elem = cc in
      let low_map = c.lower x (MapSort u.index u.elem) u.map in
      let low_place = c.lower j (ScalarSort u.index) u.place in
      let low_entry = c.lower v (ScalarSort u.elem) u.entry in
      let map_sort : sort_at nodes x ≡ Some (MapSort r.select.index r.select.elem) = low_map.1 ∙ ap Some (sym u.is) in
      let place_sort : sort_at nodes j ≡ Some (ScalarSort r.select.index) = low_place.1 ∙ ap (λ (s : Scalar). Some (ScalarSort s)) same_index in
      let entry_sort : sort_at nodes v ≡ Some (ScalarSort r.select.elem) = low_entry.1 ∙ ap (λ (s : Scalar). Some (ScalarSort s)) same_elem in
      let k = maps (Store x j v) is in
      addable_as base nodes out' es (If t (slice_index reds v) (row_at rows x i)) r.select.elem
      (λ a. pick (binary_value Eq (value a nodes j) (value a nodes i)) (value a nodes v) (select_value (value a nodes x) (value a nodes i)))
      (λ a. select_value (value a nodes top) (value a nodes i))
      (λ a ok. sym (ap (λ (w : Value). select_value w (value a nodes i)) (node_values a nodes top (Store x j v) row_sound is)
      ∙ select_of_store (value a nodes x) (value a nodes j) (value a nodes v) (value a nodes i) r.select.index r.select.elem
      (has_its_sort a nodes x (MapSort r.select.index r.select.elem) ok map_sort)
      (has_its_sort a nodes j (ScalarSort r.select.index) ok place_sort)
      (has_its_sort a nodes v (ScalarSort r.select.elem) ok entry_sort)
      (has_its_sort a nodes i (ScalarSort r.select.index) ok r.select.place)))
      (addable_if base nodes out' es t (slice_index reds v) (row_at rows x i) r.select.elem
      (λ a. binary_value Eq (value a nodes j) (value a nodes i)) (λ a. value a nodes v) (λ a. select_value (value a nodes x) (value a nodes i))
      p.stands
      (stands_later out es out' es p.later nodes r.select.elem (slice_index reds v) (λ a. value a nodes v) (lower_red v r.select.elem low_entry.0 entry_sort))
      (stands_later out es out' es p.later nodes r.select.elem (row_at rows x i) (λ a. select_value (value a nodes x) (value a nodes i)) (lower_row x k map_sort)))

  -- what stands for an entry of the node is what was asked
  pub row_entered : (out' : List TermNode) (es' : List Entry) (t : ℕ) → Placed base nodes out es out' es' r.select.elem t (λ a. select_value (value a nodes top) (value a nodes i))
      → Read base nodes out es out' es' top i t
  row_entered out' es' t p = record {
    state = p.state;
    later = p.later;
    entry = λ x e sort.
        let same_sort : Some (MapSort r.select.index r.select.elem) ≡ Some (MapSort x e) = sym row_sort ∙ sort in
        let same : r.select.elem ≡ e = cc in
        subst (λ (s : Scalar). Stands nodes out' es' s t (λ a. select_value (value a nodes top) (value a nodes i))) same p.stands;
  }

  pub row_from_variable : (n : ℕ) (sort : Sort) (out' : List TermNode) (es' : List Entry) (t : ℕ) → slice_get nodes top ≡ Some (Variable n sort)
      → Placed base nodes out es out' es' r.select.elem t (λ a. select_value (a n) (value a nodes i)) → Read base nodes out es out' es' top i t
  row_from_variable n sort out' es' t is p = row_entered out' es' t (record {
    state = p.state;
    later = p.later;
    stands = stands_as nodes out' es' r.select.elem t (λ a. select_value (a n) (value a nodes i)) (λ a. select_value (value a nodes top) (value a nodes i))
        (λ a ok. ap (λ (v : Value). select_value v (value a nodes i)) (sym (row_variable n sort is a))) p.stands;
  })

  -- no other node has a map sort
  pub row_no_scalar : (s : Scalar) → sort_at nodes top ≡ Some (ScalarSort s) → ⊥
  row_no_scalar s h = let other : Some (ScalarSort s) ≡ Some (MapSort r.select.index r.select.elem) = sym h ∙ row_sort in let e : ScalarSort s ≡ MapSort r.select.index r.select.elem = cc in no_scalar ⊥ s r.select.index r.select.elem e

  pub row_no_lit : (v : Atom) → slice_get nodes top ≡ Some (Lit v) → ⊥
  row_no_lit v is =
      let c = case_at nodes top (Lit v) (MapSort r.select.index r.select.elem) row_sort is in
      let x = if_is (has_scalar v (scalar_of v)) (ScalarSort (scalar_of v)) (MapSort r.select.index r.select.elem) c.is in
      no_scalar ⊥ (scalar_of v) r.select.index r.select.elem x.0

  pub row_no_unary : (op : UnOp) (j : ℕ) → slice_get nodes top ≡ Some (Unary op j) → ⊥
  row_no_unary op j is =
      let c = case_at nodes top (Unary op j) (MapSort r.select.index r.select.elem) row_sort is in
      let u = unary_case op (slice_get c.known j) (MapSort r.select.index r.select.elem) c.is in
      no_scalar ⊥ u.answer r.select.index r.select.elem (sym u.is)

  pub row_no_binary : (op : BvOp) (j k : ℕ) → slice_get nodes top ≡ Some (Binary op j k) → ⊥
  row_no_binary op j k is =
      let c = case_at nodes top (Binary op j k) (MapSort r.select.index r.select.elem) row_sort is in
      let u = binary_case op (slice_get c.known j) (slice_get c.known k) (MapSort r.select.index r.select.elem) c.is in
      no_scalar ⊥ u.answer r.select.index r.select.elem (sym u.is)

  pub row_no_select : (x j : ℕ) → slice_get nodes top ≡ Some (Select x j) → ⊥
  row_no_select x j is =
      let c = case_at nodes top (Select x j) (MapSort r.select.index r.select.elem) row_sort is in
      let u = select_case (slice_get c.known x) (slice_get c.known j) (MapSort r.select.index r.select.elem) c.is in
      no_scalar ⊥ u.elem r.select.index r.select.elem (sym u.is)

-- ---- the row grows

row_push_by : (row : List ℕ) (t j : ℕ) (P : ℕ → ℕ → Type 0) → ((k : ℕ) → k < length row → P k (slice_index row k)) → P (length row) t → j < length (row ++ t ∷ []) → P j (slice_index (row ++ t ∷ []) j)
row_push_by [] t zero P old new l = new
row_push_by [] t (suc j) P old new l = absurd (omega (arith, l))
row_push_by (x ∷ row) t zero P old new l = old 0 (omega arith)
row_push_by (x ∷ row) t (suc j) P old new l = row_push_by row t j (λ k y. P (suc k) y) (λ k q. old (suc k) (omega (arith, q))) new (omega (arith, l))

pub rows_later : (nodes out : List TermNode) (es : List Entry) (out' : List TermNode) (es' : List Entry) (rows : List ((ℕ × ℕ) × ℕ)) → Later out es out' es' → RowsStand nodes out es rows → RowsStand nodes out' es' rows
rows_later nodes out es out' es' rows l h j i t is x e sort = stands_later out es out' es' l nodes e t (λ a. select_value (value a nodes j) (value a nodes i)) (h j i t is x e sort)

rows_by : (P : ℕ → ℕ → ℕ → Type 0) (b : Bool) (j i t m k u : ℕ) (o : Option ℕ) → (nat_eq m j && nat_eq k i) ≡ b → (if b then Some u else o) ≡ Some t → P m k u → (o ≡ Some t → P j i t) → P j i t
rows_by P false j i t m k u o test is new old = old is
rows_by P true j i t m k u o test is new old =
    let a : m ≡ j = number_is m j (and_left (nat_eq m j) (nat_eq k i) test) in
    let b : k ≡ i = number_is k i (and_right (nat_eq m j) (nat_eq k i) test) in
    let c : u ≡ t = cc in
    subst (λ (x : ℕ). P x i t) a (subst (λ (x : ℕ). P m x t) b (subst (λ (x : ℕ). P m k x) c new))

pub rows_none : (nodes out : List TermNode) (es : List Entry) (rows : List ((ℕ × ℕ) × ℕ)) → rows ≡ [] → RowsStand nodes out es rows
rows_none nodes out es rows none j i t is = absurd (let no : None ≡ Some t → ⊥ = λ q. cc in no (ap (found j i) (sym none) ∙ is))

-- one row more
pub rows_set : (nodes out : List TermNode) (es : List Entry) (rows rows' : List ((ℕ × ℕ) × ℕ)) (m k u : ℕ) → RowsStand nodes out es rows → EntryStands nodes out es k m u
    → ((a b : ℕ) → found a b rows' ≡ (if nat_eq m a && nat_eq k b then Some u else found a b rows)) → RowsStand nodes out es rows'
rows_set nodes out es rows rows' m k u h new set j i t is =
    rows_by (λ x y z. EntryStands nodes out es y x z) (nat_eq m j && nat_eq k i) j i t m k u (found j i rows) refl (sym (set j i) ∙ is) new (h j i t)

pub reds_push : (base : ℕ) (nodes out : List TermNode) (es : List Entry) (out' : List TermNode) (es' : List Entry) (reds : List ℕ) (t : ℕ)
    → AllReduced nodes out es reds → Taken base nodes out es out' es' (length reds) t → AllReduced nodes out' es' (reds ++ t ∷ [])
reds_push base nodes out es out' es' reds t h e j l =
    row_push_by reds t j (λ k y. IsReduced nodes out' es' k y) (λ k q. reduced_later out es out' es' e.later nodes k (slice_index reds k) (h k q)) e.red l

pub reds_later : (nodes out : List TermNode) (es : List Entry) (out' : List TermNode) (es' : List Entry) (reds : List ℕ) → Later out es out' es' → AllReduced nodes out es reds → AllReduced nodes out' es' reds
reds_later nodes out es out' es' reds l h j w = reduced_later out es out' es' l nodes j (slice_index reds j) (h j w)
