-- One node more is copied.
use Rattle.std.proofs.Common.{◌≡◌, ℕ, ◌+◌, ◌<◌, ◌≤◌, Bool, true, false, List, [], ◌∷◌, ◌++◌, length, refl, sym, ap, ◌∙◌, subst, arith, length-append, inl, inr, ◌⊎◌, ⊎_elim}
use Rattle.std.specs.Prelude.{if◌then◌else◌, Option, None, Some, is_some, slice_get, slice_index, nat_lt, nat_eq, IsSome, IsTrue}
use Rattle.std.specs.Option.{option_and_then}
use Rattle.std.proofs.lemmas.Bool.{and_from, lt-ltb, ltb-true}
use Rattle.hy_val.specs.Values.{at, has_sort}
use Rattle.hy_val.specs.declared.sort.Sort.{Sort}
use Rattle.hy_val.specs.declared.value.Value.{Value}
use Rattle.hy_term.specs.TermSorts.{sorts, sort_at, sort_behind, sort_of_node, fits_behind, variable_agrees, free_or_same}
use Rattle.hy_term.specs.Meaning.{values, value, fits, Grows, extended}
use Rattle.hy_term.specs.Variables.{below, reads}
use Rattle.hy_term.specs.declared.node.TermNode.{TermNode}
use Rattle.hy_term.specs.declared.node.TermNode.TheVariants.{Lit, ZeroMap, Variable, Unary, Binary, If, Select, Store}
use Rattle.hy_term.proofs.Numbering.{new_variables, above_is_free, number_is, same_number}
use Rattle.tree_terms.specs.Copies.{renamed, is_made, children_below, IsPlaced, IsPart}
use Rattle.tree_terms.proofs.Growth.{below_more, grows_not, grows_on, sort_stays, sort_within, sorts_are, value_stays}
use Rattle.tree_terms.proofs.Parts.{added, children_lower, copy_fits, index_last, lt_or_eq, made_below, made_fits, made_pushed, part_stays, place_low, variable_fits, variable_pushed, variable_sort}
use Rattle.tree_terms.proofs.Rows.{row_longer}
use Rattle.tree_terms.specs.declared.linked.Linked.{Linked}
use Rattle.tree_terms.specs.declared.linked.Source.{Source}
use Rattle.tree_terms.specs.declared.linked.Source.TheVariants.{Given, Up, Down, Fresh}
use Rattle.tree_terms.specs.Linked.{nodes_of, parent, source, IsVariable, IsLinked}
use Rattle.tree_terms.specs.Copying.{PutIs, IsFree, HaveSorts, Assigns, IsCopying, waits_at, waits_by, waits, MayGo, IsNext}
use Rattle.tree_terms.specs.Tables.{row, IsPushed}

put_stays : (old new : List (List ℕ)) (m n : ℕ) → IsPushed old new m n → (up put : ℕ) (s : Source) → PutIs old up put s → PutIs new up put s
put_stays old new m n p up put (Given t) h = h
put_stays old new m n p up put (Up i) h = let r = row_longer old new m n p up i h.0 in (r.0, h.1 ∙ sym r.1)
put_stays old new m n p up put (Down c i) h = let r = row_longer old new m n p c i h.0 in (r.0, h.1 ∙ sym r.1)
put_stays old new m n p up put Fresh h = h

length_grows : (old new : List TermNode) → Grows old new → length old ≤ length new
length_grows old new g = omega (arith, ap length g.1, length-append old g.0)

is_here : (m n : ℕ) → (m ≡ n) ⊎ (m ≡ n → ⊥)
is_here m n = by_test (nat_eq m n) refl
  where
    by_test : (b : Bool) → nat_eq m n ≡ b → (m ≡ n) ⊎ (m ≡ n → ⊥)
    by_test true is = inl (number_is m n is)
    by_test false is = inr (λ e. let y : true ≡ false = sym (same_number m) ∙ (ap (nat_eq m) e ∙ is) in cc)

module _ (q : Linked) (base old new : List TermNode) (places places2 : List (List ℕ)) (m t : ℕ) (linked : IsLinked q base) (h : IsCopying q base old places) (here : m < length q.tree)
    (p : IsPushed places places2 m t) (grows : Grows old new) (sorted : IsSome (sorts new)) where
  -- a node's list: as it was, or with the new term behind
  row_is : (x : ℕ) → (row places2 x ≡ row places x) ⊎ ((x ≡ m) × (row places2 x ≡ row places x ++ t ∷ []))
  row_is x = ⊎_elim (λ e. inr (e, subst (λ (k : ℕ). row places2 k ≡ row places k ++ t ∷ []) (sym e) p.here)) (λ off. inl (p.others x off)) (is_here x m)

  -- a place of before, or the new one
  old_or_new : (x j : ℕ) → j < length (row places2 x) → (j < length (row places x)) ⊎ ((x ≡ m) × (j ≡ length (row places m)))
  old_or_new x j l = ⊎_elim (λ e. inl (omega (arith, l, ap length e)))
      (λ e. ⊎_elim (λ low. inl low) (λ last. inr (e.0, last ∙ ap (λ (k : ℕ). length (row places k)) e.0))
      (lt_or_eq j (length (row places x)) (omega (arith, l, ap length e.1, length-append (row places x) (t ∷ [])))))
      (row_is x)

  parts_stay : IsPart (nodes_of q m) new (row places m ++ t ∷ []) → (x : ℕ) → x < length q.tree → IsPart (nodes_of q x) new (row places2 x)
  parts_stay part x l = ⊎_elim
      (λ e. subst (λ (r : List ℕ). IsPart (nodes_of q x) new r) (sym e) (part_stays (nodes_of q x) old new (row places x) (linked.sorted x l) h.sorted sorted grows (h.parts x l)))
      (λ e. subst (λ (r : List ℕ). IsPart (nodes_of q x) new r) (sym e.1) (subst (λ (k : ℕ). IsPart (nodes_of q k) new (row places k ++ t ∷ [])) (sym e.0) part))
      (row_is x)

  puts_stay : ((number : ℕ) (sort : Sort) → IsVariable q m (length (row places m)) number sort → PutIs places (parent q m) t (source q m number))
      → (x j number : ℕ) (sort : Sort) → x < length q.tree → j < length (row places2 x) → IsVariable q x j number sort → PutIs places2 (parent q x) (slice_index (row places2 x) j) (source q x number)
  puts_stay put x j number sort l low is = ⊎_elim
      (λ before. subst (λ (k : ℕ). PutIs places2 (parent q x) k (source q x number)) (sym (row_longer places places2 m t p x j before).1)
      (put_stays places places2 m t p (parent q x) (slice_index (row places x) j) (source q x number) (h.puts x j number sort l before is)))
      (λ e. last e.0 e.1)
      (old_or_new x j low)
    where
      last : x ≡ m → j ≡ length (row places m) → PutIs places2 (parent q x) (slice_index (row places2 x) j) (source q x number)
      last e f =
          let is_m : IsVariable q m (length (row places m)) number sort = subst (λ (k : ℕ). IsVariable q m k number sort) f (subst (λ (k : ℕ). IsVariable q k j number sort) e is) in
          let term : slice_index (row places2 x) j ≡ t =
          ap (λ (k : ℕ). slice_index (row places2 k) j) e ∙ (ap (λ (r : List ℕ). slice_index r j) p.here ∙ (ap (slice_index (row places m ++ t ∷ [])) f ∙ index_last (row places m) t)) in
          subst (λ (k : ℕ). PutIs places2 (parent q x) k (source q x number)) (sym term)
          (subst (λ (k : ℕ). PutIs places2 (parent q k) t (source q k number)) (sym e) (put_stays places places2 m t p (parent q m) t (source q m number) (put number sort is_m)))

  free_more : (x j : ℕ) (sort : Sort) → IsFree q places x j sort → IsFree q places2 x j sort
  free_more x j sort f = record { tree = f.tree; copied = (row_longer places places2 m t p x j f.copied).0; number = f.number; is = f.is; fresh = f.fresh }

  -- the value of a place of before
  kept_value : (a : ℕ → Value) (x j : ℕ) → x < length q.tree → j < length (row places x) → value a new (slice_index (row places2 x) j) ≡ value a old (slice_index (row places x) j)
  kept_value a x j l low =
      ap (value a new) (row_longer places places2 m t p x j low).1
      ∙ value_stays a old new (slice_index (row places x) j) grows (place_low (nodes_of q x) old (row places x) j (linked.sorted x l) h.sorted (h.parts x l) low)

  base_low : (i : ℕ) → i < length base → i < length old
  base_low i l = omega (arith, l, length_grows base old h.grows)

  -- no new variable
  assigns_stay : ((a : ℕ → Value) → IsTrue (fits a old) → IsTrue (fits a new)) → ((number : ℕ) (sort : Sort) → IsVariable q m (length (row places m)) number sort → source q m number ≡ Fresh → ⊥)
      → (b : ℕ → Value) (w : ℕ → ℕ → Value) → IsTrue (fits b base) → HaveSorts q places2 w → Assigns q base new places2 b w
  assigns_stay fit made b w ok have = record {
    a = s.a;
    fits = fit s.a s.fits;
    old = λ i l. value_stays s.a old new i grows (base_low i l) ∙ s.old i l;
    new = λ x j sort f. ⊎_elim
        (λ low. kept_value s.a x j f.tree low ∙ s.new x j sort (record { tree = f.tree; copied = low; number = f.number; is = f.is; fresh = f.fresh }))
        (λ e. absurd (made f.number sort (subst (λ (k : ℕ). IsVariable q m k f.number sort) e.1 (subst (λ (k : ℕ). IsVariable q k j f.number sort) e.0 f.is))
        (subst (λ (k : ℕ). source q k f.number ≡ Fresh) e.0 f.fresh)))
        (old_or_new x j f.copied);
  }
    where
      s : Assigns q base old places b w
      s = h.assigns b w ok (λ x j sort f. have x j sort (free_more x j sort f))

  -- a new variable, whose number may have any value
  assigns_more : (number own : ℕ) (sort : Sort) → IsVariable q m (length (row places m)) own sort → source q m own ≡ Fresh → IsTrue (below number old) → IsPlaced old new (Variable number sort) t
      → (b : ℕ → Value) (w : ℕ → ℕ → Value) → IsTrue (fits b base) → HaveSorts q places2 w → Assigns q base new places2 b w
  assigns_more number own sort is fresh low placed b w ok have = record {
    a = a;
    fits = fit;
    old = λ i l. value_stays a old new i grows (base_low i l) ∙ (same i ∙ s.old i l);
    new = λ x j sort2 f. ⊎_elim
        (λ before. kept_value a x j f.tree before ∙ (same (slice_index (row places x) j) ∙ s.new x j sort2 (record { tree = f.tree; copied = before; number = f.number; is = f.is; fresh = f.fresh })))
        (λ e. last x j e.0 e.1)
        (old_or_new x j f.copied);
  }
    where
      s : Assigns q base old places b w
      s = h.assigns b w ok (λ x j sort2 f. have x j sort2 (free_more x j sort2 f))

      v : Value
      v = w m (length (row places m))

      a : ℕ → Value
      a = extended s.a number (v ∷ [])

      stay : (values a old ≡ values s.a old) × (fits a old ≡ fits s.a old) × (reads a number 1 ≡ v ∷ [])
      stay = new_variables s.a number (v ∷ []) old low

      same : (i : ℕ) → value a old i ≡ value s.a old i
      same i = ap (λ (vs : List Value). at vs i) stay.0

      reads_v : a number ≡ v
      reads_v = let e : a number ∷ [] ≡ v ∷ [] = stay.2 in cc

      copied : length (row places m) < length (row places2 m)
      copied = omega (arith, ap length p.here, length-append (row places m) (t ∷ []))

      fit : IsTrue (fits a new)
      fit = placed.fits a (subst (λ (x : Bool). IsTrue x) (sym stay.1) s.fits)
          (subst (λ (x : Value). IsTrue (has_sort x sort)) (sym reads_v) (have m (length (row places m)) sort (record { tree = here; copied = copied; number = own; is = is; fresh = fresh })))

      last : (x j : ℕ) → x ≡ m → j ≡ length (row places m) → value a new (slice_index (row places2 x) j) ≡ w x j
      last x j e f =
          let term : slice_index (row places2 x) j ≡ t =
          ap (λ (k : ℕ). slice_index (row places2 k) j) e ∙ (ap (λ (r : List ℕ). slice_index r j) p.here ∙ (ap (slice_index (row places m ++ t ∷ [])) f ∙ index_last (row places m) t)) in
          ap (value a new) term ∙ (placed.means a fit ∙ (reads_v ∙ (ap (w m) (sym f) ∙ ap (λ (k : ℕ). w k j) (sym e))))

  pub went_on : IsTrue (below (length new) new) → IsPart (nodes_of q m) new (row places m ++ t ∷ [])
      → ((number : ℕ) (sort : Sort) → IsVariable q m (length (row places m)) number sort → PutIs places (parent q m) t (source q m number))
      → ((b : ℕ → Value) (w : ℕ → ℕ → Value) → IsTrue (fits b base) → HaveSorts q places2 w → Assigns q base new places2 b w)
      → IsCopying q base new places2
  went_on low part put assigns = record {
    grows = grows_on base old new h.grows grows;
    base_sorted = h.base_sorted;
    sorted = sorted;
    low = low;
    count = p.count ∙ h.count;
    parts = parts_stay part;
    puts = puts_stay put;
    assigns = assigns;
  }

same_variable : (q : Linked) (m k number number2 : ℕ) (sort sort2 : Sort) → IsVariable q m k number sort → IsVariable q m k number2 sort2 → (number ≡ number2) × (sort ≡ sort2)
same_variable q m k number number2 sort sort2 is is2 = let e : Some (Variable number sort) ≡ Some (Variable number2 sort2) = sym is ∙ is2 in (cc, cc)

same_put : (q : Linked) (places : List (List ℕ)) (m t number : ℕ) (sort : Sort) → IsVariable q m (length (row places m)) number sort → PutIs places (parent q m) t (source q m number)
    → (number2 : ℕ) (sort2 : Sort) → IsVariable q m (length (row places m)) number2 sort2 → PutIs places (parent q m) t (source q m number2)
same_put q places m t number sort is put number2 sort2 is2 =
    subst (λ (n : ℕ). PutIs places (parent q m) t (source q m n)) (same_variable q m (length (row places m)) number number2 sort sort2 is is2).0 put

-- a variable's place that is a term already
pub next_known : (q : Linked) (old : List TermNode) (places : List (List ℕ)) (m t number : ℕ) (sort : Sort) → m < length q.tree → IsVariable q m (length (row places m)) number sort
    → (source q m number ≡ Fresh → ⊥) → PutIs places (parent q m) t (source q m number) → ((base : List TermNode) → IsLinked q base → IsCopying q base old places → sort_at old t ≡ Some sort)
    → IsNext q old old places m t
next_known q old places m t number sort here is known put has base places2 linked h p =
    went_on q base old old places places2 m t linked h here p (grows_not old) h.sorted h.low
    (variable_pushed (nodes_of q m) old (row places m) number t sort (linked.sorted m here) (h.parts m here) is
    (has base linked h ∙ sym (variable_sort (nodes_of q m) (length (row places m)) number sort (linked.sorted m here) is)))
    (same_put q places m t number sort is put)
    (assigns_stay q base old old places places2 m t linked h here p (grows_not old) h.sorted (λ a fit. fit)
    (λ number2 sort2 is2 fresh. known (subst (λ (n : ℕ). source q m n ≡ Fresh) (same_variable q m (length (row places m)) number2 number sort2 sort is2 is).0 fresh)))

given_known : (s : Source) (t : ℕ) → s ≡ Given t → s ≡ Fresh → ⊥
given_known s t is fresh = let e : Given t ≡ Fresh = sym is ∙ fresh in cc

up_known : (s : Source) (i : ℕ) → s ≡ Up i → s ≡ Fresh → ⊥
up_known s i is fresh = let e : Up i ≡ Fresh = sym is ∙ fresh in cc

down_known : (s : Source) (c i : ℕ) → s ≡ Down c i → s ≡ Fresh → ⊥
down_known s c i is fresh = let e : Down c i ≡ Fresh = sym is ∙ fresh in cc

pub next_given : (q : Linked) (old : List TermNode) (places : List (List ℕ)) (m t number : ℕ) (sort : Sort) → m < length q.tree → IsVariable q m (length (row places m)) number sort
    → source q m number ≡ Given t → IsNext q old old places m t
next_given q old places m t number sort here is src =
    next_known q old places m t number sort here is (given_known (source q m number) t src) (subst (λ (s : Source). PutIs places (parent q m) t s) (sym src) refl)
    (λ base linked h. let s = linked.given m (length (row places m)) number t sort here is src in
    sort_stays base old t h.base_sorted h.sorted h.grows (sort_within base t sort s) ∙ s)

pub next_up : (q : Linked) (old : List TermNode) (places : List (List ℕ)) (m i number : ℕ) (sort : Sort) → MayGo q places m → IsVariable q m (length (row places m)) number sort
    → source q m number ≡ Up i → IsNext q old old places m (slice_index (row places (parent q m)) i)
next_up q old places m i number sort go is src =
    let low = go.ready (length (row places m)) number i sort is src in
    next_known q old places m (slice_index (row places (parent q m)) i) number sort go.tree is (up_known (source q m number) i src)
    (subst (λ (s : Source). PutIs places (parent q m) (slice_index (row places (parent q m)) i) s) (sym src) (low, refl))
    (λ base linked h. let s = linked.up m (length (row places m)) number i sort go.tree is src in
    (h.parts (parent q m) (omega (arith, s.0, go.tree))).sorts_are i low ∙ s.1)

-- what a node that need not wait finds
pub found : (q : Linked) (places : List (List ℕ)) (m c i number : ℕ) (sort : Sort) → IsVariable q m (length (row places m)) number sort → source q m number ≡ Down c i → waits q places m ≡ None
    → i < length (row places c)
found q places m c i number sort is src free = by_test (nat_lt i (length (row places c))) refl
    (sym (ap (waits_at places) src) ∙ (sym (ap (waits_by q places m) is) ∙ free))
  where
    by_test : (b : Bool) → nat_lt i (length (row places c)) ≡ b → (if b then None else Some c) ≡ None → i < length (row places c)
    by_test true lt e = ltb-true i (length (row places c)) lt
    by_test false lt e = cc

pub next_down : (q : Linked) (old : List TermNode) (places : List (List ℕ)) (m c i number : ℕ) (sort : Sort) → MayGo q places m → IsVariable q m (length (row places m)) number sort
    → source q m number ≡ Down c i → waits q places m ≡ None → IsNext q old old places m (slice_index (row places c) i)
next_down q old places m c i number sort go is src free =
    let low = found q places m c i number sort is src free in
    next_known q old places m (slice_index (row places c) i) number sort go.tree is (down_known (source q m number) c i src)
    (subst (λ (s : Source). PutIs places (parent q m) (slice_index (row places c) i) s) (sym src) (low, refl))
    (λ base linked h. let s = linked.down m (length (row places m)) number c i sort go.tree is src in
    (h.parts c s.1).sorts_are i low ∙ s.2)

pub fresh_fits : (q : Linked) (base old : List TermNode) (places : List (List ℕ)) (m own : ℕ) (sort : Sort) → IsLinked q base → IsCopying q base old places → m < length q.tree
    → IsVariable q m (length (row places m)) own sort → IsTrue (fits_behind old (Variable (length old) sort)) × (sort_behind old (Variable (length old) sort) ≡ Some sort)
fresh_fits q base old places m own sort linked h here is = (
  and_from (is_some (sort_behind old (Variable (length old) sort))) (variable_agrees old (Variable (length old) sort)) (ap is_some behind)
      (ap (λ (o : Option Sort). free_or_same o sort) (above_is_free (length old) old h.low)),
  behind,
)
  where
    behind : sort_behind old (Variable (length old) sort) ≡ Some sort
    behind =
        let o = sorts_are (sorts old) h.sorted in
        ap (λ (x : Option (List Sort)). option_and_then (λ ss. sort_of_node ss (Variable (length old) sort)) x) o.1
        ∙ variable_fits (nodes_of q m) (length (row places m)) own sort (linked.sorted m here) is o.0 (length old)

pub next_fresh : (q : Linked) (old new : List TermNode) (places : List (List ℕ)) (m own t : ℕ) (sort : Sort) → m < length q.tree → IsVariable q m (length (row places m)) own sort
    → source q m own ≡ Fresh → new ≡ old ++ Variable (length old) sort ∷ [] → t ≡ length old → IsNext q old new places m t
next_fresh q old new places m own t sort here is fresh grown last base places2 linked h p =
    let f = fresh_fits q base old places m own sort linked h here is in
    let r = added old new (Variable (length old) sort) t h.sorted f.0 grown last in
    let n : length new ≡ length old + 1 = ap length grown ∙ length-append old (Variable (length old) sort ∷ []) in
    went_on q base old new places places2 m t linked h here p r.grows r.sorted
    (r.low (length new) (below_more (length old) (length new) old (omega (arith, n)) h.low) (lt-ltb (length old) (length new) (omega (arith, n))))
    (variable_pushed (nodes_of q m) new (row places m) own t sort (linked.sorted m here) (part_stays (nodes_of q m) old new (row places m) (linked.sorted m here) h.sorted r.sorted r.grows (h.parts m here)) is
    (r.sort ∙ (f.1 ∙ sym (variable_sort (nodes_of q m) (length (row places m)) own sort (linked.sorted m here) is))))
    (same_put q places m t own sort is (subst (λ (s : Source). PutIs places (parent q m) t s) (sym fresh) tt))
    (assigns_more q base old new places places2 m t linked h here p r.grows r.sorted (length old) own sort is fresh h.low r)

pub next_made : (q : Linked) (old new : List TermNode) (places : List (List ℕ)) (m t : ℕ) (node : TermNode) → m < length q.tree → slice_get (nodes_of q m) (length (row places m)) ≡ Some node
    → is_made node ≡ true → IsPlaced old new (renamed (slice_index (row places m)) node) t → IsNext q old new places m t
next_made q old new places m t node here is made r base places2 linked h p =
    went_on q base old new places places2 m t linked h here p r.grows r.sorted
    (r.low (length new) (below_more (length old) (length new) old (length_grows old new r.grows) h.low) (made_below (length new) (slice_index (row places m)) node made))
    (made_pushed (nodes_of q m) old new (row places m) node t (linked.sorted m here) h.sorted (h.parts m here) is made r)
    (λ number sort is2. absurd (no_variable number sort is2))
    (assigns_stay q base old new places places2 m t linked h here p r.grows r.sorted (λ a fit. r.fits a fit (made_fits a (slice_index (row places m)) node made))
    (λ number sort is2 fresh. no_variable number sort is2))
  where
    no_variable : (number : ℕ) (sort : Sort) → IsVariable q m (length (row places m)) number sort → ⊥
    no_variable number sort is2 =
        let e : Some node ≡ Some (Variable number sort) = sym is ∙ is2 in
        let f : node ≡ Variable number sort = cc in
        let g : false ≡ true = sym (ap is_made f) ∙ made in cc

pub is_no_variable : (node : TermNode) → ((number : ℕ) (sort : Sort) → node ≡ Variable number sort → ⊥) → is_made node ≡ true
is_no_variable (Lit a) off = refl
is_no_variable (ZeroMap index elem) off = refl
is_no_variable (Variable number sort) off = absurd (off number sort refl)
is_no_variable (Unary op child) off = refl
is_no_variable (Binary op left right) off = refl
is_no_variable (If test one other) off = refl
is_no_variable (Select map index) off = refl
is_no_variable (Store map index value) off = refl

pub made_children : (q : Linked) (base old : List TermNode) (places : List (List ℕ)) (m : ℕ) (node : TermNode) → IsLinked q base → IsCopying q base old places → m < length q.tree
    → slice_get (nodes_of q m) (length (row places m)) ≡ Some node → IsTrue (children_below (length (row places m)) node)
made_children q base old places m node linked h here is = children_lower (nodes_of q m) (length (row places m)) node (linked.sorted m here) is

pub made_behind : (q : Linked) (base old : List TermNode) (places : List (List ℕ)) (m : ℕ) (node : TermNode) → IsLinked q base → IsCopying q base old places → m < length q.tree
    → slice_get (nodes_of q m) (length (row places m)) ≡ Some node → is_made node ≡ true → IsTrue (fits_behind old (renamed (slice_index (row places m)) node))
made_behind q base old places m node linked h here is made = (copy_fits (nodes_of q m) old (row places m) node (linked.sorted m here) h.sorted (h.parts m here) is made).0
