-- What is checked of a tree is that it is linked.
use Rattle.std.proofs.Common.{◌≡◌, ℕ, zero, suc, ◌<◌, Bool, true, ◌&&◌, List, length, refl, sym, ap, ◌∙◌, subst, arith, ⊎_elim}
use Rattle.std.specs.Prelude.{Option, None, Some, is_some, slice_get, nat_eq, nat_lt, IsSome}
use Rattle.std.proofs.lemmas.Bool.{and_parts, ltb-true}
use Rattle.std.proofs.lemmas.Bool.Decides.{nat_tests}
use Rattle.std.proofs.lemmas.Option.{slice_get_within}
use Rattle.hy_val.specs.declared.sort.Sort.{Sort}
use Rattle.hy_term.specs.TermSorts.{sorts, sort_at}
use Rattle.hy_term.specs.declared.node.TermNode.{TermNode}
use Rattle.hy_term.specs.declared.node.TermNode.TheVariants.{Variable}
use Rattle.hy_term.proofs.Typing.{same_sort_is}
use Rattle.tree_terms.specs.declared.linked.Linked.{Linked}
use Rattle.tree_terms.specs.declared.linked.Source.{Source}
use Rattle.tree_terms.specs.declared.linked.Source.TheVariants.{Given, Up, Down}
use Rattle.tree_terms.specs.Linked.{nodes_of, parent, source, IsVariable, IsLinked}
use Rattle.tree_terms.specs.Checks.{has_this, comes_before, node_before, all_before, source_fits, fits_if, nodes_fit, all_fit}
use Rattle.tree_terms.proofs.Parts.{lt_or_eq}

this_is : (o : Option Sort) (sort : Sort) → has_this o sort ≡ true → o ≡ Some sort
this_is None sort h = cc
this_is (Some s) sort h = ap (λ (x : Sort). Some x) (same_sort_is s sort h)

-- a test of the first numbers, at one of them
at_each : (test upto : ℕ → Bool) → ((k : ℕ) → upto (suc k) ≡ true → (upto k ≡ true) × (test k ≡ true)) → (n k : ℕ) → upto n ≡ true → k < n → test k ≡ true
at_each test upto step zero k all l = absurd (omega (arith, l))
at_each test upto step (suc n) k all l =
    let s = step n all in
    ⊎_elim (λ low. at_each test upto step n k s.0 low) (λ e. subst (λ (i : ℕ). test i ≡ true) (sym e) s.1) (lt_or_eq k n (omega (arith, l)))

before_at : (q : Linked) (c m j k : ℕ) → all_before q c m j (length (nodes_of q c)) ≡ true → k < length (nodes_of q c) → node_before q c m j (slice_get (nodes_of q c) k) ≡ true
before_at q c m j k all l =
    at_each (λ i. node_before q c m j (slice_get (nodes_of q c) i)) (all_before q c m j) (λ i h. and_parts (all_before q c m j i) (node_before q c m j (slice_get (nodes_of q c) i)) h) (length (nodes_of q c)) k all l

ups_before : (q : Linked) (c m j : ℕ) → all_before q c m j (length (nodes_of q c)) ≡ true
    → (j2 number2 i2 : ℕ) (sort2 : Sort) → IsVariable q c j2 number2 sort2 → source q c number2 ≡ Up i2 → (parent q c ≡ m) × (i2 < j)
ups_before q c m j all j2 number2 i2 sort2 is src =
    let here = before_at q c m j j2 all (slice_get_within (nodes_of q c) j2 (Variable number2 sort2) is) in
    let up : comes_before q c m j (Up i2) ≡ true = ap (comes_before q c m j) (sym src) ∙ (ap (node_before q c m j) (sym is) ∙ here) in
    let b = and_parts (nat_eq (parent q c) m) (nat_lt i2 j) up in
    (grind (arith, nat_tests, b.0), ltb-true i2 j b.1)

module _ (q : Linked) (base : List TermNode) (all : all_fit q base (length q.tree) ≡ true) where
  tree_at : (m : ℕ) → m < length q.tree → (is_some (sorts (nodes_of q m)) ≡ true) × (nodes_fit q base m (length (nodes_of q m)) ≡ true)
  tree_at m l =
      and_parts (is_some (sorts (nodes_of q m))) (nodes_fit q base m (length (nodes_of q m)))
      (at_each (λ i. is_some (sorts (nodes_of q i)) && nodes_fit q base i (length (nodes_of q i))) (all_fit q base)
      (λ i h. and_parts (all_fit q base i) (is_some (sorts (nodes_of q i)) && nodes_fit q base i (length (nodes_of q i))) h) (length q.tree) m all l)

  variable_at : (m j number : ℕ) (sort : Sort) (s : Source) → m < length q.tree → IsVariable q m j number sort → source q m number ≡ s → source_fits q base m j sort s ≡ true
  variable_at m j number sort s l is src =
      let here = at_each (λ i. fits_if q base m i (slice_get (nodes_of q m) i)) (nodes_fit q base m)
      (λ i h. and_parts (nodes_fit q base m i) (fits_if q base m i (slice_get (nodes_of q m) i)) h) (length (nodes_of q m)) j (tree_at m l).1
      (slice_get_within (nodes_of q m) j (Variable number sort) is) in
      ap (source_fits q base m j sort) (sym src) ∙ (ap (fits_if q base m j) (sym is) ∙ here)

  some_of : (o : Option (List Sort)) → is_some o ≡ true → IsSome o
  some_of None h = cc
  some_of (Some ss) h = refl

  pub linked_by : IsLinked q base
  linked_by = record {
    sorted = λ m l. some_of (sorts (nodes_of q m)) (tree_at m l).0;
    given = λ m j number t sort l is src. this_is (sort_at base t) sort (variable_at m j number sort (Given t) l is src);
    up = λ m j number i sort l is src.
        let b = and_parts (nat_lt (parent q m) m) (has_this (sort_at (nodes_of q (parent q m)) i) sort) (variable_at m j number sort (Up i) l is src) in
        (ltb-true (parent q m) m b.0, this_is (sort_at (nodes_of q (parent q m)) i) sort b.1);
    down = λ m j number c i sort l is src.
        let b = and_parts ((nat_lt m c && nat_lt c (length q.tree)) && has_this (sort_at (nodes_of q c) i) sort) (all_before q c m j (length (nodes_of q c))) (variable_at m j number sort (Down c i) l is src) in
        let d = and_parts (nat_lt m c && nat_lt c (length q.tree)) (has_this (sort_at (nodes_of q c) i) sort) b.0 in
        let e = and_parts (nat_lt m c) (nat_lt c (length q.tree)) d.0 in
        (ltb-true m c e.0, ltb-true c (length q.tree) e.1, this_is (sort_at (nodes_of q c) i) sort d.1, ups_before q c m j b.1);
  }
