-- The index of the nodes' numbers, with one node more.
use Rattle.std.proofs.Common.{◌≡◌, ◌⊎◌, inl, inr, Decides, ℕ, zero, suc, Bool, true, false, List, [], ◌∷◌, ◌++◌, length, sym, ◌∙◌, ap, refl, rules}
use Rattle.std.specs.Prelude.{Option, None, Some, if◌then◌else◌, slice_get}
use Rattle.std.proofs.lemmas.Option.{slice_get_within}
use Rattle.hy_val.proofs.Lists.{slice_get-left, slice_get-seam}
use Rattle.hy_term.specs.declared.node.TermNode.{TermNode}
use Rattle.map_axioms.specs.Reduction.{AllDiffer}
use Rattle.map_axioms.specs.Shared.{same_node, IsIndex}

-- the test that is derived is equality
same_tells : (x y : TermNode) → same_node x y ≡ true → x ≡ y
same_tells x y h = search rules

same_holds : (x y : TermNode) → x ≡ y → same_node x y ≡ true
same_holds x y h = search rules

pub same_decides : (x y : TermNode) → Decides (same_node x y) (x ≡ y)
same_decides x y = (same_tells x y, same_holds x y)

-- where each node is found at its number, no two are equal
pub all_differ : (nodes : List TermNode) (find : TermNode → Option ℕ) → IsIndex nodes find → AllDiffer nodes
all_differ nodes find h i j node p q = let a = (h node i).1 p in let b = (h node j).1 q in let both : Some i ≡ Some j = sym a ∙ b in cc

last_at : (xs : List TermNode) (x : TermNode) (k : ℕ) (y : TermNode) → slice_get (xs ++ x ∷ []) k ≡ Some y → (slice_get xs k ≡ Some y) ⊎ ((k ≡ length xs) × (x ≡ y))
last_at [] x zero y is = inr (refl, cc)
last_at [] x (suc k) y is = cc
last_at (z ∷ xs) x zero y is = inl is
last_at (z ∷ xs) x (suc k) y is = further (last_at xs x k y is)
  where
    further : (slice_get xs k ≡ Some y) ⊎ ((k ≡ length xs) × (x ≡ y)) → (slice_get xs k ≡ Some y) ⊎ ((suc k ≡ suc (length xs)) × (x ≡ y))
    further (inl h) = inl h
    further (inr h) = inr (ap suc h.0, h.1)

module _ (nodes : List TermNode) (node : TermNode) (n : ℕ) (find find' : TermNode → Option ℕ) (h : IsIndex nodes find) (none : find node ≡ None)
    (set : (q : TermNode) → find' q ≡ (if same_node node q then Some n else find q)) where
  no_old : (q : TermNode) (k : ℕ) (P : Type 0) → same_node node q ≡ true → find q ≡ Some k → P
  no_old q k P test is = let no : None ≡ Some k = sym none ∙ ap find ((same_decides node q).0 test) ∙ is in cc

  found_by : (q : TermNode) (k : ℕ) (b : Bool) → n ≡ length nodes → same_node node q ≡ b → (if b then Some n else find q) ≡ Some k → slice_get (nodes ++ node ∷ []) k ≡ Some q
  found_by q k true count test is =
      let place : n ≡ k = cc in
      ap (slice_get (nodes ++ node ∷ [])) (sym place ∙ count) ∙ slice_get-seam nodes node ∙ ap Some ((same_decides node q).0 test)
  found_by q k false count test is = let old = (h q k).0 is in slice_get-left nodes (node ∷ []) k (slice_get_within nodes k q old) ∙ old

  old_by : (q : TermNode) (k : ℕ) (b : Bool) → same_node node q ≡ b → find q ≡ Some k → find' q ≡ Some k
  old_by q k true test is = no_old q k (find' q ≡ Some k) test is
  old_by q k false test is = set q ∙ ap (λ (b : Bool). if b then Some n else find q) test ∙ is

  find_by : (q : TermNode) (k : ℕ) → n ≡ length nodes → (slice_get nodes k ≡ Some q) ⊎ ((k ≡ length nodes) × (node ≡ q)) → find' q ≡ Some k
  find_by q k count (inl is) = old_by q k (same_node node q) refl ((h q k).1 is)
  find_by q k count (inr is) = set q ∙ ap (λ (b : Bool). if b then Some n else find q) ((same_decides node q).1 is.1) ∙ ap Some (count ∙ sym is.0)

  -- the node stands behind the others
  pub index_push : n ≡ length nodes → IsIndex (nodes ++ node ∷ []) find'
  index_push count q k = (λ is. found_by q k (same_node node q) count refl (sym (set q) ∙ is), λ is. find_by q k count (last_at nodes node k q is))

  out_by : (q : TermNode) (b : Bool) → same_node node q ≡ b → (if b then None else find' q) ≡ find q
  out_by q true test = sym none ∙ ap find ((same_decides node q).0 test)
  out_by q false test = set q ∙ ap (λ (b : Bool). if b then Some n else find q) test

  -- the node is taken out again
  pub index_back : (find'' : TermNode → Option ℕ) → ((q : TermNode) → find'' q ≡ (if same_node node q then None else find' q)) → IsIndex nodes find''
  index_back find'' out q k =
      let same : find'' q ≡ find q = out q ∙ out_by q (same_node node q) refl in
      (λ is. (h q k).0 (sym same ∙ is), λ is. same ∙ (h q k).1 is)
