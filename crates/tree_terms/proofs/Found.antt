-- Nodes that are found by their hash, with one more.
use Rattle.std.proofs.Common.{◌≡◌, ℕ, Bool, true, false, List, [], ◌∷◌, ◌++◌, length, refl, sym, ap, ◌∙◌, Decides, rules}
use Rattle.std.specs.Prelude.{if◌then◌else◌, Option, Some, slice_get}
use Rattle.std.proofs.lemmas.Option.{slice_get_within}
use Rattle.hy_val.proofs.Lists.{slice_get-left, slice_get-seam}
use Rattle.hy_term.specs.declared.node.TermNode.{TermNode}
use Rattle.tree_terms.specs.Shared.{same_node, AreFound}

-- the test that is derived is equality
same_tells : (x y : TermNode) → same_node x y ≡ true → x ≡ y
same_tells x y h = search rules

same_holds : (x y : TermNode) → x ≡ y → same_node x y ≡ true
same_holds x y h = search rules

pub same_decides : (x y : TermNode) → Decides (same_node x y) (x ≡ y)
same_decides x y = (same_tells x y, same_holds x y)

-- what a node that is noted is found at
pub found_noted : (nodes : List TermNode) (node : TermNode) (n : ℕ) (find next : TermNode → Option ℕ) → AreFound nodes find → slice_get nodes n ≡ Some node
    → ((q : TermNode) → next q ≡ (if same_node node q then Some n else find q)) → AreFound nodes next
found_noted nodes node n find next h here set q k is = by_test (same_node node q) refl (sym (set q) ∙ is)
  where
    by_test : (b : Bool) → same_node node q ≡ b → (if b then Some n else find q) ≡ Some k → slice_get nodes k ≡ Some q
    by_test true test e =
        let place : n ≡ k = cc in
        ap (slice_get nodes) (sym place) ∙ (here ∙ ap (λ (x : TermNode). Some x) (same_tells node q test))
    by_test false test e = h q k e

pub found_later : (nodes : List TermNode) (node : TermNode) (find : TermNode → Option ℕ) → AreFound nodes find → AreFound (nodes ++ node ∷ []) find
found_later nodes node find h q k is = let old = h q k is in slice_get-left nodes (node ∷ []) k (slice_get_within nodes k q old) ∙ old

-- a node stands behind the others, and is noted
pub found_pushed : (nodes : List TermNode) (node : TermNode) (n : ℕ) (find next : TermNode → Option ℕ) → AreFound nodes find → n ≡ length nodes
    → ((q : TermNode) → next q ≡ (if same_node node q then Some n else find q)) → AreFound (nodes ++ node ∷ []) next
found_pushed nodes node n find next h last set =
    found_noted (nodes ++ node ∷ []) node n find next (found_later nodes node find h) (ap (slice_get (nodes ++ node ∷ [])) last ∙ slice_get-seam nodes node) set

pub found_same : (nodes : List TermNode) (find next : TermNode → Option ℕ) → AreFound nodes find → ((q : TermNode) → next q ≡ find q) → AreFound nodes next
found_same nodes find next h same q k is = h q k (sym (same q) ∙ is)
