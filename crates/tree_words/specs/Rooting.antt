-- What the root of a question says, by bools among its terms.
use Rattle.std.specs.Prelude.{◌≡◌, ◌<◌, ◌↔◌, ℕ, suc, Bool, true, false, not, ◌&&◌, ◌||◌, List, [], ◌∷◌, ◌++◌, length, slice_get, slice_index, Option, None, Some, IsSome, IsTrue}
use Rattle.hy_val.specs.declared.value.Value.{Value}
use Rattle.hy_term.specs.Formula.{Formula as Terms}
use Rattle.hy_term.specs.TermSorts.{sorts}
use Rattle.hy_term.specs.Meaning.{fits, holds, Grows}
use Rattle.hy_term.specs.Variables.{below}
use Rattle.hy_term.specs.declared.node.TermNode.{TermNode}
use Rattle.flat_prog.specs.Program.{FlatProgram}
use Rattle.flat_prog.specs.Local.{Track}
use Rattle.flat_prog.specs.Runs.{are_allowed}
use Rattle.call_tree.specs.declared.piece.Decision2.{Decision2}
use Rattle.call_tree.specs.Pieces.{meets}
use Rattle.tree_terms.specs.declared.linked.Linked.{Linked}
use Rattle.tree_terms.specs.declared.linked.SiteTerms.{SiteTerms}
use Rattle.tree_terms.specs.declared.linked.Template.{Template as Formula}
use Rattle.tree_terms.specs.Linked.{template_of, nodes_of, kid, IsLinked}
use Rattle.tree_terms.specs.Copying.{AreCopied}
use Rattle.tree_terms.specs.Tables.{row}
use Rattle.tree_terms.specs.Rules.{bit}
use Rattle.tree_terms.specs.Reach.{ReachTo}
use Rattle.tree_words.specs.Question.{named}
use Rattle.tree_terms.specs.Standing.{all_at}
use Rattle.tree_words.specs.Whole.{IsTree, RootSays}
use Rattle.tree_words.specs.Linking.{number, is_node_of, put_at, template_at, sites_by, ends_by, fails_by, IsFilled}
use Rattle.tree_words.specs.Stands.{views_at}
use Rattle.tree_words.specs.Assigning.{ArePaths}

-- the copy of a node of the formula of the node of a number
abbrev pub term : List (List ℕ) → ℕ → ℕ → ℕ
term places m k = slice_index (row places m) k

-- The bool of each node says that it is reached: that of the root is true, and that of a callee where its caller's is and the site is passed.
pub record IsReach (q : Linked) (places : List (List ℕ)) (reach : List ℕ) (v : ℕ → Bool) : Type 0 where
  pub root : v (slice_index reach 0) ≡ true
  pub next : (m i c : ℕ) (s : SiteTerms) → m < length q.tree → slice_get (sites_by (template_of q m)) i ≡ Some s → kid q m i ≡ Some c
      → v (slice_index reach c) ≡ (v (slice_index reach m) && v (term places m s.node))

-- What the rules say: a node that is reached is over, none passes a site without a node that may not be passed, and the piece is met.
pub record RulesSay (q : Linked) (places : List (List ℕ)) (reach : List ℕ) (may : ℕ → ℕ → Bool) (piece : List (List ℕ × Decision2)) (v : ℕ → Bool) : Type 0 where
  pub over : (m : ℕ) → suc m < length q.tree → v (slice_index reach (suc m)) ≡ true
      → (v (term places (suc m) (ends_by (template_of q (suc m)))) || v (term places (suc m) (fails_by (template_of q (suc m))))) ≡ true
  pub sites : (m i : ℕ) (s : SiteTerms) → m < length q.tree → slice_get (sites_by (template_of q m)) i ≡ Some s → kid q m i ≡ None → may m i ≡ false → v (slice_index reach m) ≡ true
      → v (term places m s.node) ≡ false
  pub meet : meets (λ p. v (slice_index reach (number q p))) piece ≡ true

-- the bits of the formulas are nodes of them
pub record BitsAreThere (q : Linked) : Type 0 where
  pub ends : (m : ℕ) → m < length q.tree → ends_by (template_of q m) < length (nodes_of q m)
  pub fails : (m : ℕ) → m < length q.tree → fails_by (template_of q m) < length (nodes_of q m)
  pub sites : (m i : ℕ) (s : SiteTerms) → m < length q.tree → slice_get (sites_by (template_of q m)) i ≡ Some s → s.node < length (nodes_of q m)

-- Where the root is true exactly if the entry's run fails, the constants are as the program says and the rules hold, it says exactly what a member must meet.
abbrev pub RootsSay : Type 0
RootsSay =
    (flat : FlatProgram) (is_open : List ℕ → Bool) (blocked : Bool) (height : ℕ) (piece : List (List ℕ × Decision2)) (q : Linked) (track : Option Formula → List Value → Track) (base : List TermNode)
    (places : List (List ℕ)) (f : Terms) (path : ℕ → List ℕ) (reach : List ℕ) (may : ℕ → ℕ → Bool) (a : ℕ → Value)
    → IsFilled q track → BitsAreThere q → AreCopied q base f.nodes places → ArePaths q path → IsTree (is_node_of q) is_open height → named (is_node_of q) piece ≡ true
    → ((p : List ℕ) (i : ℕ) → is_node_of q p ≡ true → is_node_of q (p ++ i ∷ []) ≡ false → may (number q p) i ≡ (is_open (p ++ i ∷ []) && not blocked))
    → IsTrue (fits a f.nodes) → IsReach q places reach (bit a f.nodes)
    → (holds a f ≡ true) ↔ ((bit a f.nodes (term places 0 (fails_by (template_of q 0))) ≡ true) × (are_allowed flat (all_at a f.nodes q.consts) ≡ true) × RulesSay q places reach may piece (bit a f.nodes))
    → (holds a f ≡ true) ↔ (RootSays (is_node_of q) is_open blocked piece (views_at a f (template_at q track) (put_at q places)) × (are_allowed flat (all_at a f.nodes q.consts) ≡ true))

-- what is copied stays copied where terms grow with no variable
abbrev pub CopiesStay : Type 0
CopiesStay =
    (q : Linked) (base into new : List TermNode) (places : List (List ℕ)) → IsLinked q base → AreCopied q base into places → Grows into new → IsSome (sorts new)
    → ((a : ℕ → Value) → IsTrue (fits a into) → IsTrue (fits a new)) → IsTrue (below (length new) new) → AreCopied q base new places

-- the bools that are made node by node for the tree are such
abbrev pub ReachesAreReached : Type 0
ReachesAreReached =
    (q : Linked) (track : Option Formula → List Value → Track) (places : List (List ℕ)) (old new : List TermNode) (reach : List ℕ) (a : ℕ → Value)
    → IsFilled q track → ReachTo q places old new reach (length q.tree) → IsTrue (fits a new) → IsReach q places reach (bit a new)
