-- The root of a question, put together.
use Rattle.std.specs.Prelude.{◌≡◌, ◌<◌, ◌↔◌, ℕ, Bool, true, ◌&&◌, List, length, slice_get, slice_index, Some, IsSome, IsTrue}
use Rattle.hy_val.specs.declared.value.Value.{Value}
use Rattle.hy_term.specs.Formula.{Formula as Terms}
use Rattle.hy_term.specs.Meaning.{fits, holds, Grows}
use Rattle.hy_term.specs.declared.node.TermNode.{TermNode}
use Rattle.flat_prog.specs.Program.{FlatProgram}
use Rattle.flat_prog.specs.Runs.{are_allowed}
use Rattle.call_tree.specs.declared.piece.Decision2.{Decision2}
use Rattle.tree_terms.specs.declared.linked.Linked.{Linked}
use Rattle.tree_terms.specs.Linked.{template_of}
use Rattle.tree_terms.specs.Copying.{AreCopied}
use Rattle.tree_terms.specs.Rules.{IsBool, IsBit, IsFalse, bit, rules_hold}
use Rattle.tree_terms.specs.Reach.{IsAlways, ReachTo, SitesFit}
use Rattle.hy_term.specs.TermSorts.{sorts}
use Rattle.hy_term.specs.Variables.{below}
use Rattle.tree_terms.specs.declared.rules.Rule.{Rule}
use Rattle.tree_words.specs.Linking.{fails_by}
use Rattle.tree_words.specs.Rooting.{term, RulesSay, BitsAreThere}
use Rattle.tree_terms.specs.Standing.{all_at}
use Rattle.tree_words.specs.Asking.{rules_of}
use Rattle.tree_words.specs.RulesSaid.{BitsAreBools, numbered}

-- all that the root is made of is there: copies of the formulas, bools for the nodes, and a piece on nodes of the tree
pub record AreReady (q : Linked) (into : List TermNode) (places : List (List ℕ)) (reach : List ℕ) (piece : List (ℕ × Decision2)) : Type 0 where
  pub root : 0 < length q.tree
  pub there : BitsAreThere q
  pub bools : BitsAreBools q
  pub base : List TermNode
  pub done : AreCopied q base into places
  pub reaches : (m : ℕ) → m < length q.tree → IsBool into (slice_index reach m)
  pub piece_low : (k : ℕ) (d : ℕ × Decision2) → slice_get piece k ≡ Some d → d.0 < length q.tree

-- a bool that is true where the entry's run fails, the constants are as the program says, and the rules hold
abbrev pub IsRoot : Linked → List (List ℕ) → (axioms : ℕ) → List TermNode → (rules : List Rule) → List TermNode → ℕ → Type 0
IsRoot q places axioms old rules new t =
    IsBit old new (λ a. (bit a old (term places 0 (fails_by (template_of q 0))) && bit a old axioms) && rules_hold (bit a old) rules) t

-- such a root is as a question asks, where the bool axioms says that the constants are as the program says
abbrev pub RootsAreMade : Type 0
RootsAreMade =
    (flat : FlatProgram) (q : Linked) (places : List (List ℕ)) (reach : List ℕ) (may : ℕ → ℕ → Bool) (always never axioms : ℕ) (piece : List (List ℕ × Decision2)) (old : List TermNode) (f : Terms)
    → AreReady q old places reach (numbered q piece) → IsAlways old always → IsFalse old never → IsBool old axioms
    → ((a : ℕ → Value) → IsTrue (fits a old) → bit a old axioms ≡ are_allowed flat (all_at a f.nodes q.consts))
    → IsRoot q places axioms old (rules_of q places reach may always never (numbered q piece)) f.nodes f.root → (a : ℕ → Value) → IsTrue (fits a f.nodes)
    → (holds a f ≡ true) ↔ ((bit a f.nodes (term places 0 (fails_by (template_of q 0))) ≡ true) × (are_allowed flat (all_at a f.nodes q.consts) ≡ true) × RulesSay q places reach may piece (bit a f.nodes))

-- the bools of reached nodes stay where terms grow with no variable
abbrev pub ReachesStay : Type 0
ReachesStay =
    (q : Linked) (places : List (List ℕ)) (old mid new : List TermNode) (reach : List ℕ) → ReachTo q places old mid reach (length q.tree) → SitesFit q mid places → Grows mid new → IsSome (sorts new)
    → ((a : ℕ → Value) → IsTrue (fits a mid) → IsTrue (fits a new)) → ((k : ℕ) → IsTrue (below k mid) → IsTrue (below k new)) → ReachTo q places old new reach (length q.tree)
