-- The terms that a question begins with, once more nodes stand behind them.
use Rattle.std.specs.Prelude.{◌≡◌, ℕ, List, IsTrue, IsSome}
use Rattle.hy_val.specs.declared.value.Value.{Value}
use Rattle.hy_term.specs.TermSorts.{sorts}
use Rattle.hy_term.specs.Meaning.{fits, Grows}
use Rattle.hy_term.specs.declared.node.TermNode.{TermNode}
use Rattle.flat_prog.specs.Program.{FlatProgram}
use Rattle.tree_terms.specs.declared.linked.Linked.{Linked}
use Rattle.tree_words.specs.Assigning.{IsBase}
use Rattle.tree_query.specs.declared.opening.BaseTerms.{BaseTerms}
use Rattle.tree_query.specs.Opening.{CanHaveValues, HasTerms}

-- they can still have all values of their sorts, where no variable is new
abbrev pub OpeningsAreBases : Type 0
OpeningsAreBases =
    (flat : FlatProgram) (entry : ℕ) (b : BaseTerms) (q : Linked) (nodes : List TermNode) → HasTerms flat entry b.terms.nodes b → CanHaveValues flat entry b.terms.nodes b → Grows b.terms.nodes nodes → IsSome (sorts nodes)
    → ((a : ℕ → Value) → IsTrue (fits a b.terms.nodes) → IsTrue (fits a nodes)) → q.consts ≡ b.consts → q.globals ≡ b.globals → q.args ≡ b.args → IsBase flat entry q nodes
