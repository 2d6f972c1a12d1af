-- What is answered to a question, whether or not open sites are blocked.
use Rattle.std.specs.Prelude.{◌≡◌, ◌↔◌, ℕ, Bool, true, false, List, IsTrue}
use Rattle.hy_val.specs.declared.value.Value.{Value}
use Rattle.hy_term.specs.Formula.{Formula as Terms}
use Rattle.hy_term.specs.Meaning.{CanHold, fits, holds, values}
use Rattle.flat_prog.specs.Nodes.{are_nodes, are_whole_nodes, run_of}
use Rattle.flat_prog.specs.Program.{FlatProgram}
use Rattle.flat_prog.specs.Trees.{Run, is_whole}
use Rattle.flat_prog.specs.declared.run.RunNode.{RunNode}
use Rattle.call_tree.specs.Questions.{IsOver}
use Rattle.call_tree.specs.declared.piece.Decision2.{Decision2}
use Rattle.tree_terms.specs.declared.linked.Linked.{Linked}
use Rattle.tree_words.specs.Reading.{nodes_read}
use Rattle.tree_query.specs.Asking.{OverIs, UnderIs}
use Rattle.tree_query.specs.declared.asking.QueryAnswer.{QueryAnswer}

-- the answer to the question under, where open sites are blocked, else to the question over
abbrev pub AnswerIs : Bool → FlatProgram → (entry bound : ℕ) → List (List ℕ) → List (List ℕ × Decision2) → QueryAnswer → Type 0
AnswerIs false flat entry bound tree piece answer = OverIs flat entry bound tree piece answer
AnswerIs true flat entry bound tree piece answer = UnderIs flat entry bound tree piece answer

-- the nodes of a member, and where open sites are blocked of one without a free child
pub record AreMembers (blocked : Bool) (flat : FlatProgram) (entry bound : ℕ) (tree : List (List ℕ)) (piece : List (List ℕ × Decision2)) (nodes : List RunNode) : Type 0 where
  pub fit : IsTrue (are_nodes nodes)
  pub over : IsOver flat entry bound tree piece (run_of nodes)
  pub whole_run : blocked ≡ true → is_whole (run_of nodes) ≡ true
  pub whole : blocked ≡ true → IsTrue (are_whole_nodes nodes)

-- a member, and where open sites are blocked one without a free child
abbrev pub HasMember : Bool → FlatProgram → (entry bound : ℕ) → List (List ℕ) → List (List ℕ × Decision2) → Type 0
HasMember blocked flat entry bound tree piece = (run : Run) × IsOver flat entry bound tree piece run × (blocked ≡ true → is_whole run ≡ true)

-- Terms that ask a question can hold exactly where it has a member, and the nodes that are read off values which make them hold are those of one.
pub record Stands (changes : List (List ℕ)) (blocked : Bool) (flat : FlatProgram) (entry bound : ℕ) (tree : List (List ℕ)) (piece : List (List ℕ × Decision2)) (q : Linked) (f : Terms) (places : List (List ℕ))
    (reach : List ℕ) : Type 0 where
  pub holds_where : CanHold f ↔ HasMember blocked flat entry bound tree piece
  pub reads : (a : ℕ → Value) → IsTrue (fits a f.nodes) → holds a f ≡ true → AreMembers blocked flat entry bound tree piece (nodes_read flat.procs changes q places reach (values a f.nodes))
