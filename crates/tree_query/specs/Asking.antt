-- The questions over and under: the formulas of which they are asked, what may be asked, and what is answered.
use Rattle.std.specs.Prelude.{◌≡◌, ◌<◌, ℕ, true, Bool, List, length, IsTrue}
use Rattle.flat_prog.specs.Limits.{AreLimits}
use Rattle.flat_prog.specs.Program.{FlatProgram}
use Rattle.flat_prog.specs.Shape.{IsFlat}
use Rattle.flat_prog.specs.Trees.{Run}
use Rattle.flat_prog.specs.Nodes.{run_of, are_whole_nodes}
use Rattle.call_tree.specs.declared.piece.Decision2.{Decision2}
use Rattle.call_tree.specs.Trees.{IsPartTree, are_in}
use Rattle.call_tree.specs.Pieces.{names_of}
use Rattle.call_tree.specs.Questions.{IsOver, IsUnder}
use Rattle.call_tree.specs.Standing.{StandsFor, StandsUnder}
use Rattle.proc_template.specs.Template.{AreTemplates}
use Rattle.template_law.specs.Formulas.{AreChanges}
use Rattle.tree_query.specs.declared.formulas.Formulas.{Formulas}
use Rattle.tree_query.specs.declared.asking.QueryAnswer.{QueryAnswer}
use Rattle.tree_query.specs.declared.asking.QueryAnswer.TheVariants.{Run as RunAnswer, Refuted as RefutedAnswer, NoMemory}

-- the formulas of a program: one for each procedure, and for each the numbers of the globals that it may change
pub record IsOf (flat : FlatProgram) (f : Formulas) : Type 0 where
  pub flat_is : IsFlat flat
  pub limits : List (List Bool)
  pub limits_are : AreLimits flat limits
  pub changes_are : AreChanges flat f.changes
  pub templates_are : AreTemplates flat limits f.templates

-- what may be asked: of an entry that is a procedure, a partial tree of it, and a piece that names nodes of the tree
pub record MayAsk (flat : FlatProgram) (entry bound : ℕ) (tree : List (List ℕ)) (piece : List (List ℕ × Decision2)) : Type 0 where
  pub entry_is : entry < length flat.procs
  pub fits : IsPartTree flat entry bound tree
  pub named : are_in (names_of piece) tree ≡ true

-- a member of Over(T, p); or a refuted formula that can be satisfied exactly where there is one, and there is none; or nothing
abbrev pub OverIs : FlatProgram → (entry bound : ℕ) → List (List ℕ) → List (List ℕ × Decision2) → QueryAnswer → Type 0
OverIs flat entry bound tree piece (RunAnswer r) = IsOver flat entry bound tree piece (run_of r)
OverIs flat entry bound tree piece (RefutedAnswer r) = StandsFor r.cnf.variables r.cnf.clauses flat entry bound tree piece × ((run : Run) → IsOver flat entry bound tree piece run → ⊥)
OverIs flat entry bound tree piece NoMemory = Unit {0}

-- the same for Under(T, p); a member has no free child
abbrev pub UnderIs : FlatProgram → (entry bound : ℕ) → List (List ℕ) → List (List ℕ × Decision2) → QueryAnswer → Type 0
UnderIs flat entry bound tree piece (RunAnswer r) = IsUnder flat entry bound tree piece (run_of r) × IsTrue (are_whole_nodes r)
UnderIs flat entry bound tree piece (RefutedAnswer r) = StandsUnder r.cnf.variables r.cnf.clauses flat entry bound tree piece × ((run : Run) → IsUnder flat entry bound tree piece run → ⊥)
UnderIs flat entry bound tree piece NoMemory = Unit {0}
