-- Formulas in conjunctive normal form that stand for a question: over so many variables, these clauses can all be true exactly where the question has a member.
use Rattle.std.specs.Prelude.{◌↔◌, ℕ, List}
use Rattle.cnf_form.specs.Literal.{Satisfiable}
use Rattle.flat_prog.specs.Program.{FlatProgram}
use Rattle.flat_prog.specs.Trees.{Run}
use Rattle.call_tree.specs.declared.piece.Decision2.{Decision2}
use Rattle.call_tree.specs.Questions.{IsOver, IsUnder}

-- for Over(T, p)
abbrev pub StandsFor : (variables : ℕ) (clauses : List (List ℕ)) → FlatProgram → (entry bound : ℕ) → (tree : List (List ℕ)) → (piece : List (List ℕ × Decision2)) → Type 0
StandsFor variables clauses flat entry bound tree piece = Satisfiable variables clauses ↔ ((run : Run) × IsOver flat entry bound tree piece run)

-- for Under(T, p)
abbrev pub StandsUnder : (variables : ℕ) (clauses : List (List ℕ)) → FlatProgram → (entry bound : ℕ) → (tree : List (List ℕ)) → (piece : List (List ℕ × Decision2)) → Type 0
StandsUnder variables clauses flat entry bound tree piece = Satisfiable variables clauses ↔ ((run : Run) × IsUnder flat entry bound tree piece run)
