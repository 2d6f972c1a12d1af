-- What a solver answers, and what it adds to the clauses.
use Rattle.std.specs.Prelude.{◌≡◌, ℕ, true, List, [], ◌∷◌, ◌++◌, length}
use Rattle.cnf_form.specs.Literal.{Satisfies}
use Rattle.cnf_form.specs.Lines.{accepts, clauses_of}
use Rattle.cnf_form.specs.New.{AreNew}
use Rattle.cnf_form.specs.declared.log.Line.{Line}
use Rattle.sat_core.specs.declared.outcome.Answer.{Answer}
use Rattle.sat_core.specs.declared.outcome.Answer.TheVariants.{Sat, Unsat, NoMemory}

-- a log in which each line follows, whose last line is empty and whose other lines are new
pub record RefutesAnew (clauses : List (List ℕ)) (lines : List Line) : Type 0 where
  pub front : List Line
  pub last : Line
  pub ends : lines ≡ front ++ last ∷ []
  pub empty : last.clause ≡ []
  pub new : AreNew clauses front
  pub accepted : accepts clauses lines ≡ true

-- a list of so many truth values that makes every clause true; or a log that refutes them anew; or nothing
abbrev pub IsAnswer : ℕ → List (List ℕ) → Answer → Type 0
IsAnswer variables clauses (Sat values) = (length values.items ≡ variables) × Satisfies values.items clauses
IsAnswer variables clauses (Unsat log) = RefutesAnew clauses log.lines
IsAnswer variables clauses NoMemory = Unit {0}

-- after are the clauses of before, and then those of these lines, each of which follows from the clauses before it and is new
pub record AreAdded (before : List (List ℕ)) (lines : List Line) (after : List (List ℕ)) : Type 0 where
  pub clauses : after ≡ before ++ clauses_of lines
  pub accepted : accepts before lines ≡ true
  pub new : AreNew before lines

abbrev pub IsExtended : List (List ℕ) → List (List ℕ) → Type 0
IsExtended before after = (lines : List Line) × AreAdded before lines after
