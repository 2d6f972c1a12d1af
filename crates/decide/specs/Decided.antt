-- What the decision of a question says of the terms that ask it.
use Rattle.std.specs.Prelude.{◌≡◌, true, List, length, IsTrue, ◌↔◌}
use Rattle.hy_val.specs.declared.value.Value.{Value}
use Rattle.hy_term.specs.Formula.{Formula}
use Rattle.hy_term.specs.Meaning.{CanHold, fits, holds}
use Rattle.hy_term.specs.Variables.{numbers, of_list}
use Rattle.cnf_form.specs.Literal.{Satisfiable}
use Rattle.decide.specs.declared.decision.Decision.{Decision}
use Rattle.decide.specs.declared.decision.Decision.TheVariants.{Model, Refuted, NoMemory}

-- one value for each variable, ascending by number: they have the variables' sorts and make the root true
pub record IsModel (f : Formula) (vs : List Value) : Type 0 where
  pub count : length vs ≡ length (numbers f.nodes)
  pub fits : IsTrue (fits (of_list (numbers f.nodes) vs) f.nodes)
  pub holds : holds (of_list (numbers f.nodes) vs) f ≡ true

-- a model; or a refuted formula that can be satisfied exactly where the terms can hold, so that they can't; or nothing
abbrev pub IsDecision : Formula → Decision → Type 0
IsDecision f (Model vs) = IsModel f vs
IsDecision f (Refuted r) = (Satisfiable r.cnf.variables r.cnf.clauses ↔ CanHold f) × (CanHold f → ⊥)
IsDecision f NoMemory = Unit {0}
