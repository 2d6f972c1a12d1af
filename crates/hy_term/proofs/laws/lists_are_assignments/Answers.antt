use Rattle.hy_term.proofs.Fitting.{lists_are_read, lists_fit}
use Rattle.hy_term.proofs.laws.lists_are_assignments.Goals as goal

pub returns-clause-read : goal.returns-clause-read
returns-clause-read c = lists_are_read

pub returns-clause-fit : goal.returns-clause-fit
returns-clause-fit c = lists_fit
