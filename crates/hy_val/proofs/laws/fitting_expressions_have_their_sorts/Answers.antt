use Rattle.hy_val.proofs.Scopes.{fitting_law}
use Rattle.hy_val.proofs.laws.fitting_expressions_have_their_sorts.Goals as goal

pub returns : goal.returns
returns c = fitting_law
