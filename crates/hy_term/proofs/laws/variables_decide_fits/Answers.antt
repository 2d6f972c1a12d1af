use Rattle.hy_term.proofs.Ordering.{variables_ascend}
use Rattle.hy_term.proofs.Fitting.{fits_by_variables}
use Rattle.hy_term.proofs.laws.variables_decide_fits.Goals as goal

pub returns-clause-ascend : goal.returns-clause-ascend
returns-clause-ascend c = variables_ascend

pub returns-clause-fits : goal.returns-clause-fits
returns-clause-fits c = fits_by_variables
