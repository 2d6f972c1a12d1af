use Rattle.hy_term.proofs.Growing.{value-more}
use Rattle.hy_term.proofs.laws.values_stay.Goals as goal

pub returns : goal.returns
returns c = value-more
