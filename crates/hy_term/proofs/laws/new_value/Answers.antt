use Rattle.hy_term.proofs.Growing.{value-new}
use Rattle.hy_term.proofs.laws.new_value.Goals as goal

pub returns : goal.returns
returns c = value-new
