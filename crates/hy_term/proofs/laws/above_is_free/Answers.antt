use Rattle.hy_term.proofs.Numbering.{above_is_free}
use Rattle.hy_term.proofs.laws.above_is_free.Goals as goal

pub returns : goal.returns
returns c = above_is_free
