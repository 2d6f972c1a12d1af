use Rattle.hy_val.proofs.Words.{shifted_ones_at}
use Rattle.hy_val.proofs.sort.Width.ones.Goals as goal

pub returns-clause-value : goal.returns-clause-value
returns-clause-value c = shifted_ones_at c.args.self c.bits.result c.bits.ensures.value c.bits.ensures.within
