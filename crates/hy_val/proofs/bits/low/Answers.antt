use Rattle.hy_val.proofs.Words.{masked}
use Rattle.hy_val.proofs.bits.low.Goals as goal

pub returns-clause-value : goal.returns-clause-value
returns-clause-value c = masked c.args.width c.args.word c.ones.result c.ones.ensures.value
