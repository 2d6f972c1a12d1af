use Rattle.std.proofs.Common.{◌∙◌, ◌+◌}
use Rattle.hy_val.proofs.Words.{cut_twice}
use Rattle.hy_val.proofs.bits.bvadd.Goals as goal

pub returns-clause-value : goal.returns-clause-value
returns-clause-value c = c.low.ensures.value ∙ cut_twice c.args.width (c.args.a + c.args.b) c.low.ensures.narrow
