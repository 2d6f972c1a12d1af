use Rattle.std.proofs.Common.{◌∙◌}
use Rattle.hy_val.proofs.Words.{borrowed_from_zero}
use Rattle.hy_val.proofs.bits.bvneg.Goals as goal

pub returns-clause-value : goal.returns-clause-value
returns-clause-value c = c.low.ensures.value ∙ borrowed_from_zero c.args.width c.args.a c.low.ensures.narrow c.requires
