use Rattle.std.proofs.Common.{◌∙◌}
use Rattle.hy_val.proofs.Words.{borrowed}
use Rattle.hy_val.proofs.bits.bvsub.Goals as goal

pub returns-clause-value : goal.returns-clause-value
returns-clause-value c = c.low.ensures.value ∙ borrowed c.args.width c.args.a c.args.b c.low.ensures.narrow c.requires
