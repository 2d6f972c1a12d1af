use Rattle.std.proofs.Common.{◌∙◌, ◌<◌, arith}
use Rattle.hy_val.proofs.Words.{shifted}
use Rattle.hy_val.proofs.bits.bvshl.Goals as goal

pub returns-then-b-bits-clause-value : goal.returns-then-b-bits-clause-value
returns-then-b-bits-clause-value c =
    let less : c.args.b < c.args.width = omega (arith, c.bits.ensures.value, c.if-b-bits.true) in
    c.low.ensures.value ∙ shifted c.args.width c.args.a c.args.b c.low.ensures.narrow less
