use Rattle.hy_val.proofs.Words.{still_below_at}
use Rattle.hy_val.proofs.operation.apply_to_word.Goals as goal

pub made-requires-in-ZeroExtend : goal.made-requires-in-ZeroExtend
made-requires-in-ZeroExtend c =
    still_below_at c.args.a.width c.in-ZeroExtend.more c.bits-bits.result c.width-width.result c.bits.result c.new-in-ZeroExtend.result
    c.width-width.ensures c.bits.ensures.value c.new-in-ZeroExtend.ensures c.bits-bits.ensures.within
