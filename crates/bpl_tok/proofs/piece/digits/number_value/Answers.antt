use Rattle.std.proofs.Common.{arith, ◌∙◌}
use Rattle.std.specs.Str.Parse.{digits_value}
use Rattle.bpl_tok.proofs.DigitLaws.{at_end, fits, more, overflows}
use Rattle.bpl_tok.proofs.piece.digits.number_value.Goals as goal

pub returns-then-value-digit : goal.returns-then-value-digit
returns-then-value-digit c =
    overflows c.args.digits.now c.loop-b.b-index c.loop-b.value c.from-digit.result _ c.requires c.loop-b-test.true (c.from-digit.ensures ∙ c.saturating_sub.ensures) c.loop-b.invariant c.if-value-digit.true

pub loop-b-preserved : goal.loop-b-preserved
loop-b-preserved c =
    more c.args.digits.now c.loop-b.b-index c.loop-b.value c.from-digit.result _ c.requires c.loop-b-test.true (c.from-digit.ensures ∙ c.saturating_sub.ensures) c.loop-b.invariant

pub returns : goal.returns
returns c =
    fits (digits_value 10 c.args.digits.now) c.loop-b.value (omega arith) (at_end c.args.digits.now c.loop-b.b-index c.loop-b.value c.loop-b-test.false c.loop-b.invariant)
