use Rattle.std.proofs.Common.{◌≤◌, ◌^◌, arith, drop}
use Rattle.std.specs.Str.Parse.{digits_value_after}
use Rattle.std.proofs.lemmas.Grind.{common_steps}
use Rattle.hy_text.proofs.Values.{value_too_large}
use Rattle.hy_text.proofs.number.value.Goals as goal

pub returns-then-value-digit : goal.returns-then-value-digit
returns-then-value-digit c =
    let large : 2 ^ 64 ≤ digits_value_after 10 c.loop-byte.value (drop c.loop-byte.byte-index c.args.digits.now) = value_too_large c.args.digits.now c.loop-byte.byte-index c.loop-byte.value (2 ^ 64) c.loop-byte-test.true (grind (arith, common_steps)) in
    grind (arith, common_steps)
