use Rattle.std.proofs.Common.{◌≡◌, ◌+◌, ◌*◌, ◌%◌, ◌^◌, ◌<◌}
use Rattle.hy_val.proofs.Words.{placed, joined_below, narrow_power}
use Rattle.hy_val.proofs.bits.concat.Goals as goal

value_is : (c : goal.After-bits) → c.args.a * 2 ^ c.bits.result % 2 ^ 64 + c.args.b ≡ c.args.a * 2 ^ c.args.low + c.args.b
value_is c = placed c.args.high c.args.low c.bits.result c.args.a c.args.b c.bits.ensures.value c.requires.left c.requires.fits

is_below : (c : goal.After-bits) → c.args.a * 2 ^ c.bits.result % 2 ^ 64 + c.args.b < 2 ^ (c.args.high + c.args.low)
is_below c =
    joined_below c.args.high c.args.low c.args.a c.args.b (c.args.a * 2 ^ c.bits.result % 2 ^ 64 + c.args.b) (value_is c)
    c.requires.left c.requires.right

pub overflow_add-result : goal.overflow_add-result
overflow_add-result c =
    record { fits = narrow_power (c.args.a * 2 ^ c.bits.result % 2 ^ 64 + c.args.b) (c.args.high + c.args.low) c.requires.fits (is_below c) }

pub returns-clause-value : goal.returns-clause-value
returns-clause-value c = value_is c

pub returns-clause-within : goal.returns-clause-within
returns-clause-within c = is_below c
