use Rattle.std.proofs.Common.{◌≡◌, ◌*◌, ◌%◌, ◌^◌, arith}
use Rattle.bit_blast.proofs.Shifting.{power_fits}
use Rattle.bit_blast.proofs.shift.reach.Goals as goal

pub returns-then-by-width : goal.returns-then-by-width
returns-then-by-width c =
    let e : 1 * 2 ^ c.args.place % 2 ^ 64 ≡ 2 ^ c.args.place = power_fits c.args.place c.requires in
    record { value = omega (arith, e, c.if-by-width.true) }

pub returns-else-by-width : goal.returns-else-by-width
returns-else-by-width c =
    let e : 1 * 2 ^ c.args.place % 2 ^ 64 ≡ 2 ^ c.args.place = power_fits c.args.place c.requires in
    record { value = omega (arith, e, c.if-by-width.false) }
