use Rattle.std.proofs.Common.{◌≡◌, ◌+◌, ◌-◌, ◌∙◌, length, arith}
use Rattle.bit_blast.proofs.Signing.{absolute_law}
use Rattle.bit_blast.proofs.signed.absolute.Goals as goal

pub returns-clause-value : goal.returns-clause-value
returns-clause-value c = λ ins e.
    let some : length c.args.a.now ≡ length c.args.a.now - 1 + 1 = omega (arith, c.requires.some) in
    c.in_ok-out.ensures.value ins e ∙ absolute_law ins c.args.net.now c.args.a.now (length c.args.a.now - 1) some
