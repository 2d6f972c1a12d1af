use Rattle.std.proofs.Common.{◌≡◌, ◌+◌, length, arith}
use Rattle.bit_blast.proofs.Signing.{concat_law, joined_word}
use Rattle.bit_blast.proofs.layout.concat.Goals as goal

pub returns-clause-word : goal.returns-clause-word
returns-clause-word c = λ net wa wb.
    let sum : length c.args.a.now + length c.args.b.now ≡ length c.args.b.now + length c.args.a.now = omega arith in
    joined_word net c.args.a.now c.args.b.now c.in_ok-out.out.items (length c.args.a.now + length c.args.b.now) c.in_ok-out.ensures wa wb sum

pub returns-clause-value : goal.returns-clause-value
returns-clause-value c = λ net ins. concat_law ins net c.args.a.now c.args.b.now c.in_ok-out.out.items c.in_ok-out.ensures
