use Rattle.std.proofs.Common.{◌∙◌, length}
use Rattle.bit_blast.specs.Words.{word}
use Rattle.bit_blast.proofs.Growing.{word-below}
use Rattle.bit_blast.proofs.Shifting.{shl_end}
use Rattle.bit_blast.proofs.shift.bvshl.Goals as goal

pub returns-clause-value : goal.returns-clause-value
returns-clause-value c = λ ins e.
    let net = c.args.net.now in
    c.in_ok-out.ensures.value ins e
    ∙ shl_end (length c.args.a.now) (word ins net c.args.a.now) (word ins net c.args.b.now) (word-below ins net c.args.a.now)
