use Rattle.std.proofs.Common.{◌∙◌, refl, ap, length}
use Rattle.bit_blast.specs.Words.{number}
use Rattle.bit_blast.proofs.Growing.{as_before}
use Rattle.bit_blast.proofs.EachBit.{masked_law}
use Rattle.bit_blast.proofs.bitwise.masked.Goals as goal

pub returns-clause-value : goal.returns-clause-value
returns-clause-value c = λ ins e.
    ap number (c.in_ok-out.ensures.bits ins (as_before ins c.zip.ensures.grows e))
    ∙ masked_law ins c.args.net.now c.args.a.now c.as_slice.result.now (length c.args.a.now) c.args.on refl (c.as_slice.ensures.value ∙ c.in_ok-ons.ensures)
