use Rattle.std.proofs.Common.{◌∙◌, refl, ap}
use Rattle.std.specs.Prelude.{bit_xor}
use Rattle.bit_blast.specs.declared.word.Pairing.TheVariants as pairing
use Rattle.bit_blast.specs.Words.{bits, number}
use Rattle.bit_blast.specs.Pairings.{pair_value}
use Rattle.bit_blast.proofs.Growing.{as_before, same_bits}
use Rattle.bit_blast.proofs.Numbers.{number-zipped, xor_step}
use Rattle.bit_blast.proofs.bitwise.bvxor.Goals as goal

pub returns-clause-value : goal.returns-clause-value
returns-clause-value c = λ ins e.
    let net = c.args.net.now in
    ap number (c.in_ok-out.ensures.bits ins (as_before ins c.zip.ensures.grows e))
    ∙ number-zipped (pair_value ins net pairing.Xor) bit_xor refl xor_step (bits ins net c.args.a.now) (bits ins net c.args.b.now) (same_bits ins net c.args.a.now c.args.b.now c.requires.same)
