use Rattle.std.proofs.Common.{◌≡◌, ◌∙◌, ℕ, ap, sym, subst}
use Rattle.hy_val.specs.Sorts.{scalar_of}
use Rattle.bit_blast.specs.Words.{IsWord}
use Rattle.bit_blast.specs.Blasted.{low_bits, scalar_width}
use Rattle.bit_blast.proofs.LowBits.{atom_low}
use Rattle.bit_blast.proofs.literal.literal.Goals as goal

pub returns-clause-bits : goal.returns-clause-bits
returns-clause-bits c = λ ins e.
    let width : c.scalar_width.result ≡ scalar_width (scalar_of c.args.atom) = c.scalar_width.ensures ∙ ap scalar_width c.sort.ensures.value in
    c.in_ok-word.ensures.bits ins e
    ∙ ap (λ (w : ℕ). low_bits w c.rank.result) width
    ∙ ap (low_bits (scalar_width (scalar_of c.args.atom))) c.rank.ensures
    ∙ sym (atom_low c.args.atom)

pub returns-clause-word : goal.returns-clause-word
returns-clause-word c =
    let width : c.scalar_width.result ≡ scalar_width (scalar_of c.args.atom) = c.scalar_width.ensures ∙ ap scalar_width c.sort.ensures.value in
    subst (λ (w : ℕ). IsWord c.args.net.now w c.in_ok-word.word.items) width c.in_ok-word.ensures.word
