use Rattle.std.proofs.Common.{◌≡◌, ◌∙◌, ◌<◌, ◌^◌, ℕ, length, ap, sym, subst}
use Rattle.bit_blast.specs.Blasted.{scalar_width}
use Rattle.bit_blast.proofs.Numbers.{number-below}
use Rattle.bit_blast.proofs.reading.scalar_atom.Goals as goal

pub new-requires : goal.new-requires
new-requires c =
    let width : length c.args.bits.now ≡ c.in-Bv.width = c.requires ∙ ap scalar_width (sym c.in-Bv.ensures) in
    subst (λ (n : ℕ). c.number.result < 2 ^ n) width (subst (λ (n : ℕ). n < 2 ^ length c.args.bits.now) (sym c.number.ensures) (number-below c.args.bits.now))
