use Rattle.std.proofs.Common.{◌≡◌, ◌∙◌, ℕ, ap, length}
use Rattle.hy_val.specs.Bits.{bvor, bvnot}
use Rattle.bit_blast.specs.Words.{word}
use Rattle.bit_blast.proofs.Growing.{as_before, same_word}
use Rattle.bit_blast.proofs.operator.implies.Goals as goal

pub returns-clause-value : goal.returns-clause-value
returns-clause-value c = λ ins e.
    let e1 : length ins ≡ c.bvnot.new.net.inputs = as_before ins c.bvor.ensures.grows e in
    c.in_ok-out.ensures.value ins e
    ∙ ap (λ (n : ℕ). bvor (length c.args.a.now) n (word ins c.bvnot.new.net c.args.b.now)) (ap (word ins c.bvnot.new.net) c.as_slice.ensures.value ∙ c.in_ok-turned.ensures.value ins e1)
    ∙ ap (bvor (length c.args.a.now) (bvnot (length c.args.a.now) (word ins c.args.net.now c.args.a.now)))
    (same_word ins c.args.b.now c.bvnot.ensures.grows (as_before ins c.bvnot.ensures.grows e1) c.requires.b)
