use Rattle.std.proofs.Common.{◌≡◌, ◌∙◌, ℕ, ap, subst, length, arith}
use Rattle.bit_blast.specs.Words.{IsWord}
use Rattle.bit_blast.proofs.Growing.{grows_then}
use Rattle.bit_blast.proofs.Signing.{negated_law}
use Rattle.bit_blast.proofs.signed.negated_if.Goals as goal

pub returns-clause-value : goal.returns-clause-value
returns-clause-value c =
    negated_law c.args.net.now c.bvneg.new.net c.choose.new.net c.args.a.now c.in_ok-other.other.items c.in_ok-out.out.items c.as_slice.result.now c.args.on _ _
    c.bvneg.ensures.grows c.choose.ensures.grows c.requires.a c.requires.on c.as_slice.ensures.value c.in_ok-other.ensures.value c.in_ok-out.ensures.value

pub returns-clause-grows : goal.returns-clause-grows
returns-clause-grows c =
    let width : length c.as_slice.result.now ≡ length c.args.a.now = ap length c.as_slice.ensures.value ∙ c.in_ok-other.ensures.word.width in
    grows_then c.bvneg.ensures.grows c.choose.ensures.grows (omega (arith, width))

pub returns-clause-word : goal.returns-clause-word
returns-clause-word c =
    let width : length c.as_slice.result.now ≡ length c.args.a.now = ap length c.as_slice.ensures.value ∙ c.in_ok-other.ensures.word.width in
    subst (λ (n : ℕ). IsWord c.choose.new.net n c.in_ok-out.out.items) width c.in_ok-out.ensures.word
