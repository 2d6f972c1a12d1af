use Rattle.std.proofs.Common.{◌≡◌, ◌+◌, ◌*◌, ◌∙◌, ap, length, arith}
use Rattle.bit_blast.specs.Words.{word}
use Rattle.bit_blast.proofs.Growing.{grows_then}
use Rattle.bit_blast.proofs.Comparing.{equal_law}
use Rattle.bit_blast.proofs.compare.equal.Goals as goal

pub returns-clause-value : goal.returns-clause-value
returns-clause-value c =
    equal_law c.args.net.now c.bvxor.new.net c.any.new.net c.negated.new.net c.args.a.now c.args.b.now c.as_slice.result.now c.in_ok-differ.differ c.in_ok-wire.wire _ _ _
    c.bvxor.ensures.grows c.any.ensures.grows c.negated.ensures.grows
    (λ ins e. ap (word ins c.bvxor.new.net) c.as_slice.ensures.value ∙ c.in_ok-differences.ensures.value ins e)
    c.in_ok-differ.ensures.value c.in_ok-wire.ensures.value

pub returns-clause-grows : goal.returns-clause-grows
returns-clause-grows c =
    let width : length c.as_slice.result.now ≡ length c.args.a.now = ap length c.as_slice.ensures.value ∙ c.in_ok-differences.ensures.word.width in
    grows_then {n = 2 * length c.args.a.now + 3} (grows_then {n = 2 * length c.args.a.now + 1} c.bvxor.ensures.grows c.any.ensures.grows (omega (arith, width))) c.negated.ensures.grows (omega arith)
