use Rattle.std.proofs.Common.{◌≡◌, ◌+◌, ◌*◌, ◌<◌, ◌^◌, ◌∙◌, ℕ, ap, subst, length, arith}
use Rattle.std.specs.Prelude.{nat_le}
use Rattle.hy_val.specs.Biased.{biased}
use Rattle.bit_blast.specs.Words.{word}
use Rattle.bit_blast.proofs.Growing.{grows_then, as_before, word-below}
use Rattle.bit_blast.proofs.Comparing.{order_words, signed_most}
use Rattle.bit_blast.proofs.compare.bvsle.Goals as goal

pub returns-clause-value : goal.returns-clause-value
returns-clause-value c = λ ins e.
    let net = c.args.net.now in
    let w = length c.args.a.now in
    let both = order_words c.args.net.now c.biased.new.net c.biased-2.new.net c.args.a.now c.args.b.now c.in_ok-left.left.items c.in_ok-right.right.items c.as_slice.result.now c.as_slice-2.result.now _ _
    c.biased.ensures.grows c.biased-2.ensures.grows c.requires.b c.requires.same c.in_ok-left.ensures.word c.as_slice.ensures.value c.as_slice-2.ensures.value
    c.in_ok-left.ensures.value c.in_ok-right.ensures.value ins (as_before ins c.bvule.ensures.grows e) in
    let below : word ins c.args.net.now c.args.b.now < 2 ^ length c.args.a.now = subst (λ (n : ℕ). word ins c.args.net.now c.args.b.now < 2 ^ n) c.requires.same (word-below ins c.args.net.now c.args.b.now) in
    c.in_ok-wire.ensures.value ins e
    ∙ ap (λ (n : ℕ). nat_le n (word ins c.biased-2.new.net c.as_slice-2.result.now)) both.0
    ∙ ap (λ (n : ℕ). nat_le (biased (length c.args.a.now) (word ins c.args.net.now c.args.a.now)) n) both.1
    ∙ signed_most (length c.args.a.now) (word ins c.args.net.now c.args.a.now) (word ins c.args.net.now c.args.b.now) c.requires.some (word-below ins c.args.net.now c.args.a.now) below

pub returns-clause-grows : goal.returns-clause-grows
returns-clause-grows c =
    let width : length c.as_slice.result.now ≡ length c.args.a.now = ap length c.as_slice.ensures.value ∙ c.in_ok-left.ensures.word.width in
    grows_then {n = 4 * length c.args.a.now + 5} (grows_then {n = 4} c.biased.ensures.grows c.biased-2.ensures.grows (omega arith)) c.bvule.ensures.grows (omega (arith, width))
