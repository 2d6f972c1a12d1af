use Rattle.std.proofs.Common.{◌≡◌, ◌+◌, ◌-◌, ◌*◌, ◌∙◌, ℕ, ap, refl, length, get_or, arith}
use Rattle.bit_blast.specs.Words.{word}
use Rattle.bit_blast.proofs.Growing.{grows_then}
use Rattle.bit_blast.proofs.Comparing.{sign_is}
use Rattle.bit_blast.proofs.Shifting.{ashr_law}
use Rattle.bit_blast.proofs.shift.bvashr.Goals as goal

pub returns-clause-value : goal.returns-clause-value
returns-clause-value c =
    let a = c.args.a.now in
    let lp : length c.as_slice.result.now ≡ length c.args.a.now = ap length c.as_slice.ensures.value ∙ c.in_ok-plain.ensures.word.width in
    let lq : length c.as_slice-2.result.now ≡ length c.args.a.now = ap length c.as_slice-2.ensures.value ∙ c.in_ok-shifted.ensures.word.width ∙ lp in
    let some : length c.args.a.now ≡ length c.args.a.now - 1 + 1 = omega (arith, c.requires.some) in
    let last : length c.args.a.now - 1 + 1 ≡ length c.args.a.now = omega (arith, c.requires.some) in
    ashr_law c.args.net.now c.turned.new.net c.bvlshr.new.net c.turned-2.new.net c.args.a.now c.args.b.now c.as_slice.result.now c.as_slice-2.result.now c.in_ok-out.out.items
    (get_or c.args.a.now (length c.args.a.now - 1) 0) (length c.args.a.now) _ _ _ c.turned.ensures.grows c.bvlshr.ensures.grows c.turned-2.ensures.grows
    c.requires.b (c.requires.a (length c.args.a.now - 1) 0 (omega (arith, c.requires.some))) refl
    (λ ins e. sign_is ins c.args.net.now c.args.a.now (length c.args.a.now - 1) (length c.args.a.now) some refl)
    lp lq
    (λ ins e. ap (word ins c.turned.new.net) c.as_slice.ensures.value ∙ c.in_ok-plain.ensures.value ins e)
    (λ ins e. ap (word ins c.bvlshr.new.net) c.as_slice-2.ensures.value ∙ c.in_ok-shifted.ensures.value ins e)
    c.in_ok-out.ensures.value

pub returns-clause-grows : goal.returns-clause-grows
returns-clause-grows c =
    let lp : length c.as_slice.result.now ≡ length c.args.a.now = ap length c.as_slice.ensures.value ∙ c.in_ok-plain.ensures.word.width in
    let lq : length c.as_slice-2.result.now ≡ length c.args.a.now = ap length c.as_slice-2.ensures.value ∙ c.in_ok-shifted.ensures.word.width ∙ lp in
    let square : length c.as_slice.result.now * length c.as_slice.result.now ≡ length c.args.a.now * length c.args.a.now = ap (λ (n : ℕ). n * n) lp in
    grows_then {n = length c.args.a.now * length c.args.a.now + 2 * length c.args.a.now + 1}
    (grows_then {n = length c.args.a.now * length c.args.a.now + length c.args.a.now + 1} c.turned.ensures.grows c.bvlshr.ensures.grows (omega (arith, square)))
    c.turned-2.ensures.grows (omega (arith, lq))
