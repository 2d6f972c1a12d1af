use Rattle.std.proofs.Common.{◌≡◌, ◌+◌, ◌-◌, ◌*◌, ◌∙◌, ℕ, ap, subst, length, get_or, arith}
use Rattle.bit_blast.specs.Words.{IsWord}
use Rattle.bit_blast.proofs.Growing.{grows_then}
use Rattle.bit_blast.proofs.Signing.{signs, smod_law}
use Rattle.bit_blast.proofs.signed.bvsmod.Goals as goal

pub returns-clause-value : goal.returns-clause-value
returns-clause-value c =
    let u : length c.as_slice.result.now ≡ length c.args.a.now = ap length c.as_slice.ensures.value ∙ c.in_ok-whole.ensures.remainder.width in
    let s : length c.as_slice-2.result.now ≡ length c.args.a.now = ap length c.as_slice-2.ensures.value ∙ c.in_ok-rest.ensures.word.width ∙ u in
    smod_law c.args.net.now c.divide_absolute.new.net c.negated_if.new.net c.bvadd.new.net c.any.new.net c.push.new.net c.push-2.new.net c.choose.new.net c.args.a.now c.args.b.now
    c.in_ok-whole.whole.remainder.items c.as_slice.result.now c.as_slice-3.result.now c.in_ok-rest.rest.items c.as_slice-2.result.now c.in_ok-sum.sum.items c.as_slice-4.result.now c.as_slice-5.result.now c.in_ok-out.out.items
    (get_or c.args.a.now (length c.args.a.now - 1) 0) (get_or c.args.b.now (length c.args.b.now - 1) 0) c.in_ok-some.some c.in_ok-differ.differ c.in_ok-back.back _ _ _ _ _ _ _
    c.divide_absolute.ensures.grows c.negated_if.ensures.grows c.bvadd.ensures.grows c.any.ensures.grows c.push.ensures.grows c.push-2.ensures.grows c.choose.ensures.grows
    (signs c.args.net.now c.args.a.now c.args.b.now c.requires.some c.requires.same c.requires.a c.requires.b) c.requires.b
    c.in_ok-whole.ensures.remainder c.as_slice.ensures.value c.as_slice-3.ensures.value
    (subst (λ (n : ℕ). IsWord c.negated_if.new.net n c.in_ok-rest.rest.items) u c.in_ok-rest.ensures.word) c.as_slice-2.ensures.value c.as_slice-5.ensures.value
    (subst (λ (n : ℕ). IsWord c.bvadd.new.net n c.in_ok-sum.sum.items) s c.in_ok-sum.ensures.word) c.as_slice-4.ensures.value c.in_ok-some.ensures.wire
    c.in_ok-whole.ensures.bvurem c.in_ok-rest.ensures.value c.in_ok-sum.ensures.value c.in_ok-some.ensures.value c.in_ok-differ.ensures.value c.in_ok-back.ensures.value c.in_ok-out.ensures.value

pub returns-clause-grows : goal.returns-clause-grows
returns-clause-grows c =
    let w = length c.args.a.now in
    let u : length c.as_slice.result.now ≡ length c.args.a.now = ap length c.as_slice.ensures.value ∙ c.in_ok-whole.ensures.remainder.width in
    let v : length c.as_slice-3.result.now ≡ length c.args.a.now = ap length c.as_slice-3.ensures.value ∙ c.in_ok-whole.ensures.remainder.width in
    let s : length c.as_slice-2.result.now ≡ length c.args.a.now = ap length c.as_slice-2.ensures.value ∙ c.in_ok-rest.ensures.word.width ∙ u in
    let t : length c.as_slice-4.result.now ≡ length c.args.a.now = ap length c.as_slice-4.ensures.value ∙ c.in_ok-sum.ensures.word.width ∙ s in
    let g2 = grows_then {n = 5 * (length c.args.a.now * length c.args.a.now) + 20 * length c.args.a.now + 7} c.divide_absolute.ensures.grows c.negated_if.ensures.grows (omega (arith, u)) in
    let g3 = grows_then {n = 5 * (length c.args.a.now * length c.args.a.now) + 23 * length c.args.a.now + 8} g2 c.bvadd.ensures.grows (omega (arith, s)) in
    let g4 = grows_then {n = 5 * (length c.args.a.now * length c.args.a.now) + 24 * length c.args.a.now + 9} g3 c.any.ensures.grows (omega (arith, v)) in
    let g5 = grows_then {n = 5 * (length c.args.a.now * length c.args.a.now) + 24 * length c.args.a.now + 10} g4 c.push.ensures.grows (omega arith) in
    let g6 = grows_then {n = 5 * (length c.args.a.now * length c.args.a.now) + 24 * length c.args.a.now + 11} g5 c.push-2.ensures.grows (omega arith) in
    grows_then {n = 5 * (length c.args.a.now * length c.args.a.now) + 25 * length c.args.a.now + 11} g6 c.choose.ensures.grows (omega (arith, t))

pub returns-clause-word : goal.returns-clause-word
returns-clause-word c =
    let u : length c.as_slice.result.now ≡ length c.args.a.now = ap length c.as_slice.ensures.value ∙ c.in_ok-whole.ensures.remainder.width in
    let s : length c.as_slice-2.result.now ≡ length c.args.a.now = ap length c.as_slice-2.ensures.value ∙ c.in_ok-rest.ensures.word.width ∙ u in
    let t : length c.as_slice-4.result.now ≡ length c.args.a.now = ap length c.as_slice-4.ensures.value ∙ c.in_ok-sum.ensures.word.width ∙ s in
    subst (λ (n : ℕ). IsWord c.choose.new.net n c.in_ok-out.out.items) t c.in_ok-out.ensures.word

pub returns-in_err-out-clause-grows : goal.returns-in_err-out-clause-grows
returns-in_err-out-clause-grows c =
    let w = length c.args.a.now in
    let u : length c.as_slice.result.now ≡ length c.args.a.now = ap length c.as_slice.ensures.value ∙ c.in_ok-whole.ensures.remainder.width in
    let v : length c.as_slice-3.result.now ≡ length c.args.a.now = ap length c.as_slice-3.ensures.value ∙ c.in_ok-whole.ensures.remainder.width in
    let s : length c.as_slice-2.result.now ≡ length c.args.a.now = ap length c.as_slice-2.ensures.value ∙ c.in_ok-rest.ensures.word.width ∙ u in
    let t : length c.as_slice-4.result.now ≡ length c.args.a.now = ap length c.as_slice-4.ensures.value ∙ c.in_ok-sum.ensures.word.width ∙ s in
    let g2 = grows_then {n = 5 * (length c.args.a.now * length c.args.a.now) + 20 * length c.args.a.now + 7} c.divide_absolute.ensures.grows c.negated_if.ensures.grows (omega (arith, u)) in
    let g3 = grows_then {n = 5 * (length c.args.a.now * length c.args.a.now) + 23 * length c.args.a.now + 8} g2 c.bvadd.ensures.grows (omega (arith, s)) in
    let g4 = grows_then {n = 5 * (length c.args.a.now * length c.args.a.now) + 24 * length c.args.a.now + 9} g3 c.any.ensures.grows (omega (arith, v)) in
    let g5 = grows_then {n = 5 * (length c.args.a.now * length c.args.a.now) + 24 * length c.args.a.now + 10} g4 c.push.ensures.grows (omega arith) in
    let g6 = grows_then {n = 5 * (length c.args.a.now * length c.args.a.now) + 24 * length c.args.a.now + 11} g5 c.push-2.ensures.grows (omega arith) in
    grows_then {n = 5 * (length c.args.a.now * length c.args.a.now) + 25 * length c.args.a.now + 11} g6 c.choose.ensures.grows (omega (arith, t))
