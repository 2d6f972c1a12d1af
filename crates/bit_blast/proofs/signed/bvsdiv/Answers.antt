use Rattle.std.proofs.Common.{◌≡◌, ◌+◌, ◌-◌, ◌*◌, ◌∙◌, ℕ, ap, subst, length, get_or, arith}
use Rattle.bit_blast.specs.Words.{IsWord}
use Rattle.bit_blast.proofs.Growing.{grows_then}
use Rattle.bit_blast.proofs.Signing.{signs, sdiv_law}
use Rattle.bit_blast.proofs.signed.bvsdiv.Goals as goal

pub returns-clause-value : goal.returns-clause-value
returns-clause-value c =
    sdiv_law c.args.net.now c.divide_absolute.new.net c.push.new.net c.negated_if.new.net c.args.a.now c.args.b.now c.in_ok-whole.whole.quotient.items c.as_slice.result.now c.in_ok-out.out.items
    (get_or c.args.a.now (length c.args.a.now - 1) 0) (get_or c.args.b.now (length c.args.b.now - 1) 0) c.in_ok-differ.differ _ _ _
    c.divide_absolute.ensures.grows c.push.ensures.grows c.negated_if.ensures.grows
    (signs c.args.net.now c.args.a.now c.args.b.now c.requires.some c.requires.same c.requires.a c.requires.b)
    c.in_ok-whole.ensures.quotient c.as_slice.ensures.value c.in_ok-whole.ensures.bvudiv c.in_ok-differ.ensures.value c.in_ok-out.ensures.value

pub returns-clause-grows : goal.returns-clause-grows
returns-clause-grows c =
    let width : length c.as_slice.result.now ≡ length c.args.a.now = ap length c.as_slice.ensures.value ∙ c.in_ok-whole.ensures.quotient.width in
    grows_then {n = 5 * (length c.args.a.now * length c.args.a.now) + 20 * length c.args.a.now + 8}
    (grows_then {n = 5 * (length c.args.a.now * length c.args.a.now) + 15 * length c.args.a.now + 6} c.divide_absolute.ensures.grows c.push.ensures.grows (omega arith))
    c.negated_if.ensures.grows (omega (arith, width))

pub returns-clause-word : goal.returns-clause-word
returns-clause-word c =
    let width : length c.as_slice.result.now ≡ length c.args.a.now = ap length c.as_slice.ensures.value ∙ c.in_ok-whole.ensures.quotient.width in
    subst (λ (n : ℕ). IsWord c.negated_if.new.net n c.in_ok-out.out.items) width c.in_ok-out.ensures.word
