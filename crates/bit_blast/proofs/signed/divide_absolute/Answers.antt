use Rattle.std.proofs.Common.{◌≡◌, ◌+◌, ◌*◌, ◌∙◌, ℕ, ap, subst, length, arith}
use Rattle.hy_val.specs.Bits.{absolute, bvudiv, bvurem}
use Rattle.bit_blast.specs.Words.{IsWord, word}
use Rattle.bit_blast.proofs.Growing.{grows_then, as_before}
use Rattle.bit_blast.proofs.Signing.{absolute_words}
use Rattle.bit_blast.proofs.signed.divide_absolute.Goals as goal

pub returns-clause-bvudiv : goal.returns-clause-bvudiv
returns-clause-bvudiv c = λ ins e.
    let width : length c.as_slice.result.now ≡ length c.args.a.now = ap length c.as_slice.ensures.value ∙ c.in_ok-left.ensures.word.width in
    let both = absolute_words c.args.net.now c.absolute.new.net c.absolute-2.new.net c.args.a.now c.args.b.now c.in_ok-left.left.items c.in_ok-right.right.items c.as_slice.result.now c.as_slice-2.result.now _ _
    c.absolute.ensures.grows c.absolute-2.ensures.grows c.requires.b c.requires.same c.in_ok-left.ensures.word c.as_slice.ensures.value c.as_slice-2.ensures.value
    c.in_ok-left.ensures.value c.in_ok-right.ensures.value ins (as_before ins c.divide_words.ensures.grows e) in
    c.in_ok-whole.ensures.bvudiv ins e
    ∙ ap (λ (n : ℕ). bvudiv n (word ins c.absolute-2.new.net c.as_slice.result.now) (word ins c.absolute-2.new.net c.as_slice-2.result.now)) width
    ∙ ap (λ (n : ℕ). bvudiv (length c.args.a.now) n (word ins c.absolute-2.new.net c.as_slice-2.result.now)) both.0
    ∙ ap (λ (n : ℕ). bvudiv (length c.args.a.now) (absolute (length c.args.a.now) (word ins c.args.net.now c.args.a.now)) n) both.1

pub returns-clause-bvurem : goal.returns-clause-bvurem
returns-clause-bvurem c = λ ins e.
    let width : length c.as_slice.result.now ≡ length c.args.a.now = ap length c.as_slice.ensures.value ∙ c.in_ok-left.ensures.word.width in
    let both = absolute_words c.args.net.now c.absolute.new.net c.absolute-2.new.net c.args.a.now c.args.b.now c.in_ok-left.left.items c.in_ok-right.right.items c.as_slice.result.now c.as_slice-2.result.now _ _
    c.absolute.ensures.grows c.absolute-2.ensures.grows c.requires.b c.requires.same c.in_ok-left.ensures.word c.as_slice.ensures.value c.as_slice-2.ensures.value
    c.in_ok-left.ensures.value c.in_ok-right.ensures.value ins (as_before ins c.divide_words.ensures.grows e) in
    c.in_ok-whole.ensures.bvurem ins e
    ∙ ap (λ (n : ℕ). bvurem n (word ins c.absolute-2.new.net c.as_slice.result.now) (word ins c.absolute-2.new.net c.as_slice-2.result.now)) width
    ∙ ap (λ (n : ℕ). bvurem (length c.args.a.now) n (word ins c.absolute-2.new.net c.as_slice-2.result.now)) both.0
    ∙ ap (λ (n : ℕ). bvurem (length c.args.a.now) (absolute (length c.args.a.now) (word ins c.args.net.now c.args.a.now)) n) both.1

pub returns-clause-grows : goal.returns-clause-grows
returns-clause-grows c =
    let width : length c.as_slice.result.now ≡ length c.args.a.now = ap length c.as_slice.ensures.value ∙ c.in_ok-left.ensures.word.width in
    let square : length c.as_slice.result.now * length c.as_slice.result.now ≡ length c.args.a.now * length c.args.a.now = ap (λ (n : ℕ). n * n) width in
    grows_then {n = 5 * (length c.args.a.now * length c.args.a.now) + 15 * length c.args.a.now + 5}
    (grows_then {n = 10 * length c.args.a.now + 4} c.absolute.ensures.grows c.absolute-2.ensures.grows (omega (arith, c.requires.same)))
    c.divide_words.ensures.grows (omega (arith, square, width))

pub returns-clause-quotient : goal.returns-clause-quotient
returns-clause-quotient c =
    let width : length c.as_slice.result.now ≡ length c.args.a.now = ap length c.as_slice.ensures.value ∙ c.in_ok-left.ensures.word.width in
    subst (λ (n : ℕ). IsWord c.divide_words.new.net n c.in_ok-whole.whole.quotient.items) width c.in_ok-whole.ensures.quotient

pub returns-clause-remainder : goal.returns-clause-remainder
returns-clause-remainder c =
    let width : length c.as_slice.result.now ≡ length c.args.a.now = ap length c.as_slice.ensures.value ∙ c.in_ok-left.ensures.word.width in
    subst (λ (n : ℕ). IsWord c.divide_words.new.net n c.in_ok-whole.whole.remainder.items) width c.in_ok-whole.ensures.remainder
