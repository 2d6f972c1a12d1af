use Rattle.std.proofs.Common.{◌≡◌, ℕ, ◌+◌, ◌*◌, ◌^◌, ◌∙◌, List, length, take, subst, sym, ap, arith}
use Rattle.bit_blast.specs.Words.{IsWord, bit, carried, word}
use Rattle.bit_blast.proofs.Growing.{grows_then, word_push}
use Rattle.bit_blast.proofs.Adding.{add_law, whole_word}
use Rattle.bit_blast.proofs.adder.add_with_carry.Goals as goal

pub loop-i-preserved : goal.loop-i-preserved
loop-i-preserved c =
    let items = c.in_ok-push.ensures.items in
    let net = c.full_adder.new.net in
    let i = c.loop-i.i in
    record {
      grows = grows_then c.loop-i.invariant.grows c.full_adder.ensures.grows (omega arith);
      wires = subst (λ (l : List ℕ). IsWord c.full_adder.new.net (c.loop-i.i + 1) l) (sym items) (word_push c.loop-i.sum.items c.in_ok-one.one.sum c.full_adder.ensures.grows c.loop-i.invariant.wires c.in_ok-one.ensures.sum);
      next = c.in_ok-one.ensures.carry;
      law = λ ins e.
          ap (λ (l : List ℕ). word ins net l + 2 ^ (i + 1) * bit (carried ins net c.in_ok-one.one.carry)) items
          ∙ add_law c.args.net.now c.loop-i.net net i (3 * i) 3 c.args.a.now c.args.b.now c.loop-i.sum.items c.args.carry c.loop-i.next c.in_ok-one.one.sum c.in_ok-one.one.carry
          c.requires.same c.requires.a c.requires.b c.loop-i-test.true
          c.loop-i.invariant.grows c.loop-i.invariant.wires c.full_adder.ensures.grows c.in_ok-one.ensures.value c.loop-i.invariant.law ins e;
    }

pub returns-clause-value : goal.returns-clause-value
returns-clause-value c = λ ins e.
    let old = c.args.net.now in
    let net = c.loop-i.net in
    let end : c.loop-i.i ≡ length c.args.a.now = omega arith in
    let a : take c.loop-i.i c.args.a.now ≡ c.args.a.now = whole_word c.args.a.now c.loop-i.i end in
    let b : take c.loop-i.i c.args.b.now ≡ c.args.b.now = whole_word c.args.b.now c.loop-i.i (end ∙ sym c.requires.same) in
    ap (λ (n : ℕ). word ins net c.loop-i.sum.items + 2 ^ n * bit (carried ins net c.loop-i.next)) (sym end)
    ∙ c.loop-i.invariant.law ins e
    ∙ ap (λ (l : List ℕ). word ins old l + word ins old (take c.loop-i.i c.args.b.now) + bit (carried ins old c.args.carry)) a
    ∙ ap (λ (l : List ℕ). word ins old c.args.a.now + word ins old l + bit (carried ins old c.args.carry)) b
