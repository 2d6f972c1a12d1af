use Rattle.std.proofs.Common.{◌≡◌, ◌*◌, ◌≤◌, ◌%◌, ◌^◌, ◌∙◌, ℕ, List, ap, refl, sym, subst, length, arith}
use Rattle.bit_blast.specs.Words.{IsWord, Grows, word}
use Rattle.bit_blast.specs.Moves.{moved}
use Rattle.bit_blast.specs.declared.layout.Direction.TheVariants.{Left}
use Rattle.bit_blast.proofs.Growing.{grows_then, grows_within, as_before, as_after, wire_stays, wires_repeated, length-repeated}
use Rattle.bit_blast.proofs.Adding.{whole_word}
use Rattle.bit_blast.proofs.Moving.{length_moved, word-zeros}
use Rattle.bit_blast.proofs.Shifting.{mul_law, zero_product, mul_next, four_squares}
use Rattle.bit_blast.proofs.multiply.bvmul.Goals as goal

pub loop-i-init : goal.loop-i-init
loop-i-init c =
    record {
      grows = grows_within c.push.ensures.grows (omega arith);
      wires = subst (λ (l : List ℕ). IsWord c.push.new.net (length c.args.a.now) l) (sym c.in_ok-out.ensures)
          (record { width = length-repeated (length c.args.a.now) c.in_ok-off.off; there = wires_repeated c.push.new.net (length c.args.a.now) c.in_ok-off.off c.in_ok-off.ensures.wire });
      zero = c.in_ok-off.ensures.wire;
      never = λ ins e. c.in_ok-off.ensures.value ins (as_after ins c.push.ensures.grows e);
      law = λ ins e.
          ap (word ins c.push.new.net) c.in_ok-out.ensures
          ∙ word-zeros ins c.push.new.net (length c.args.a.now) c.in_ok-off.off (c.in_ok-off.ensures.value ins (as_after ins c.push.ensures.grows e))
          ∙ sym (zero_product (word ins c.args.net.now c.args.a.now) (length c.args.a.now));
    }

pub loop-i-preserved : goal.loop-i-preserved
loop-i-preserved c =
    let i = c.loop-i.i in
    let w = length c.args.a.now in
    let le : c.loop-i.i ≤ length c.args.a.now = omega (arith, c.requires.same, c.loop-i-test.true) in
    let far : c.as_slice.result.now ≡ moved Left c.loop-i.i c.in_ok-off.off c.args.a.now = c.as_slice.ensures.value ∙ c.in_ok-far.ensures in
    let far_width : length c.as_slice.result.now ≡ length c.args.a.now = ap length far ∙ length_moved Left c.loop-i.i c.in_ok-off.off c.args.a.now le in
    let os_width : length c.as_slice-in-loop-i.result.now ≡ length c.args.a.now = ap length c.as_slice-in-loop-i.ensures.value ∙ c.loop-i.invariant.wires.width in
    let both : Grows c.loop-i.net c.add_with_carry.new.net (4 * length c.args.a.now) = grows_then c.masked.ensures.grows c.add_with_carry.ensures.grows (omega (arith, far_width, os_width)) in
    let sums : IsWord c.add_with_carry.new.net (length c.args.a.now) c.in_ok-whole.whole.sum.items = subst (λ (n : ℕ). IsWord c.add_with_carry.new.net n c.in_ok-whole.whole.sum.items) os_width c.in_ok-whole.ensures.word in
    record {
      grows = grows_then c.loop-i.invariant.grows both (omega (arith, mul_next (4 * length c.args.a.now) c.loop-i.i));
      wires = sums;
      zero = wire_stays c.in_ok-off.off both c.loop-i.invariant.zero;
      never = λ ins e. both.kept ins (as_after ins c.loop-i.invariant.grows e) c.in_ok-off.off c.loop-i.invariant.zero ∙ c.loop-i.invariant.never ins e;
      law = mul_law c.args.net.now c.loop-i.net c.masked.new.net c.add_with_carry.new.net c.loop-i.i _ _ _ (length c.args.a.now) c.in_ok-off.off c.in_ok-whole.whole.carry
          c.args.a.now c.args.b.now c.loop-i.out.items c.as_slice.result.now c.as_slice-in-loop-i-2.result.now c.in_ok-whole.whole.sum.items c.as_slice-in-loop-i.result.now
          c.requires.a c.requires.b c.loop-i-test.true refl le c.loop-i.invariant.grows c.masked.ensures.grows c.add_with_carry.ensures.grows c.loop-i.invariant.wires far c.as_slice-in-loop-i.ensures.value
          c.loop-i.invariant.zero sums c.loop-i.invariant.never
          (λ ins e. ap (word ins c.masked.new.net) c.as_slice-in-loop-i-2.ensures.value ∙ c.in_ok-part.ensures.value ins e)
          c.in_ok-whole.ensures.value c.loop-i.invariant.law;
    }

pub returns-clause-grows : goal.returns-clause-grows
returns-clause-grows c =
    let end : c.loop-i.i ≡ length c.args.a.now = omega (arith, c.requires.same) in
    grows_within c.loop-i.invariant.grows (omega (arith, ap (λ (n : ℕ). 4 * length c.args.a.now * n) end, four_squares (length c.args.a.now)))

pub returns-clause-value : goal.returns-clause-value
returns-clause-value c = λ ins e.
    let end : c.loop-i.i ≡ length c.args.b.now = omega arith in
    c.loop-i.invariant.law ins (as_before ins c.loop-i.invariant.grows e)
    ∙ ap (λ (l : List ℕ). word ins c.args.net.now c.args.a.now * word ins c.args.net.now l % 2 ^ length c.args.a.now) (whole_word c.args.b.now c.loop-i.i end)
