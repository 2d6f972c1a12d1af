use Rattle.std.proofs.Common.{◌≡◌, ◌*◌, ◌≤◌, ◌∙◌, ℕ, List, ap, refl, sym, subst, length, get_or, arith, if◌then◌else◌}
use Rattle.bit_blast.specs.Words.{IsWord, carried, word}
use Rattle.bit_blast.specs.Moves.{moved, shifted}
use Rattle.bit_blast.proofs.Growing.{grows_then, grows_within, as_before, as_after, wire_stays, wires_stay, same_word, word-below}
use Rattle.bit_blast.proofs.Adding.{whole_word}
use Rattle.bit_blast.proofs.Moving.{length_moved}
use Rattle.bit_blast.proofs.Shifting.{barrel_law, shifted_none, mul_next}
use Rattle.bit_blast.proofs.shift.barrel.Goals as goal

pub loop-i-init : goal.loop-i-init
loop-i-init c =
    let old = c.args.net.now in
    let net = c.push.new.net in
    let a = c.args.a.now in
    let items = c.in_ok-out.ensures.items in
    let grows = c.push.ensures.grows in
    record {
      grows = grows_within c.push.ensures.grows (omega arith);
      wires = subst (λ (l : List ℕ). IsWord c.push.new.net (length c.args.a.now) l) (sym c.in_ok-out.ensures.items)
          (record { width = refl; there = wires_stay c.args.a.now c.push.ensures.grows c.requires.a });
      zero = c.in_ok-off.ensures.wire;
      never = λ ins e. c.in_ok-off.ensures.value ins (as_after ins c.push.ensures.grows e);
      law = λ ins e.
          ap (word ins c.push.new.net) c.in_ok-out.ensures.items
          ∙ same_word ins c.args.a.now c.push.ensures.grows e c.requires.a
          ∙ shifted_none c.args.direction (length c.args.a.now) (word ins c.args.net.now c.args.a.now) (word-below ins c.args.net.now c.args.a.now);
    }

pub loop-i-preserved : goal.loop-i-preserved
loop-i-preserved c =
    let outs = c.loop-i.out.items in
    let i = c.loop-i.i in
    let by = c.reach-by.result in
    let off = c.in_ok-off.off in
    let w = length c.args.a.now in
    let far : c.as_slice-in-loop-i.result.now ≡ moved c.args.direction c.reach-by.result c.in_ok-off.off c.loop-i.out.items =
    c.as_slice-in-loop-i.ensures.value ∙ c.in_ok-far.ensures ∙ ap (moved c.args.direction c.reach-by.result c.in_ok-off.off) c.as_slice.ensures.value in
    let within : c.reach-by.result ≤ length c.loop-i.out.items = grind (arith, c.reach-by.ensures.value, c.loop-i.invariant.wires.width) in
    let width : length c.as_slice-in-loop-i.result.now ≡ length c.args.a.now =
    ap length far ∙ length_moved c.args.direction c.reach-by.result c.in_ok-off.off c.loop-i.out.items within ∙ c.loop-i.invariant.wires.width in
    record {
      grows = grows_then c.loop-i.invariant.grows c.choose.ensures.grows (omega (arith, mul_next (length c.args.a.now) c.loop-i.i, width));
      wires = subst (λ (n : ℕ). IsWord c.choose.new.net n c.in_ok-out-2.out.items) width c.in_ok-out-2.ensures.word;
      zero = wire_stays c.in_ok-off.off c.choose.ensures.grows c.loop-i.invariant.zero;
      never = λ ins e. c.choose.ensures.grows.kept ins (as_after ins c.loop-i.invariant.grows e) c.in_ok-off.off c.loop-i.invariant.zero ∙ c.loop-i.invariant.never ins e;
      law = barrel_law c.args.net.now c.loop-i.net c.choose.new.net c.args.direction c.loop-i.i _ _ (length c.args.a.now) c.reach-by.result c.in_ok-off.off c.args.a.now c.args.b.now c.loop-i.out.items c.as_slice-in-loop-i.result.now c.in_ok-out-2.out.items
          c.requires.b c.loop-i-test.true c.loop-i.invariant.grows c.choose.ensures.grows c.loop-i.invariant.wires c.reach-by.ensures.value far c.loop-i.invariant.never
          (λ ins e. c.in_ok-out-2.ensures.value ins e
          ∙ ap (λ (l : List ℕ). if carried ins c.loop-i.net (get_or c.args.b.now c.loop-i.i 0) then word ins c.loop-i.net c.as_slice-in-loop-i.result.now else word ins c.loop-i.net l) c.as_slice-in-loop-i-2.ensures.value)
          c.loop-i.invariant.law;
    }

pub returns-clause-grows : goal.returns-clause-grows
returns-clause-grows c =
    let end : c.loop-i.i ≡ length c.args.a.now = omega (arith, c.requires.same) in
    grows_within c.loop-i.invariant.grows (omega (arith, ap (λ (n : ℕ). length c.args.a.now * n) end))

pub returns-clause-value : goal.returns-clause-value
returns-clause-value c = λ ins e.
    let end : c.loop-i.i ≡ length c.args.b.now = omega arith in
    c.loop-i.invariant.law ins (as_before ins c.loop-i.invariant.grows e)
    ∙ ap (λ (l : List ℕ). shifted c.args.direction (length c.args.a.now) (word ins c.args.net.now c.args.a.now) (word ins c.args.net.now l)) (whole_word c.args.b.now c.loop-i.i end)
