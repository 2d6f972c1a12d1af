use Rattle.std.proofs.Common.{◌≡◌, ◌+◌, ◌-◌, ◌*◌, ◌∙◌, ℕ, List, [], ◌∷◌, ap, refl, sym, subst, length, get_or, drop, arith, length-append}
use Rattle.std.specs.Prelude.{reverse}
use Rattle.std.proofs.lemmas.List.Elements.{All-nil}
use Rattle.bit_blast.specs.Words.{AreWires, IsWire, IsWord, word}
use Rattle.bit_blast.proofs.Growing.{grows_then, grows_within, as_before, as_after, wire_stays, wires_stay, wires_repeated, length-repeated, same_word, word_push}
use Rattle.bit_blast.proofs.Moving.{word-zeros}
use Rattle.bit_blast.proofs.Shifting.{mul_next}
use Rattle.bit_blast.proofs.Dividing.{Divides, divide_init, divide_law, divide_end, nothing_yet, word_reversed, rows_and_columns}
use Rattle.bit_blast.proofs.Signing.{zero_law, zero_word}
use Rattle.bit_blast.proofs.divide.divide_words.Goals as goal

pub loop-i-init : goal.loop-i-init
loop-i-init c =
    let w = length c.args.a.now in
    let left : IsWord c.push.new.net (length c.args.a.now) c.in_ok-rest.rest.items = subst (λ (l : List ℕ). IsWord c.push.new.net (length c.args.a.now) l) (sym c.in_ok-rest.ensures)
    (record { width = length-repeated (length c.args.a.now) c.in_ok-off.off; there = wires_repeated c.push.new.net (length c.args.a.now) c.in_ok-off.off c.in_ok-off.ensures.wire }) in
    record {
      grows = grows_within c.push.ensures.grows (omega arith);
      there = (zero_word c.args.net.now c.push.new.net c.args.b.now c.in_ok-wide.wide.items c.in_ok-off.off 1 _ c.push.ensures.grows c.requires.b c.in_ok-off.ensures.wire c.in_ok-wide.ensures).there;
      left = left;
      places = record { width = ap length c.new-digits.ensures.items; there = subst (AreWires c.push.new.net) (sym c.new-digits.ensures.items) (All-nil (IsWire c.push.new.net)) };
      divisor = λ ins e. zero_law c.args.net.now c.push.new.net c.args.b.now c.in_ok-wide.wide.items c.in_ok-off.off 1 _ c.push.ensures.grows c.requires.b c.in_ok-off.ensures.value c.in_ok-wide.ensures ins (as_after ins c.push.ensures.grows e);
      law = λ ins e.
          divide_init (word ins c.args.net.now c.args.b.now) (word ins c.args.net.now (drop (length c.args.a.now - 0) c.args.a.now)) (word ins c.push.new.net (reverse c.new-digits.result.items)) (word ins c.push.new.net c.in_ok-rest.rest.items)
          (nothing_yet ins c.args.net.now c.args.a.now (length c.args.a.now - 0) (omega arith))
          (ap (λ (l : List ℕ). word ins c.push.new.net (reverse l)) c.new-digits.ensures.items)
          (ap (word ins c.push.new.net) c.in_ok-rest.ensures ∙ word-zeros ins c.push.new.net (length c.args.a.now) c.in_ok-off.off (c.in_ok-off.ensures.value ins (as_after ins c.push.ensures.grows e)));
    }

pub take_away-requires-clause-same : goal.take_away-requires-clause-same
take_away-requires-clause-same c =
    omega (arith, ap length c.as_slice-in-loop-i.ensures.value, ap length c.in_ok-wide.ensures, length-append c.args.b.now (c.in_ok-off.off ∷ []), c.requires.same, ap length c.as_slice.ensures.value, c.loop-i.invariant.left.width)

pub take_away-requires-clause-next : goal.take_away-requires-clause-next
take_away-requires-clause-next c =
    wire_stays (get_or c.args.a.now (length c.args.a.now - 1 - c.loop-i.i) 0) c.loop-i.invariant.grows (c.requires.a (length c.args.a.now - 1 - c.loop-i.i) 0 (omega (arith, c.loop-i-test.true)))

pub loop-i-preserved : goal.loop-i-preserved
loop-i-preserved c =
    let w = length c.args.a.now in
    let items = c.in_ok-push.ensures.items in
    let width : length c.as_slice.result.now ≡ length c.args.a.now = ap length c.as_slice.ensures.value ∙ c.loop-i.invariant.left.width in
    record {
      grows = grows_then c.loop-i.invariant.grows c.take_away.ensures.grows (omega (arith, mul_next (5 * length c.args.a.now + 5) c.loop-i.i, width));
      there = wires_stay c.in_ok-wide.wide.items c.take_away.ensures.grows c.loop-i.invariant.there;
      left = subst (λ (n : ℕ). IsWord c.take_away.new.net n c.in_ok-step.step.rest.items) width c.in_ok-step.ensures.word;
      places = subst (λ (l : List ℕ). IsWord c.take_away.new.net (c.loop-i.i + 1) l) (sym c.in_ok-push.ensures.items)
          (word_push c.loop-i.digits.items c.in_ok-step.step.digit c.take_away.ensures.grows c.loop-i.invariant.places c.in_ok-step.ensures.digit);
      divisor = λ ins e. same_word ins c.in_ok-wide.wide.items c.take_away.ensures.grows (as_after ins c.loop-i.invariant.grows e) c.loop-i.invariant.there ∙ c.loop-i.invariant.divisor ins e;
      law = λ ins e.
          subst (λ (l : List ℕ). Divides (word ins c.args.net.now c.args.b.now) (c.loop-i.i + 1) (word ins c.args.net.now (drop (length c.args.a.now - (c.loop-i.i + 1)) c.args.a.now)) (word ins c.take_away.new.net (reverse l)) (word ins c.take_away.new.net c.in_ok-step.step.rest.items))
          (sym c.in_ok-push.ensures.items)
          (divide_law c.args.net.now c.loop-i.net c.take_away.new.net c.loop-i.i _ _ (length c.args.a.now) (length c.args.a.now - 1 - c.loop-i.i) c.args.a.now c.args.b.now c.as_slice-in-loop-i.result.now c.as_slice.result.now c.loop-i.digits.items
          c.in_ok-step.step.rest.items c.in_ok-step.step.digit
          c.requires.a refl c.requires.same c.loop-i-test.true refl c.loop-i.invariant.grows c.take_away.ensures.grows c.loop-i.invariant.places.there width
          (λ ins' e'. ap (word ins' c.loop-i.net) c.as_slice-in-loop-i.ensures.value ∙ c.loop-i.invariant.divisor ins' e')
          c.in_ok-step.ensures.rest c.in_ok-step.ensures.goes
          (λ ins' e'. subst (λ (l : List ℕ). Divides (word ins' c.args.net.now c.args.b.now) c.loop-i.i (word ins' c.args.net.now (drop (length c.args.a.now - c.loop-i.i) c.args.a.now)) (word ins' c.loop-i.net (reverse c.loop-i.digits.items)) (word ins' c.loop-i.net l))
          (sym c.as_slice.ensures.value) (c.loop-i.invariant.law ins' e'))
          ins e);
    }

pub returns-clause-grows : goal.returns-clause-grows
returns-clause-grows c =
    let end : c.loop-i.i ≡ length c.args.a.now = omega arith in
    grows_within c.loop-i.invariant.grows (omega (arith, ap (λ (n : ℕ). (5 * length c.args.a.now + 5) * n) end, rows_and_columns (length c.args.a.now)))

pub returns-clause-quotient : goal.returns-clause-quotient
returns-clause-quotient c =
    let end : c.loop-i.i ≡ length c.args.a.now = omega arith in
    subst (λ (l : List ℕ). IsWord c.loop-i.net (length c.args.a.now) l) (sym c.reverse.ensures.items)
    (word_reversed c.loop-i.net (length c.args.a.now) c.loop-i.digits.items (subst (λ (n : ℕ). IsWord c.loop-i.net n c.loop-i.digits.items) end c.loop-i.invariant.places))

pub returns-clause-bvudiv : goal.returns-clause-bvudiv
returns-clause-bvudiv c = λ ins e.
    let end : c.loop-i.i ≡ length c.args.a.now = omega arith in
    let zero : length c.args.a.now - c.loop-i.i ≡ 0 = omega arith in
    ap (word ins c.loop-i.net) c.reverse.ensures.items
    ∙ (divide_end (word ins c.args.net.now c.args.b.now) (word ins c.args.net.now (drop (length c.args.a.now - c.loop-i.i) c.args.a.now)) (word ins c.loop-i.net (reverse c.loop-i.digits.items)) (word ins c.loop-i.net c.loop-i.rest.items) c.loop-i.i (length c.args.a.now) (word ins c.args.net.now c.args.a.now)
    (c.loop-i.invariant.law ins (as_before ins c.loop-i.invariant.grows e)) end (ap (λ (n : ℕ). word ins c.args.net.now (drop n c.args.a.now)) zero)).0

pub returns-clause-bvurem : goal.returns-clause-bvurem
returns-clause-bvurem c = λ ins e.
    let end : c.loop-i.i ≡ length c.args.a.now = omega arith in
    let zero : length c.args.a.now - c.loop-i.i ≡ 0 = omega arith in
    (divide_end (word ins c.args.net.now c.args.b.now) (word ins c.args.net.now (drop (length c.args.a.now - c.loop-i.i) c.args.a.now)) (word ins c.loop-i.net (reverse c.loop-i.digits.items)) (word ins c.loop-i.net c.loop-i.rest.items) c.loop-i.i (length c.args.a.now) (word ins c.args.net.now c.args.a.now)
    (c.loop-i.invariant.law ins (as_before ins c.loop-i.invariant.grows e)) end (ap (λ (n : ℕ). word ins c.args.net.now (drop n c.args.a.now)) zero)).1

pub returns-clause-remainder : goal.returns-clause-remainder
returns-clause-remainder c = c.loop-i.invariant.left
