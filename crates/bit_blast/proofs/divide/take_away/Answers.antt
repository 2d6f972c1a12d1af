use Rattle.std.proofs.Common.{◌≡◌, ◌+◌, ◌*◌, ◌≤◌, ◌∙◌, ℕ, List, ◌∷◌, ap, refl, sym, subst, length, take, arith}
use Rattle.std.specs.Prelude.{nat_le}
use Rattle.std.proofs.lemmas.List.{length-take-le}
use Rattle.bit_blast.specs.Words.{AreWires, IsWord, word}
use Rattle.bit_blast.proofs.Growing.{grows_then, as_before, wires_stay}
use Rattle.bit_blast.proofs.Moving.{wires_take}
use Rattle.bit_blast.proofs.Dividing.{take_law, front_wires}
use Rattle.bit_blast.proofs.divide.take_away.Goals as goal

pub subtract-requires-clause-same : goal.subtract-requires-clause-same
subtract-requires-clause-same c =
    let front : c.as_slice.result.now ≡ c.args.next ∷ c.args.rest.now = c.as_slice.ensures.value ∙ c.in_ok-front.ensures in
    omega (arith, ap length front, c.requires.same)

pub subtract-requires-clause-a : goal.subtract-requires-clause-a
subtract-requires-clause-a c =
    let front : c.as_slice.result.now ≡ c.args.next ∷ c.args.rest.now = c.as_slice.ensures.value ∙ c.in_ok-front.ensures in
    subst (AreWires c.args.net.now) (sym front) (front_wires c.args.net.now c.args.next c.args.rest.now c.requires.next c.requires.rest)

pub choose-requires-clause-same : goal.choose-requires-clause-same
choose-requires-clause-same c =
    let front : c.as_slice.result.now ≡ c.args.next ∷ c.args.rest.now = c.as_slice.ensures.value ∙ c.in_ok-front.ensures in
    let long : length c.args.rest.now ≤ length c.as_slice-2.result.now = omega (arith, ap length c.as_slice-2.ensures.value, c.in_ok-whole.ensures.word.width, ap length front) in
    let wide : length c.args.rest.now ≤ length c.as_slice-3.result.now = omega (arith, ap length c.as_slice-3.ensures.value, ap length c.in_ok-front.ensures) in
    length-take-le (length c.args.rest.now) c.as_slice-3.result.now wide ∙ sym (length-take-le (length c.args.rest.now) c.as_slice-2.result.now long)

pub choose-requires-clause-a : goal.choose-requires-clause-a
choose-requires-clause-a c =
    wires_take c.subtract.new.net (length c.args.rest.now) c.as_slice-2.result.now (subst (AreWires c.subtract.new.net) (sym c.as_slice-2.ensures.value) c.in_ok-whole.ensures.word.there)

pub choose-requires-clause-b : goal.choose-requires-clause-b
choose-requires-clause-b c =
    let front : c.as_slice-3.result.now ≡ c.args.next ∷ c.args.rest.now = c.as_slice-3.ensures.value ∙ c.in_ok-front.ensures in
    wires_take c.subtract.new.net (length c.args.rest.now) c.as_slice-3.result.now
    (subst (AreWires c.subtract.new.net) (sym front) (wires_stay (c.args.next ∷ c.args.rest.now) c.subtract.ensures.grows (front_wires c.args.net.now c.args.next c.args.rest.now c.requires.next c.requires.rest)))

pub returns-clause-rest : goal.returns-clause-rest
returns-clause-rest c =
    let w = length c.args.rest.now in
    let front : c.as_slice.result.now ≡ c.args.next ∷ c.args.rest.now = c.as_slice.ensures.value ∙ c.in_ok-front.ensures in
    let size : length c.in_ok-whole.whole.sum.items ≡ length c.args.rest.now + 1 = omega (arith, c.in_ok-whole.ensures.word.width, ap length front) in
    take_law c.args.net.now c.subtract.new.net c.choose.new.net c.args.rest.now c.args.wide.now c.as_slice.result.now c.in_ok-whole.whole.sum.items
    (take (length c.args.rest.now) c.as_slice-2.result.now) (take (length c.args.rest.now) c.as_slice-3.result.now) c.in_ok-rest.rest.items c.args.next c.in_ok-whole.whole.carry (length c.args.rest.now) _ _
    c.subtract.ensures.grows c.choose.ensures.grows c.requires.rest c.requires.next refl c.requires.same front size
    (ap (take (length c.args.rest.now)) c.as_slice-2.ensures.value) (ap (take (length c.args.rest.now)) (c.as_slice-3.ensures.value ∙ sym c.as_slice.ensures.value))
    c.in_ok-whole.ensures.value c.in_ok-whole.ensures.at_most c.in_ok-rest.ensures.value

pub returns-clause-goes : goal.returns-clause-goes
returns-clause-goes c = λ ins e.
    let front : c.as_slice.result.now ≡ c.args.next ∷ c.args.rest.now = c.as_slice.ensures.value ∙ c.in_ok-front.ensures in
    let e1 = as_before ins c.choose.ensures.grows e in
    c.choose.ensures.grows.kept ins e1 c.in_ok-whole.whole.carry c.in_ok-whole.ensures.carry
    ∙ c.in_ok-whole.ensures.at_most ins e1
    ∙ ap (λ (l : List ℕ). nat_le (word ins c.args.net.now c.args.wide.now) (word ins c.args.net.now l)) front

pub returns-clause-word : goal.returns-clause-word
returns-clause-word c =
    let front : c.as_slice.result.now ≡ c.args.next ∷ c.args.rest.now = c.as_slice.ensures.value ∙ c.in_ok-front.ensures in
    let long : length c.args.rest.now ≤ length c.as_slice-2.result.now = omega (arith, ap length c.as_slice-2.ensures.value, c.in_ok-whole.ensures.word.width, ap length front) in
    subst (λ (n : ℕ). IsWord c.choose.new.net n c.in_ok-rest.rest.items) (length-take-le (length c.args.rest.now) c.as_slice-2.result.now long) c.in_ok-rest.ensures.word

pub returns-clause-grows : goal.returns-clause-grows
returns-clause-grows c =
    let front : c.as_slice.result.now ≡ c.args.next ∷ c.args.rest.now = c.as_slice.ensures.value ∙ c.in_ok-front.ensures in
    let long : length c.args.rest.now ≤ length c.as_slice-2.result.now = omega (arith, ap length c.as_slice-2.ensures.value, c.in_ok-whole.ensures.word.width, ap length front) in
    grows_then {n = 5 * length c.args.rest.now + 5} c.subtract.ensures.grows c.choose.ensures.grows
    (omega (arith, ap length front, length-take-le (length c.args.rest.now) c.as_slice-2.result.now long))
