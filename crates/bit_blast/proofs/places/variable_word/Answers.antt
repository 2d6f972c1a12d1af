-- The place of the number is that of the variable, and its bits begin where the list says.
use Rattle.std.proofs.Common.{◌≡◌, ◌∙◌, ℕ, List, length, take, drop, get_or, ap, subst, arith}
use Rattle.hy_term.specs.Variables.{count_below}
use Rattle.bit_blast.specs.Words.{IsWord}
use Rattle.bit_blast.specs.Blasted.{input_count, sort_width}
use Rattle.bit_blast.specs.Standing.{starts_from}
use Rattle.bit_blast.proofs.Placing.{begins}
use Rattle.bit_blast.proofs.places.variable_word.Goals as goal

pub bounds-as_slice-place : goal.bounds-as_slice-place
bounds-as_slice-place c =
    let place : c.place_of-place.result ≡ count_below c.args.number c.args.places.now.variables = c.place_of-place.ensures ∙ ap (count_below c.args.number) c.as_slice.ensures in
    let starts : c.as_slice-2.result.now ≡ starts_from 0 c.args.places.now.variables = c.as_slice-2.ensures ∙ c.requires.starts in
    let b = begins c.args.places.now.variables 0 (count_below c.args.number c.args.places.now.variables) (record { number = c.args.number; sort = c.args.sort }) c.requires.listed in
    omega (arith, place, b.there, ap length starts)

pub inputs-requires : goal.inputs-requires
inputs-requires c =
    let place : c.place_of-place.result ≡ count_below c.args.number c.args.places.now.variables = c.place_of-place.ensures ∙ ap (count_below c.args.number) c.as_slice.ensures in
    let starts : c.as_slice-2.result.now ≡ starts_from 0 c.args.places.now.variables = c.as_slice-2.ensures ∙ c.requires.starts in
    let b = begins c.args.places.now.variables 0 (count_below c.args.number c.args.places.now.variables) (record { number = c.args.number; sort = c.args.sort }) c.requires.listed in
    let first = ap (λ (l : List ℕ). get_or l c.place_of-place.result 0) starts ∙ ap (λ (i : ℕ). get_or (starts_from 0 c.args.places.now.variables) i 0) place ∙ b.at in
    omega (arith, first, b.within, c.sort_width.ensures, c.requires.inputs)

pub returns-clause-word : goal.returns-clause-word
returns-clause-word c = subst (λ (n : ℕ). IsWord c.args.net.now n c.in_ok-word.word.items) c.sort_width.ensures c.in_ok-word.ensures.word

pub returns-clause-bits : goal.returns-clause-bits
returns-clause-bits c = λ ins e.
    let place : c.place_of-place.result ≡ count_below c.args.number c.args.places.now.variables = c.place_of-place.ensures ∙ ap (count_below c.args.number) c.as_slice.ensures in
    let starts : c.as_slice-2.result.now ≡ starts_from 0 c.args.places.now.variables = c.as_slice-2.ensures ∙ c.requires.starts in
    let b = begins c.args.places.now.variables 0 (count_below c.args.number c.args.places.now.variables) (record { number = c.args.number; sort = c.args.sort }) c.requires.listed in
    let first : get_or c.as_slice-2.result.now c.place_of-place.result 0 ≡ input_count (take (count_below c.args.number c.args.places.now.variables) c.args.places.now.variables) =
    ap (λ (l : List ℕ). get_or l c.place_of-place.result 0) starts ∙ ap (λ (i : ℕ). get_or (starts_from 0 c.args.places.now.variables) i 0) place ∙ b.at ∙ omega arith in
    c.in_ok-word.ensures.bits ins e
    ∙ ap (λ (n : ℕ). take n (drop (get_or c.as_slice-2.result.now c.place_of-place.result 0) ins)) c.sort_width.ensures
    ∙ ap (λ (n : ℕ). take (sort_width c.args.sort) (drop n ins)) first
