-- What a clause says, by its watches.
use Rattle.std.proofs.Common.{◌≡◌, ℕ, true, false, List, refl, ap, sym, ◌∙◌, inl, inr}
use Rattle.std.proofs.lemmas.Bool.{cases_eq, false≢true}
use Rattle.cnf_form.specs.Literal.{negation, is_among, look}
use Rattle.cnf_form.specs.Store.{falses_of, LooksAt}
use Rattle.cnf_form.specs.declared.look.Look.{Look}
use Rattle.cnf_form.specs.declared.look.Look.TheVariants.{Falsified, Unit, Other}
use Rattle.cnf_form.proofs.Looks.{look_falsified, look_unit, look_other, falsified_all, unit_parts}
use Rattle.cnf_form.proofs.Trails.{is_among-map, negation-negation}
use Rattle.sat_watch.specs.Watching.{is_false, AreFalse, AreFalseBut, IsTrail}

pub all_false : (t c : List ℕ) → AreFalse t c → look (falses_of t) c ≡ Falsified
all_false t c h = look_falsified (falses_of t) c (λ q a. is_among-map t q ∙ h q a)

pub one_free : (t c : List ℕ) (l : ℕ) → is_among c l ≡ true → AreFalseBut t c l → is_false t l ≡ false → is_among t l ≡ false → look (falses_of t) c ≡ Unit l
one_free t c l a h f n = look_unit (falses_of t) c l a (λ q b z. is_among-map t q ∙ h q b z) (is_among-map t l ∙ f) (is_among-map t (negation l) ∙ ap (is_among t) (negation-negation l) ∙ n)

pub two_open : (t c : List ℕ) (a b : ℕ) → is_among c a ≡ true → is_among c b ≡ true → (a ≡ b → ⊥) → is_false t a ≡ false → is_false t b ≡ false → look (falses_of t) c ≡ Other
two_open t c a b ina inb n fa fb = look_other (falses_of t) c a b ina inb n (is_among-map t a ∙ fa) (is_among-map t b ∙ fb)

-- a literal is true
pub one_true : (t c : List ℕ) (l : ℕ) → IsTrail t → is_among c l ≡ true → is_among t l ≡ true → look (falses_of t) c ≡ Other
one_true t c l p a h = kind (look (falses_of t) c) refl
  where
    open_here : is_among (falses_of t) l ≡ false
    open_here = is_among-map t l ∙ p.consistent l h

    false_there : is_among (falses_of t) (negation l) ≡ true
    false_there = is_among-map t (negation l) ∙ ap (is_among t) (negation-negation l) ∙ h

    kind : (v : Look) → look (falses_of t) c ≡ v → look (falses_of t) c ≡ Other
    kind Falsified z = absurd (false≢true (sym open_here ∙ falsified_all (falses_of t) c z l a))
    kind (Unit x) z =
        let u = unit_parts (falses_of t) c x z in
        elim (cases_eq l x) [
          | inl e ↦ absurd (false≢true (sym u.not_true ∙ ap (λ m. is_among (falses_of t) (negation m)) (sym e) ∙ false_there))
          | inr e ↦ absurd (false≢true (sym open_here ∙ u.rest l a e))
        ]
    kind Other z = z

-- the literal of a unit clause is free
pub unit_not_true : (cs : List (List ℕ)) (t : List ℕ) (l id : ℕ) → LooksAt cs t id (Unit l) → is_among t l ≡ false
unit_not_true cs t l id seen = ap (is_among t) (sym (negation-negation l)) ∙ sym (is_among-map t (negation l)) ∙ (unit_parts (falses_of t) seen.0 l seen.2).not_true

pub unit_not_false : (cs : List (List ℕ)) (t : List ℕ) (l id : ℕ) → LooksAt cs t id (Unit l) → is_among t (negation l) ≡ false
unit_not_false cs t l id seen = sym (is_among-map t l) ∙ (unit_parts (falses_of t) seen.0 l seen.2).not_false
