-- What a look says of the clause, and what says what a look is.
use Rattle.std.proofs.Common.{◌≡◌, ℕ, ◌==◌, true, false, not, ◌&&◌, List, [], ◌∷◌, refl, ap, sym, ◌∙◌, subst, arith, inl, inr}
use Rattle.std.proofs.lemmas.Bool.{cases_Bool, or_cases, and_parts, eqb-true, false≢true, eq-eqb}
use Rattle.std.specs.List.{list_all}
use Rattle.cnf_form.specs.declared.look.Look.TheVariants.{Falsified, Unit, Other}
use Rattle.cnf_form.specs.Literal.{negation, is_among, look, look_open, open_literals}

open_none : (fs c : List ℕ) → ((q : ℕ) → is_among c q ≡ true → is_among fs q ≡ true) → open_literals fs c ≡ []
open_none fs [] h = refl
open_none fs (x ∷ c) h =
    let first : is_among fs x ≡ true = h x (grind arith) in
    let rest = open_none fs c (λ q a. h q (grind (arith, a))) in
    grind (arith, first, rest)

pub look_falsified : (fs c : List ℕ) → ((q : ℕ) → is_among c q ≡ true → is_among fs q ≡ true) → look fs c ≡ Falsified
look_falsified fs c h = ap (look_open fs) (open_none fs c h)

open_same : (fs c : List ℕ) (t : ℕ) → ((q : ℕ) → is_among c q ≡ true → (q ≡ t → ⊥) → is_among fs q ≡ true) → list_all (λ q. q == t) (open_literals fs c) ≡ true
open_same fs [] t h = refl
open_same fs (x ∷ c) t h =
    let rest = open_same fs c t (λ q a n. h q (grind (arith, a)) n) in
    elim (cases_Bool (x == t)) [
      | inl e ↦ grind (arith, rest, e)
      | inr e ↦ let first : is_among fs x ≡ true = h x (grind arith) (λ z. false≢true (sym e ∙ eq-eqb x t z)) in grind (arith, first, rest)
    ]

pub open_among : (fs c : List ℕ) (q : ℕ) → is_among (open_literals fs c) q ≡ (is_among c q && not (is_among fs q))
open_among fs [] q = refl
open_among fs (x ∷ c) q = grind (arith, open_among fs c q, eqb-true)

all_same : (l t : ℕ) (ls : List ℕ) → list_all (λ q. q == t) (l ∷ ls) ≡ true → (l ≡ t) × (list_all (λ q. q == l) ls ≡ true)
all_same l t ls h =
    let parts = and_parts (l == t) (list_all (λ q. q == t) ls) h in
    let e = eqb-true l t parts.0 in
    (e, subst (λ x. list_all (λ q. q == x) ls ≡ true) (sym e) parts.1)

look_open-unit : (fs os : List ℕ) (t : ℕ) → list_all (λ q. q == t) os ≡ true → is_among os t ≡ true → is_among fs (negation t) ≡ false → look_open fs os ≡ Unit t
look_open-unit fs [] t s a f = absurd (false≢true a)
look_open-unit fs (l ∷ ls) t s a f = let p = all_same l t ls s in grind (arith, p.0, p.1, f)

pub look_unit : (fs c : List ℕ) (t : ℕ) → is_among c t ≡ true → ((q : ℕ) → is_among c q ≡ true → (q ≡ t → ⊥) → is_among fs q ≡ true) → is_among fs t ≡ false → is_among fs (negation t) ≡ false → look fs c ≡ Unit t
look_unit fs c t a h f g = look_open-unit fs (open_literals fs c) t (open_same fs c t h) (open_among fs c t ∙ grind (arith, a, f)) g

among_same : (ls : List ℕ) (t q : ℕ) → list_all (λ x. x == t) ls ≡ true → is_among ls q ≡ true → q ≡ t
among_same [] t q s a = absurd (false≢true a)
among_same (x ∷ ls) t q s a =
    let p = and_parts (x == t) (list_all (λ y. y == t) ls) s in
    elim (or_cases (x == q) (is_among ls q) a) [
      | inl e ↦ sym (eqb-true x q e) ∙ eqb-true x t p.0
      | inr e ↦ among_same ls t q p.1 e
    ]

-- literals that aren't false are two
pub look_other : (fs c : List ℕ) (a b : ℕ) → is_among c a ≡ true → is_among c b ≡ true → (a ≡ b → ⊥) → is_among fs a ≡ false → is_among fs b ≡ false → look fs c ≡ Other
look_other fs c a b ina inb ne fa fb = two (open_literals fs c) (open_among fs c a ∙ grind (arith, ina, fa)) (open_among fs c b ∙ grind (arith, inb, fb))
  where
    two : (os : List ℕ) → is_among os a ≡ true → is_among os b ≡ true → look_open fs os ≡ Other
    two [] h k = absurd (false≢true h)
    two (l ∷ ls) h k = elim (cases_Bool (list_all (λ q. q == l) ls)) [
      | inl s ↦
          let all : list_all (λ q. q == l) (l ∷ ls) ≡ true = grind (arith, s, eq-eqb l l refl) in
          absurd (ne (among_same (l ∷ ls) l a all h ∙ sym (among_same (l ∷ ls) l b all k)))
      | inr s ↦ grind (arith, s)
    ]

pub falsified_all : (fs c : List ℕ) → look fs c ≡ Falsified → (q : ℕ) → is_among c q ≡ true → is_among fs q ≡ true
falsified_all fs c e q a = none (open_literals fs c) e (open_among fs c q)
  where
    none : (os : List ℕ) → look_open fs os ≡ Falsified → is_among os q ≡ (is_among c q && not (is_among fs q)) → is_among fs q ≡ true
    none [] z h = grind (arith, a, h)
    none (l ∷ ls) z h = absurd (elim (cases_Bool (list_all (λ x. x == l) ls && not (is_among fs (negation l)))) [
      | inl y ↦ let k : Unit l ≡ Falsified = grind (arith, y, z) in cc
      | inr y ↦ let k : Other ≡ Falsified = grind (arith, y, z) in cc
    ])

pub record IsUnit (fs c : List ℕ) (l : ℕ) : Type 0 where
  pub inside : is_among c l ≡ true
  pub rest : (q : ℕ) → is_among c q ≡ true → (q ≡ l → ⊥) → is_among fs q ≡ true
  pub not_false : is_among fs l ≡ false
  pub not_true : is_among fs (negation l) ≡ false

unit_open : (fs os : List ℕ) (l : ℕ) → look_open fs os ≡ Unit l → (is_among os l ≡ true) × (list_all (λ x. x == l) os ≡ true) × (is_among fs (negation l) ≡ false)
unit_open fs [] l z = absurd (cc)
unit_open fs (x ∷ ls) l z = elim (cases_Bool (list_all (λ y. y == x) ls && not (is_among fs (negation x)))) [
  | inl y ↦
      let k : Unit x ≡ Unit l = grind (arith, y, z) in
      let e : x ≡ l = cc in
      let p = and_parts (list_all (λ y. y == x) ls) (not (is_among fs (negation x))) y in
      let all : list_all (λ y. y == x) (x ∷ ls) ≡ true = grind (arith, p.0, eq-eqb x x refl) in
      let here : is_among (x ∷ ls) x ≡ true = grind (arith, eq-eqb x x refl) in
      (subst (λ t. is_among (x ∷ ls) t ≡ true) e here, subst (λ t. list_all (λ y. y == t) (x ∷ ls) ≡ true) e all, subst (λ t. is_among fs (negation t) ≡ false) e (grind (arith, p.1)))
  | inr y ↦ let k : Other ≡ Unit l = grind (arith, y, z) in absurd (cc)
]

pub unit_parts : (fs c : List ℕ) (l : ℕ) → look fs c ≡ Unit l → IsUnit fs c l
unit_parts fs c l z =
    let p = unit_open fs (open_literals fs c) l z in
    let here = and_parts (is_among c l) (not (is_among fs l)) (sym (open_among fs c l) ∙ p.0) in
    record {
      inside = here.0;
      rest = λ q a n. elim (cases_Bool (is_among fs q)) [
        | inl t ↦ t
        | inr f ↦ absurd (n (among_same (open_literals fs c) l q p.1 (open_among fs c q ∙ grind (arith, a, f))))
      ];
      not_false = grind (arith, here.1);
      not_true = p.2;
    }

-- some literal isn't false
pub other_some : (fs c : List ℕ) → look fs c ≡ Other → (q : ℕ) × (is_among c q ≡ true) × (is_among fs q ≡ false)
other_some fs c z = some (open_literals fs c) z (open_among fs c)
  where
    some : (os : List ℕ) → look_open fs os ≡ Other → ((q : ℕ) → is_among os q ≡ (is_among c q && not (is_among fs q))) → (q : ℕ) × (is_among c q ≡ true) × (is_among fs q ≡ false)
    some [] e h = absurd (cc)
    some (l ∷ ls) e h =
        let here : is_among (l ∷ ls) l ≡ true = grind (arith, eq-eqb l l refl) in
        let p = and_parts (is_among c l) (not (is_among fs l)) (sym (h l) ∙ here) in
        (l, p.0, grind (arith, p.1))
