-- Literals under which no clause is unit or false hold what propagation gives.
use Rattle.std.proofs.Common.{◌≡◌, ℕ, ◌==◌, true, false, List, [], ◌∷◌, Some, ap, sym, ◌∙◌, subst, arith, inl, inr, slice_get}
use Rattle.std.proofs.lemmas.Bool.{cases_Bool, eqb-true, eq-eqb, false≢true}
use Rattle.cnf_form.specs.declared.look.Look.TheVariants.{Falsified, Unit, Other}
use Rattle.cnf_form.specs.Literal.{negation, is_among, is_tautology}
use Rattle.cnf_form.specs.Store.{falses_of, NoneSeen}
use Rattle.cnf_form.specs.New.{Closure, IsQuiet, IsNew, others}
use Rattle.cnf_form.specs.New.Closure.{given, forced}
use Rattle.cnf_form.proofs.Trails.{is_among-map, negation-negation}
use Rattle.cnf_form.proofs.Looks.{look_unit, look_falsified}

-- a set that holds these literals and is closed holds the closure
Closure-within : (cs : List (List ℕ)) (ls ts : List ℕ) → ((l : ℕ) → is_among ls l ≡ true → is_among ts l ≡ true) → ((l id : ℕ) (c : List ℕ) → slice_get cs id ≡ Some c → is_among c l ≡ true → ((q : ℕ) → is_among c q ≡ true → (q ≡ l → ⊥) → is_among ts (negation q) ≡ true) → is_among ts l ≡ true) → {l : ℕ} → Closure cs ls l → is_among ts l ≡ true
Closure-within cs ls ts g f {l} (given h) = g l h
Closure-within cs ls ts g f {l} (forced id c e a rest) = f l id c e a (λ q b n. Closure-within cs ls ts g f (rest q b n))

module _ (cs : List (List ℕ)) (ts : List ℕ) (none : NoneSeen cs ts) where
  falses-true : (q : ℕ) → is_among ts (negation q) ≡ true → is_among (falses_of ts) q ≡ true
  falses-true q h = is_among-map ts q ∙ h

  not_false : (id : ℕ) (c : List ℕ) → slice_get cs id ≡ Some c → ((q : ℕ) → is_among c q ≡ true → is_among ts (negation q) ≡ true) → ⊥
  not_false id c e h = let z : Falsified ≡ Other = sym (look_falsified (falses_of ts) c (λ q a. falses-true q (h q a))) ∙ none id c e in cc

  closed : (l id : ℕ) (c : List ℕ) → slice_get cs id ≡ Some c → is_among c l ≡ true → ((q : ℕ) → is_among c q ≡ true → (q ≡ l → ⊥) → is_among ts (negation q) ≡ true) → is_among ts l ≡ true
  closed l id c e a h =
      elim (cases_Bool (is_among ts l)) [
        | inl t ↦ t
        | inr f ↦ elim (cases_Bool (is_among ts (negation l))) [
          | inl n ↦ absurd (not_false id c e (λ q b. elim (cases_Bool (q == l)) [
            | inl s ↦ subst (λ x. is_among ts (negation x) ≡ true) (sym (eqb-true q l s)) n
            | inr s ↦ h q b (λ z. false≢true (sym s ∙ eq-eqb q l z))
          ]))
          | inr n ↦
              let free : is_among (falses_of ts) l ≡ false = is_among-map ts l ∙ n in
              let free' : is_among (falses_of ts) (negation l) ≡ false = is_among-map ts (negation l) ∙ ap (is_among ts) (negation-negation l) ∙ f in
              let z : Unit l ≡ Other = sym (look_unit (falses_of ts) c l a (λ q b k. falses-true q (h q b k)) free free') ∙ none id c e in cc
        ]
      ]

  pub closure_within : (ls : List ℕ) → ((l : ℕ) → is_among ls l ≡ true → is_among ts l ≡ true) → {l : ℕ} → Closure cs ls l → is_among ts l ≡ true
  closure_within ls g k = Closure-within cs ls ts g closed k

  pub quiet_within : (ls : List ℕ) → ((l : ℕ) → is_among ls l ≡ true → is_among ts l ≡ true) → IsQuiet cs ls
  quiet_within ls g id c e h = not_false id c e (λ q a. closure_within ls g (h q a))

others-within : (c ts : List ℕ) (l : ℕ) → ((q : ℕ) → is_among c q ≡ true → (q ≡ l → ⊥) → is_among ts (negation q) ≡ true) → (m : ℕ) → is_among (others c l) m ≡ true → is_among ts m ≡ true
others-within [] ts l h m a = absurd (false≢true a)
others-within (x ∷ c) ts l h m a =
    let rest = others-within c ts l (λ q b n. h q (grind (arith, b)) n) m in
    elim (cases_Bool (x == l)) [
      | inl e ↦ grind (arith, rest, e, a)
      | inr e ↦ let first : is_among ts (negation x) ≡ true = h x (grind arith) (λ z. false≢true (sym e ∙ eq-eqb x l z)) in grind (arith, rest, e, a, first, eqb-true)
    ]

-- a line whose other literals are false among quiet literals, and whose last one is not there
pub learnt_new : (cs : List (List ℕ)) (ts c : List ℕ) (l : ℕ) → NoneSeen cs ts → is_tautology c ≡ false → is_among c l ≡ true → ((q : ℕ) → is_among c q ≡ true → (q ≡ l → ⊥) → is_among ts (negation q) ≡ true) → is_among ts l ≡ false → IsNew cs c
learnt_new cs ts c l none p a h f = record {
  plain = p;
  literal = l;
  holds = a;
  quiet = quiet_within cs ts none (others c l) (others-within c ts l h);
  absent = λ k. false≢true (sym f ∙ closure_within cs ts none (others c l) (others-within c ts l h) k);
}
