-- A log that refutes leaves no satisfying list.
use Rattle.std.proofs.Common.{◌≡◌, ℕ, zero, suc, ◌==◌, Bool, true, false, not, List, [], ◌∷◌, ◌++◌, Option, None, Some, slice_get, refl, sym, ◌∙◌, arith, inl, inr}
use Rattle.std.proofs.lemmas.Bool.{and_parts, or_parts, or_cases, cases_Bool, eqb-true, false≢true, or_from}
use Rattle.std.proofs.lemmas.List.Folds.{list_any-append}
use Rattle.std.specs.List.{list_any, list_all}
use Rattle.std.specs.Option.{option_map}
use Rattle.cnf_form.specs.Literal.{negation, is_among, is_tautology, literal_value, clause_value, Satisfies, Satisfiable, look, look_open, open_literals}
use Rattle.cnf_form.specs.Lines.{follows, accepts, refutes, hints_refute, hint_says, is_empty_list, is_empty_line}
use Rattle.cnf_form.specs.declared.log.Line.{Line}
use Rattle.cnf_form.specs.declared.look.Look.{Look}
use Rattle.cnf_form.specs.declared.look.Look.TheVariants.{Falsified, Unit, Other}

-- the negation has the other value
pub literal_value-negation : (v : List Bool) (l : ℕ) → literal_value v (negation l) ≡ not (literal_value v l)
literal_value-negation v l = grind arith

-- a literal among false ones is false
among-false : (v : List Bool) (fs : List ℕ) (x : ℕ) → is_among fs x ≡ true → clause_value v fs ≡ false → literal_value v x ≡ false
among-false v [] x h f = absurd (false≢true h)
among-false v (y ∷ fs) x h f = grind (arith, among-false v fs x, or_parts, or_cases, eqb-true)

-- the literals that aren't false decide
open-value : (v : List Bool) (fs c : List ℕ) → clause_value v fs ≡ false → clause_value v c ≡ clause_value v (open_literals fs c)
open-value v fs [] f = refl
open-value v fs (x ∷ c) f = grind (arith, open-value v fs c f, among-false v fs x)

same-value : (v : List Bool) (l : ℕ) (ls : List ℕ) → list_all (λ q. q == l) ls ≡ true → clause_value v (l ∷ ls) ≡ true → literal_value v l ≡ true
same-value v l [] h t = grind arith
same-value v l (x ∷ ls) h t = grind (arith, same-value v l ls, and_parts, or_cases, eqb-true)

-- what a look says of a clause that is true
look_open-falsified : (v : List Bool) (fs c : List ℕ) → look_open fs c ≡ Falsified → clause_value v c ≡ false
look_open-falsified v fs [] h = refl
look_open-falsified v fs (l ∷ ls) h = grind arith

look_open-unit : (v : List Bool) (fs c : List ℕ) (l : ℕ) → look_open fs c ≡ Unit l → clause_value v c ≡ true → literal_value v l ≡ true
look_open-unit v fs [] l h t = absurd (cc)
look_open-unit v fs (x ∷ ls) l h t = grind (arith, same-value v x ls, and_parts)

satisfies_get : (v : List Bool) (cs : List (List ℕ)) (h : ℕ) (c : List ℕ) → Satisfies v cs → slice_get cs h ≡ Some c → clause_value v c ≡ true
satisfies_get v [] h c s e = absurd (cc)
satisfies_get v (d ∷ cs) zero c s e = grind arith
satisfies_get v (d ∷ cs) (suc h) c s e = satisfies_get v cs h c s.1 e

module _ (v : List Bool) (fs : List ℕ) (f : clause_value v fs ≡ false) (last : Bool) (k : ℕ → Bool) (next : (l : ℕ) → literal_value v l ≡ true → k l ≡ true → ⊥) where
  hint_case : (c : List ℕ) → clause_value v c ≡ true → (w : Look) → look fs c ≡ w → hint_says (Some w) last k ≡ true → ⊥
  hint_case c t Falsified e r = false≢true (sym (open-value v fs c f ∙ look_open-falsified v fs (open_literals fs c) e) ∙ t)
  hint_case c t (Unit l) e r = next l (look_open-unit v fs (open_literals fs c) l e (sym (open-value v fs c f) ∙ t)) r
  hint_case c t Other e r = false≢true r

  hint_option : (cs : List (List ℕ)) (h : ℕ) → Satisfies v cs → (o : Option (List ℕ)) → slice_get cs h ≡ o → hint_says (option_map (look fs) o) last k ≡ true → ⊥
  hint_option cs h s None e r = false≢true r
  hint_option cs h s (Some c) e r = hint_case c (satisfies_get v cs h c s e) (look fs c) refl r

one_more : (v : List Bool) (fs : List ℕ) (l : ℕ) → clause_value v fs ≡ false → literal_value v l ≡ true → clause_value v (fs ++ negation l ∷ []) ≡ false
one_more v fs l f t = rw (list_any-append, f, literal_value-negation, t) refl

pub hints_sound : (v : List Bool) (cs : List (List ℕ)) → Satisfies v cs → (hs fs : List ℕ) → clause_value v fs ≡ false → hints_refute cs fs hs ≡ true → ⊥
hints_sound v cs s [] fs f r = false≢true r
hints_sound v cs s (h ∷ hs) fs f r =
    hint_option v fs f (is_empty_list hs) (λ l. hints_refute cs (fs ++ negation l ∷ []) hs)
    (λ l t kl. hints_sound v cs s hs (fs ++ negation l ∷ []) (one_more v fs l f t) kl)
    cs h s (slice_get cs h) refl r

-- a line that follows is true
pub line_sound : (v : List Bool) (cs : List (List ℕ)) (line : Line) → Satisfies v cs → follows cs line ≡ true → clause_value v line.clause ≡ true
line_sound v cs line s r =
    elim (cases_Bool (clause_value v line.clause)) [
      | inl t ↦ t
      | inr f ↦ absurd (hints_sound v cs s line.hints line.clause f (and_parts (not (is_tautology line.clause)) (hints_refute cs line.clause line.hints) r).1)
    ]

satisfies_push : (v : List Bool) (cs : List (List ℕ)) (c : List ℕ) → Satisfies v cs → clause_value v c ≡ true → Satisfies v (cs ++ c ∷ [])
satisfies_push v [] c s t = (t, tt)
satisfies_push v (d ∷ cs) c s t = (s.0, satisfies_push v cs c s.1 t)

-- an accepted log has no empty line
pub none_empty : (v : List Bool) (cs : List (List ℕ)) (lines : List Line) → Satisfies v cs → accepts cs lines ≡ true → list_any is_empty_line lines ≡ false
none_empty v cs [] s a = refl
none_empty v cs (line ∷ lines) s a =
    let parts = and_parts (follows cs line) (accepts (cs ++ line.clause ∷ []) lines) a in
    let holds : clause_value v line.clause ≡ true = line_sound v cs line s parts.0 in
    or_from _ _ (true_not_empty v line.clause holds) (none_empty v (cs ++ line.clause ∷ []) lines (satisfies_push v cs line.clause s holds) parts.1)
  where
    true_not_empty : (v : List Bool) (c : List ℕ) → clause_value v c ≡ true → is_empty_list c ≡ false
    true_not_empty v [] h = absurd (false≢true h)
    true_not_empty v (x ∷ c) h = refl

pub refutes_sound : (n : ℕ) (cs : List (List ℕ)) (lines : List Line) → refutes cs lines ≡ true → Satisfiable n cs → ⊥
refutes_sound n cs lines r s =
    let parts = and_parts (accepts cs lines) (list_any is_empty_line lines) r in
    false≢true (sym (none_empty s.0 cs lines s.2 parts.0) ∙ parts.1)
