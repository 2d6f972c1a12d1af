-- Reading any number of phrases in a loop that keeps what the phrases so far make.
-- `add` makes the answer of what is kept and of the values still to be read; `step` takes one value into what is kept.
use Rattle.std.proofs.Common.{◌≡◌, ℕ, zero, suc, ◌+◌, ◌-◌, ◌<◌, ◌≤◌, true, false, List, [], ◌∷◌, ◌++◌, Ok, Err, refl, sym, ap, ◌∙◌, append_assoc, arith}
use Rattle.std.proofs.lemmas.List.{append-nil}
use Rattle.bpl_rules.specs.Rules.{Halt, Outcome, ◌>>=◌, Rule, heads, run_many}
use Rattle.bpl_rules.proofs.Laws.{done}

-- what is kept, and what is still read
abbrev pub adding : {K T A B : Type 0} → (B → List A → B) → B → Outcome K T (List A) → Outcome K T B
adding add kept read = read >>= λ x. Ok (add kept x.0, x.1)

-- The answer is the same whether values are taken in one by one or all at the end.
pub record Takes {A B : Type 0} (add : B → List A → B) (step : B → A → B) : Type 0 where
  pub none : (kept : B) → add kept [] ≡ kept
  pub next : (kept : B) (v : A) (vs : List A) → add (step kept v) vs ≡ add kept (v ∷ vs)

module _ {K T A B : Type 0} (add : B → List A → B) (step : B → A → B) (takes : Takes add step) (p : Rule K T A) where
  regroup : (kept : B) (v : A) (read : Outcome K T (List A)) → adding add kept (read >>= λ x. Ok (v ∷ x.0, x.1)) ≡ adding add (step kept v) read
  regroup kept v (Ok x) = ap (λ (b : B). done {E = Halt K T} (b, x.1)) (sym (takes.next kept v x.0))
  regroup kept v (Err f) = refl

  pub goes_on : (kept : B) (end i : ℕ) (ts : List T) (v : A) (after : List T) (total : Outcome K T B) → i < end → heads p.begins ts ≡ true → p.run ts ≡ Ok (v, after)
      → adding add kept (run_many p (end - i) ts) ≡ total → adding add (step kept v) (run_many p (end - (i + 1)) after) ≡ total
  goes_on kept end i ts v after total lt h e so_far =
      let k : end - i ≡ suc (end - (i + 1)) = omega arith in
      let one : adding add kept (run_many p (end - i) ts) ≡ adding add (step kept v) (run_many p (end - (i + 1)) after) = rw (k, h, e) (regroup kept v (run_many p (end - (i + 1)) after)) in
      sym one ∙ so_far

  pub fails : (kept : B) (end i : ℕ) (ts : List T) (s : Halt K T) (total : Outcome K T B) → i < end → heads p.begins ts ≡ true → p.run ts ≡ Err s
      → adding add kept (run_many p (end - i) ts) ≡ total → total ≡ Err s
  fails kept end i ts s total lt h e so_far =
      let k : end - i ≡ suc (end - (i + 1)) = omega arith in
      let one : adding add kept (run_many p (end - i) ts) ≡ Err s = rw (k, h, e) refl in
      sym so_far ∙ one

  stops_at : (n : ℕ) (ts : List T) → heads p.begins ts ≡ false → run_many p n ts ≡ Ok ([], ts)
  stops_at zero ts h = refl
  stops_at (suc n) ts h = rw h refl

  pub stops : (kept : B) (n : ℕ) (ts : List T) (total : Outcome K T B) → heads p.begins ts ≡ false
      → adding add kept (run_many p n ts) ≡ total → total ≡ Ok (kept, ts)
  stops kept n ts total h so_far =
      let one : adding add kept (run_many p n ts) ≡ Ok (kept, ts) = rw (stops_at n ts h) (ap (λ (b : B). done {E = Halt K T} (b, ts)) (takes.none kept)) in
      sym so_far ∙ one

  pub is_done : (kept : B) (end i : ℕ) (ts : List T) (total : Outcome K T B) → end ≤ i
      → adding add kept (run_many p (end - i) ts) ≡ total → total ≡ Ok (kept, ts)
  is_done kept end i ts total le so_far =
      let k : end - i ≡ 0 = omega arith in
      let one : adding add kept (run_many p (end - i) ts) ≡ Ok (kept, ts) = rw k (ap (λ (b : B). done {E = Halt K T} (b, ts)) (takes.none kept)) in
      sym so_far ∙ one

-- ---- a loop that lists the values

abbrev pub append : {A : Type 0} → List A → List A → List A
append front vs = front ++ vs

abbrev pub push : {A : Type 0} → List A → A → List A
push front v = front ++ v ∷ []

pub lists : {A : Type 0} → Takes (append {A = A}) push
lists = record { none = append-nil; next = λ kept v vs. append_assoc kept (v ∷ []) vs }
