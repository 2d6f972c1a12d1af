-- Choices of a node for a run, step by step: what comes back at the sites that are not yet passed is set right, and the sites say what they ask for.
use Rattle.std.proofs.Common.{◌≡◌, ℕ, Bool, true, false, ◌||◌, not, List, [], ◌∷◌, ◌++◌, length, refl, sym, ap, ◌∙◌, subst, arith, append_assoc, length-append}
use Rattle.std.specs.Prelude.{nat_eq, if◌then◌else◌}
use Rattle.std.proofs.lemmas.Bool.{and_parts}
use Rattle.std.proofs.lemmas.Bool.Decides.{nat_tests}
use Rattle.flat_prog.specs.Local.{Request, Result, Ended, Broken}
use Rattle.flat_prog.specs.Once.{has_number, numbers_differ}
use Rattle.tree_words.specs.Compose.{Returned, RightAt, Right, Goes, SitesAre}
use Rattle.tree_words.specs.View.{NodeView, call_at}

-- what comes back is as the result says
abbrev pub right_with : Returned → Result → Returned
right_with ret (Ended outs globals) = record { fails = false; outs = outs; globals = globals }
right_with ret (Broken proc number) = record ret { fails = true }

-- the same at these sites
abbrev pub patched : (ℕ → Returned) → List ℕ → List Result → ℕ → Returned
patched ret [] rs j = ret j
patched ret (i ∷ is) [] j = ret j
patched ret (i ∷ is) (r ∷ rs) j = if nat_eq i j then right_with (ret j) r else patched ret is rs j

is_right : (ret : Returned) (r : Result) → RightAt (right_with ret r) r
is_right ret (Ended outs globals) = (refl, refl, refl)
is_right ret (Broken proc number) = refl

-- ---- numbers

or_false : (a b : Bool) → (a || b) ≡ false → (a ≡ false) × (b ≡ false)
or_false true b h = cc
or_false false b h = (refl, h)

not_true : (a : Bool) → not a ≡ true → a ≡ false
not_true true h = cc
not_true false h = refl

or_true : (a b : Bool) → b ≡ true → (a || b) ≡ true
or_true true b h = refl
or_true false b h = h

same_number : (i j : ℕ) → nat_eq i j ≡ true → i ≡ j
same_number i j h = grind (arith, nat_tests)

own_number : (i : ℕ) → nat_eq i i ≡ true
own_number i = grind (arith, nat_tests)

pub has_append : (xs ys : List ℕ) (j : ℕ) → has_number (xs ++ ys) j ≡ (has_number xs j || has_number ys j)
has_append [] ys j = refl
has_append (x ∷ xs) ys j = ap (λ b. nat_eq x j || b) (has_append xs ys j) ∙ assoc (nat_eq x j) (has_number xs j) (has_number ys j)
  where
    assoc : (a b c : Bool) → (a || (b || c)) ≡ ((a || b) || c)
    assoc true b c = refl
    assoc false b c = refl

-- numbers that differ: those of the first part are not among those of the second
pub record Apart (xs ys : List ℕ) : Type 0 where
  pub rest : numbers_differ ys ≡ true
  pub apart : (j : ℕ) → has_number xs j ≡ true → has_number ys j ≡ false

pub differ_apart : (xs ys : List ℕ) → numbers_differ (xs ++ ys) ≡ true → Apart xs ys
differ_apart [] ys h = record { rest = h; apart = λ j k. cc }
differ_apart (x ∷ xs) ys h =
    let two = and_parts (not (has_number (xs ++ ys) x)) (numbers_differ (xs ++ ys)) h in
    let rest = differ_apart xs ys two.1 in
    let off = or_false (has_number xs x) (has_number ys x) (sym (has_append xs ys x) ∙ not_true (has_number (xs ++ ys) x) two.0) in
    record { rest = rest.rest; apart = λ j k. here j (nat_eq x j) refl off.1 rest k }
  where
    here : (j : ℕ) (b : Bool) → nat_eq x j ≡ b → has_number ys x ≡ false → Apart xs ys → (nat_eq x j || has_number xs j) ≡ true → has_number ys j ≡ false
    here j true e off rest k = subst (λ (i : ℕ). has_number ys i ≡ false) (same_number x j e) off
    here j false e off rest k = rest.apart j (ap (λ c. c || has_number xs j) (sym e) ∙ k)

-- ---- what comes back

pub patched_off : (ret : ℕ → Returned) (is : List ℕ) (rs : List Result) (j : ℕ) → has_number is j ≡ false → patched ret is rs j ≡ ret j
patched_off ret [] rs j h = refl
patched_off ret (i ∷ is) [] j h = refl
patched_off ret (i ∷ is) (r ∷ rs) j h =
    let two = or_false (nat_eq i j) (has_number is j) h in
    ap (λ c. if c then right_with (ret j) r else patched ret is rs j) two.0 ∙ patched_off ret is rs j two.1

right_same : (a b : ℕ → Returned) (is : List ℕ) (rs : List Result) → ((j : ℕ) → has_number is j ≡ true → a j ≡ b j) → Right a is rs → Right b is rs
right_same a b [] [] same h = tt
right_same a b [] (r ∷ rs) same h = h
right_same a b (i ∷ is) [] same h = h
right_same a b (i ∷ is) (r ∷ rs) same h = (
  subst (λ (x : Returned). RightAt x r) (same i (ap (λ c. c || has_number is i) (own_number i))) h.0,
  right_same a b is rs (λ j k. same j (or_true (nat_eq i j) (has_number is j) k)) h.1,
)

patched_right : (ret : ℕ → Returned) (is : List ℕ) (rs : List Result) → numbers_differ is ≡ true → length is ≡ length rs → Right (patched ret is rs) is rs
patched_right ret [] [] d n = tt
patched_right ret [] (r ∷ rs) d n = absurd (omega (arith, n))
patched_right ret (i ∷ is) [] d n = absurd (omega (arith, n))
patched_right ret (i ∷ is) (r ∷ rs) d n =
    let two = and_parts (not (has_number is i)) (numbers_differ is) d in
    let out = not_true (has_number is i) two.0 in
    let here : patched ret (i ∷ is) (r ∷ rs) i ≡ right_with (ret i) r = ap (λ c. if c then right_with (ret i) r else patched ret is rs i) (own_number i) in (
      subst (λ (x : Returned). RightAt x r) (sym here) (is_right (ret i) r),
      right_same (patched ret is rs) (patched ret (i ∷ is) (r ∷ rs)) is rs (λ j k. other j (nat_eq i j) refl out k) (patched_right ret is rs two.1 (omega (arith, n))),
    )
  where
    other : (j : ℕ) (b : Bool) → nat_eq i j ≡ b → has_number is i ≡ false → has_number is j ≡ true → patched ret is rs j ≡ (if nat_eq i j then right_with (ret j) r else patched ret is rs j)
    other j true e out k = let s = same_number i j e in absurd (clash (sym (sym (ap (has_number is) s) ∙ out) ∙ k))
      where
        clash : false ≡ true → ⊥
        clash e = cc
    other j false e out k = sym (ap (λ c. if c then right_with (ret j) r else patched ret is rs j) e)

right_both : (ret : ℕ → Returned) (is js : List ℕ) (rs ss : List Result) → Right ret is rs → Right ret js ss → Right ret (is ++ js) (rs ++ ss)
right_both ret [] js [] ss h k = k
right_both ret [] js (r ∷ rs) ss h k = absurd h
right_both ret (i ∷ is) js [] ss h k = absurd h
right_both ret (i ∷ is) js (r ∷ rs) ss h k = (h.0, right_both ret is js rs ss h.1 k)

-- ---- the sites' calls

says_at : (v : NodeView) (done : List ℕ) (i : ℕ) (is : List ℕ) (dcs : List Request) (c : Request) (cs : List Request) (drs : List Result) (r : Result) (rs : List Result) → length done ≡ length dcs → length done ≡ length drs →
    SitesAre v (done ++ i ∷ is) (dcs ++ c ∷ cs) (drs ++ r ∷ rs) → call_at v i ≡ c
says_at v [] i is [] c cs [] r rs m n h = h.0
says_at v [] i is (d ∷ dcs) c cs drs r rs m n h = absurd (omega (arith, m))
says_at v [] i is [] c cs (d ∷ drs) r rs m n h = absurd (omega (arith, n))
says_at v (x ∷ done) i is [] c cs drs r rs m n h = absurd (omega (arith, m))
says_at v (x ∷ done) i is (d ∷ dcs) c cs [] r rs m n h = absurd (omega (arith, n))
says_at v (x ∷ done) i is (d ∷ dcs) c cs (e ∷ drs) r rs m n h = says_at v done i is dcs c cs drs r rs (omega (arith, m)) (omega (arith, n)) h.2

-- what comes back with these results fits
abbrev pub BackFits : (ℕ → Returned → Type 0) → List ℕ → List Result → Type 0
BackFits Fit [] rs = Unit {0}
BackFits Fit (i ∷ is) [] = Unit {0}
BackFits Fit (i ∷ is) (Ended outs globals ∷ rs) = Fit i (record { fails = false; outs = outs; globals = globals }) × BackFits Fit is rs
BackFits Fit (i ∷ is) (Broken proc number ∷ rs) = BackFits Fit is rs

back_behind : (Fit : ℕ → Returned → Type 0) (done is : List ℕ) (drs rs : List Result) → length done ≡ length drs → BackFits Fit (done ++ is) (drs ++ rs) → BackFits Fit is rs
back_behind Fit [] is [] rs n h = h
back_behind Fit [] is (d ∷ drs) rs n h = absurd (omega (arith, n))
back_behind Fit (x ∷ done) is [] rs n h = absurd (omega (arith, n))
back_behind Fit (x ∷ done) is (Ended os gs ∷ drs) rs n h = back_behind Fit done is drs rs (omega (arith, n)) h.1
back_behind Fit (x ∷ done) is (Broken p m ∷ drs) rs n h = back_behind Fit done is drs rs (omega (arith, n)) h

module _ (Fit : ℕ → Returned → Type 0) (failing : (i : ℕ) (ret : Returned) → Fit i ret → Fit i (record ret { fails = true })) where
  with_fits : (i : ℕ) (ret : Returned) (is : List ℕ) (r : Result) (rs : List Result) → Fit i ret → BackFits Fit (i ∷ is) (r ∷ rs) → Fit i (right_with ret r)
  with_fits i ret is (Ended outs globals) rs f h = h.0
  with_fits i ret is (Broken proc number) rs f h = failing i ret f

  rest_fits : (i : ℕ) (is : List ℕ) (r : Result) (rs : List Result) → BackFits Fit (i ∷ is) (r ∷ rs) → BackFits Fit is rs
  rest_fits i is (Ended outs globals) rs h = h.1
  rest_fits i is (Broken proc number) rs h = h

  pub patched_fits : (ret : ℕ → Returned) (is : List ℕ) (rs : List Result) → ((i : ℕ) → Fit i (ret i)) → BackFits Fit is rs → (j : ℕ) → Fit j (patched ret is rs j)
  patched_fits ret [] rs f h j = f j
  patched_fits ret (i ∷ is) [] f h j = f j
  patched_fits ret (i ∷ is) (r ∷ rs) f h j = here (nat_eq i j) refl (patched_fits ret is rs f (rest_fits i is r rs h) j)
    where
      here : (b : Bool) → nat_eq i j ≡ b → Fit j (patched ret is rs j) → Fit j (if b then right_with (ret j) r else patched ret is rs j)
      here true e more =
          let s = same_number i j e in
          subst (λ (x : ℕ). Fit x (right_with (ret x) r)) s (with_fits i (ret i) is r rs (f i) h)
      here false e more = more

-- Where the sites say their calls as soon as all that comes back is right, and what a site asks for does not depend on what comes back there and at later
-- ones, they make these calls step by step.
module _ (view : (ℕ → Returned) → NodeView) (Fit : ℕ → Returned → Type 0) (failing : (i : ℕ) (ret : Returned) → Fit i ret → Fit i (record ret { fails = true }))
    (passed : List ℕ) (calls : List Request) (results : List Result) (differ : numbers_differ passed ≡ true) (back : BackFits Fit passed results)
    (says : (ret : ℕ → Returned) → ((i : ℕ) → Fit i (ret i)) → Right ret passed results → SitesAre (view ret) passed calls results)
    (low : (done : List ℕ) (i : ℕ) (is : List ℕ) → passed ≡ done ++ i ∷ is → (a b : ℕ → Returned) → ((j : ℕ) → has_number (i ∷ is) j ≡ false → a j ≡ b j) → call_at (view a) i ≡ call_at (view b) i) where
  goes_on : (ret : ℕ → Returned) → ((i : ℕ) → Fit i (ret i)) → (done is : List ℕ) (dcs cs : List Request) (drs rs : List Result) → passed ≡ done ++ is → calls ≡ dcs ++ cs → results ≡ drs ++ rs →
      length done ≡ length dcs → length done ≡ length drs → length is ≡ length cs → length is ≡ length rs → Right ret done drs → Goes ret (view ret) is cs rs
  goes_on ret f done [] dcs [] drs [] e1 e2 e3 n1 n2 n3 n4 right = tt
  goes_on ret f done [] dcs [] drs (r ∷ rs) e1 e2 e3 n1 n2 n3 n4 right = absurd (omega (arith, n4))
  goes_on ret f done [] dcs (c ∷ cs) drs rs e1 e2 e3 n1 n2 n3 n4 right = absurd (omega (arith, n3))
  goes_on ret f done (i ∷ is) dcs [] drs rs e1 e2 e3 n1 n2 n3 n4 right = absurd (omega (arith, n3))
  goes_on ret f done (i ∷ is) dcs (c ∷ cs) drs [] e1 e2 e3 n1 n2 n3 n4 right = absurd (omega (arith, n4))
  goes_on ret f done (i ∷ is) dcs (c ∷ cs) drs (r ∷ rs) e1 e2 e3 n1 n2 n3 n4 right =
      let all = differ_apart done (i ∷ is) (sym (ap numbers_differ e1) ∙ differ) in
      let other = patched ret (i ∷ is) (r ∷ rs) in
      let behind = back_behind Fit done (i ∷ is) drs (r ∷ rs) n2 (subst (λ (x : List ℕ). BackFits Fit x (drs ++ r ∷ rs)) e1 (subst (λ (x : List Result). BackFits Fit passed x) e3 back)) in
      let fit = patched_fits Fit failing ret (i ∷ is) (r ∷ rs) f behind in
      let front = right_same ret other done drs (λ j h. sym (patched_off ret (i ∷ is) (r ∷ rs) j (all.apart j h))) right in
      let whole = right_both other done (i ∷ is) drs (r ∷ rs) front (patched_right ret (i ∷ is) (r ∷ rs) all.rest n4) in
      let good : Right other passed results = subst (λ (x : List ℕ). Right other x results) (sym e1) (subst (λ (x : List Result). Right other (done ++ i ∷ is) x) (sym e3) whole) in
      let said = says other fit good in
      let said1 = subst (λ (x : List ℕ). SitesAre (view other) x calls results) e1 said in
      let said2 = subst (λ (x : List Request). SitesAre (view other) (done ++ i ∷ is) x results) e2 said1 in
      let said3 = subst (λ (x : List Result). SitesAre (view other) (done ++ i ∷ is) (dcs ++ c ∷ cs) x) e3 said2 in (
        low done i is e1 ret other (λ j h. sym (patched_off ret (i ∷ is) (r ∷ rs) j h)) ∙ says_at (view other) done i is dcs c cs drs r rs n1 n2 said3,
        λ here.
            goes_on ret f (done ++ i ∷ []) is (dcs ++ c ∷ []) cs (drs ++ r ∷ []) rs (e1 ∙ sym (append_assoc done (i ∷ []) is)) (e2 ∙ sym (append_assoc dcs (c ∷ []) cs)) (e3 ∙ sym (append_assoc drs (r ∷ []) rs))
            (let a = length-append done (i ∷ []) in let b = length-append dcs (c ∷ []) in omega (arith, n1, a, b)) (let a = length-append done (i ∷ []) in let b = length-append drs (r ∷ []) in omega (arith, n2, a, b))
            (omega (arith, n3)) (omega (arith, n4)) (right_both ret done (i ∷ []) drs (r ∷ []) right (here, tt)),
      )

  pub goes_through : length passed ≡ length calls → length passed ≡ length results → (ret : ℕ → Returned) → ((i : ℕ) → Fit i (ret i)) → Goes ret (view ret) passed calls results
  goes_through m n ret f = goes_on ret f [] passed [] calls [] results refl refl refl refl refl m n tt
