-- Forms that nest a level deeper, and chains.
use Rattle.std.proofs.Common.{◌≡◌, Bool, true, false, cond, ◌||◌, ◌&&◌, List, Some, None, Err, refl}
use Rattle.bpl_rules.specs.Rules.{Rule, heads, too_deep, refused, one, seq, made, empty, maybe, unless, refuse, Below, bottom, above, sealed, form, nested}
use Rattle.bpl_rules.proofs.Laws.{fails, Lawful, Within}
use Rattle.bpl_rules.proofs.Single.{one_lawful, empty_lawful, refuse_lawful}
use Rattle.bpl_rules.proofs.Choice.{seq_lawful, made_lawful, alt_lawful, unless_lawful, sealed_lawful}
use Rattle.bpl_rules.proofs.Rises.{Rises, HasExample, has_one, has_seq, has_made, has_sealed, one_rises, empty_rises, seq_rises, made_rises, alt_rises, must_rises, sealed_rises, takes_one, refuses_other}

pub or_false : (a : Bool) → (a || false) ≡ true → a ≡ true
or_false true h = refl
or_false false h = absurd cc

pub or_and_false : (a b : Bool) → (a || (b && false)) ≡ true → a ≡ true
or_and_false true b h = refl
or_and_false false true h = absurd cc
or_and_false false false h = absurd cc

-- a fact on the rule of what is nested, if a level is left
abbrev pub AtBelow : {K T A : Type 0} → (Rule K T A → Type 0) → Below K T A → Type 0
AtBelow Q bottom = Unit {0}
AtBelow Q (above r) = Q r

pub at_map : {K T A : Type 0} (Q R : Rule K T A → Type 0) (b : Below K T A) → ((r : Rule K T A) → Q r → R r) → AtBelow Q b → AtBelow R b
at_map Q R bottom f h = tt
at_map Q R (above r) f h = f r h

-- a fact on what is nested, at a depth and at the next
abbrev pub BelowRise : {K T A : Type 0} → (Rule K T A → Type 0) → (Rule K T A → Rule K T A → Type 0) → Below K T A → Below K T A → Type 0
BelowRise Q R bottom bottom = ⊥
BelowRise Q R bottom (above s) = Q s
BelowRise Q R (above r) bottom = ⊥
BelowRise Q R (above r) (above s) = R r s

pub rise_map : {K T A : Type 0} (Q S : Rule K T A → Type 0) (R U : Rule K T A → Rule K T A → Type 0) (M : Rule K T A → Type 0) (b c : Below K T A) → ((s : Rule K T A) → M s → Q s → S s) → ((r s : Rule K T A) → M s → R r s → U r s)
    → AtBelow M c → BelowRise Q R b c → BelowRise S U b c
rise_map Q S R U M bottom bottom f g m h = absurd h
rise_map Q S R U M bottom (above s) f g m h = f s m h
rise_map Q S R U M (above r) bottom f g m h = absurd h
rise_map Q S R U M (above r) (above s) f g m h = g r s m h

cond_err : {E A : Type 0} (b : Bool) (x y : E) → cond b (fails {A = A} x) (Err y) ≡ Err (cond b x y)
cond_err true x y = refl
cond_err false x y = refl

pub record AfterIs {K T B : Type 0} (g : T → Bool) (q : Rule K T B) : Type 0 where
  pub lawful : Lawful q
  pub goes_on : Within q.goes_on g

module _ {K T A B C : Type 0} (place : K) (c g : T → Bool) (f : T × B → C) (after : Rule K T A → Rule K T B) where
  -- how a nested form is read, at the last level and above it
  pub bottom_run : (b : Below K T A) → b ≡ bottom → (ts : List T) → (nested place c g f after b).run ts ≡ Err (cond (heads c ts) (too_deep ts) (refused place ts))
  bottom_run b e ts = rw e (cond_err {A = C × List T} (heads c ts) (too_deep ts) (refused place ts))

  pub above_run : (b : Below K T A) (r : Rule K T A) → b ≡ above r → (ts : List T) → (nested place c g f after b).run ts ≡ (form place c f after r).run ts
  above_run b r e ts = rw e refl

  form_lawful : (r : Rule K T A) → AfterIs g (after r) → Lawful (sealed c false g (form place c f after r))
  form_lawful r R =
      sealed_lawful c false g (form place c f after r) (made_lawful f (seq (one place c) (after r)) (seq_lawful (one place c) (after r) (one_lawful place c) R.lawful (λ t h. refl))) refl
      (λ t k. or_false (c t) k) (λ t k. R.goes_on t (or_and_false ((after r).goes_on t) (after r).nullable k))

  pub nested_lawful : (b : Below K T A) → AtBelow (λ r. AfterIs g (after r)) b → Lawful (nested place c g f after b)
  nested_lawful bottom h = sealed_lawful c false g (unless c (refuse {A = C} place)) (unless_lawful c (refuse {A = C} place) (refuse_lawful place) (λ t k. absurd cc)) refl (λ t k. absurd cc) (λ t k. absurd cc)
  nested_lawful (above r) h = form_lawful r h

  abbrev pub Goes : Rule K T A → Rule K T A → Type 0
  Goes r s = Rises (after r) (after s) × HasExample (after s)

  pub nested_rises : (b b' : Below K T A) → BelowRise (λ s. Unit {0}) Goes b b' → AtBelow (λ r. AfterIs g (after r)) b' → Rises (nested place c g f after b) (nested place c g f after b')
  nested_rises bottom bottom h R = absurd h
  nested_rises bottom (above s) h R =
      sealed_rises c false g (unless c (refuse {A = C} place)) (form place c f after s)
      (must_rises place c (form place c f after s) (refuses_other place c f (after s)) (takes_one place c f (after s) R.lawful))
  nested_rises (above r) bottom h R = absurd h
  nested_rises (above r) (above s) h R =
      sealed_rises c false g (form place c f after r) (form place c f after s)
      (made_rises f (seq (one place c) (after r)) (seq (one place c) (after s)) (seq_rises (one place c) (one place c) (after r) (after s) (one_rises place c) h.0 R.lawful h.1))

  pub has_nested : (good : T) → c good ≡ true → (s : Rule K T A) → HasExample (after s) → HasExample (nested place c g f after (above s))
  has_nested good G s X = has_sealed c false g (form place c f after s) (has_made f (seq (one place c) (after s)) (has_seq (one place c) (after s) (has_one place c good G) X))

  -- where a level is left, the form has an example if what comes after the token has one
  pub has_above : (Q : Rule K T A → Type 0) (R : Rule K T A → Rule K T A → Type 0) (b b' : Below K T A) → BelowRise Q R b b' → (good : T) → c good ≡ true → ((s : Rule K T A) → Q s → HasExample (after s)) → ((r s : Rule K T A) → R r s → HasExample (after s))
      → HasExample (nested place c g f after b')
  has_above Q R bottom bottom h good G x y = absurd h
  has_above Q R bottom (above s) h good G x y = has_nested good G s (x s h)
  has_above Q R (above r) bottom h good G x y = absurd h
  has_above Q R (above r) (above s) h good G x y = has_nested good G s (y r s h)

pub maybe_lawful : {K T A : Type 0} (p : Rule K T A) → Lawful p → p.nullable ≡ false → Lawful (maybe p)
maybe_lawful p P long = alt_lawful (made Some p) (empty None) (made_lawful Some p P) (empty_lawful None) (λ t h. absurd cc) long

pub maybe_rises : {K T A : Type 0} (p q : Rule K T A) → Rises p q → ((t : T) → p.begins t ≡ q.begins t) → Rises (maybe p) (maybe q)
maybe_rises p q P begins = alt_rises (made Some p) (made Some q) (empty None) (empty None) (made_rises Some p q P) (empty_rises None) begins
