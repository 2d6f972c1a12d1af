-- Lists, and tokens before and after a phrase, keep the laws.
use Rattle.std.proofs.Common.{◌≡◌, Bool, true, false, ◌||◌, ◌&&◌, refl}
use Rattle.bpl_rules.specs.Rules.{Rule, one, seq, made, many, sealed, listed, some, behind, ended, separated}
use Rattle.bpl_rules.proofs.Laws.{Lawful, Apart}
use Rattle.bpl_rules.proofs.Single.{one_lawful}
use Rattle.bpl_rules.proofs.Choice.{seq_lawful, made_lawful, sealed_lawful}
use Rattle.bpl_rules.proofs.Many.{many_lawful}
use Rattle.bpl_rules.proofs.Rises.{Rises, HasExample, one_rises, seq_rises, made_rises, many_rises, has_one, has_seq, has_made, has_many}
use Rattle.bpl_rules.proofs.Nested.{or_false, or_and_false}

or_both : (a b n : Bool) → (a || (n && b)) ≡ true → n ≡ false → a ≡ true
or_both true b n h e = refl
or_both false b true h e = absurd cc
or_both false b false h e = absurd cc

or_twice : (a b : Bool) → ((a || b) || b) ≡ true → (a || b) ≡ true
or_twice true b h = refl
or_twice false true h = refl
or_twice false false h = absurd cc

or_turned : (a b : Bool) → ((a || b) || b) ≡ true → (b || a) ≡ true
or_turned true true h = refl
or_turned true false h = refl
or_turned false true h = refl
or_turned false false h = absurd cc

-- the first and following tokens that are told are of no matter for a level more
pub sealed_rise : {K T A : Type 0} (b c : T → Bool) (n m : Bool) (f g : T → Bool) (p q : Rule K T A) → Rises p q → Rises (sealed b n f p) (sealed c m g q)
sealed_rise b c n m f g p q P = record { ok = P.ok; stays = P.stays; passes = P.passes; wider = P.wider; ends = λ t x h. let e = P.ends t x h in record { more = e.more; value = e.value; spells = e.spells } }

pub has_like : {K T A : Type 0} (b : T → Bool) (n : Bool) (g : T → Bool) (p : Rule K T A) → HasExample p → HasExample (sealed b n g p)
has_like b n g p P = record { tokens = P.tokens; value = P.value; spells = P.spells }

-- ---- one or more

pub some_lawful : {K T A : Type 0} (p : Rule K T A) → Lawful p → p.nullable ≡ false → Apart p.goes_on p.begins → Lawful (some p)
some_lawful p P long apart =
    sealed_lawful p.begins false (λ t. p.begins t || p.goes_on t) (made listed (seq p (many p))) (made_lawful listed (seq p (many p)) (seq_lawful p (many p) P (many_lawful p P long apart) apart)) (rw long refl)
    (λ t h. or_both (p.begins t) (p.begins t) p.nullable h long) (λ t h. or_twice (p.begins t) (p.goes_on t) h)

pub some_rises : {K T A : Type 0} (p q : Rule K T A) → Rises p q → Lawful q → q.nullable ≡ false → Apart q.goes_on q.begins → ((t : T) → p.begins t ≡ q.begins t) → Rises (some p) (some q)
some_rises p q P Q long apart begins =
    sealed_rise p.begins q.begins false false (λ t. p.begins t || p.goes_on t) (λ t. q.begins t || q.goes_on t) (made listed (seq p (many p))) (made listed (seq q (many q)))
    (made_rises listed (seq p (many p)) (seq q (many q)) (seq_rises p q (many p) (many q) P (many_rises p q P Q begins) (many_lawful q Q long apart) (has_many q)))

pub has_some : {K T A : Type 0} (p : Rule K T A) → HasExample p → HasExample (some p)
has_some p X = has_like p.begins false (λ t. p.begins t || p.goes_on t) (made listed (seq p (many p))) (has_made listed (seq p (many p)) (has_seq p (many p) X (has_many p)))

-- ---- a token before a phrase

pub behind_lawful : {K T A : Type 0} (place : K) (c : T → Bool) (p : Rule K T A) → Lawful p → Lawful (behind place c p)
behind_lawful place c p P =
    sealed_lawful c false p.goes_on (made (λ x. x.1) (seq (one place c) p)) (made_lawful (λ x. x.1) (seq (one place c) p) (seq_lawful (one place c) p (one_lawful place c) P (λ t h. refl))) refl
    (λ t h. or_false (c t) h) (λ t h. or_and_false (p.goes_on t) p.nullable h)

pub behind_rises : {K T A : Type 0} (place : K) (c : T → Bool) (p q : Rule K T A) → Rises p q → Lawful q → HasExample q → Rises (behind place c p) (behind place c q)
behind_rises place c p q P Q X =
    sealed_rise c c false false p.goes_on q.goes_on (made (λ x. x.1) (seq (one place c) p)) (made (λ x. x.1) (seq (one place c) q))
    (made_rises (λ x. x.1) (seq (one place c) p) (seq (one place c) q) (seq_rises (one place c) (one place c) p q (one_rises place c) P Q X))

pub has_behind : {K T A : Type 0} (place : K) (c : T → Bool) (good : T) → c good ≡ true → (p : Rule K T A) → HasExample p → HasExample (behind place c p)
has_behind place c good G p X = has_like c false p.goes_on (made (λ x. x.1) (seq (one place c) p)) (has_made (λ x. x.1) (seq (one place c) p) (has_seq (one place c) p (has_one place c good G) X))

-- ---- a token after a phrase

pub ended_lawful : {K T A : Type 0} (p : Rule K T A) (place : K) (c : T → Bool) → Lawful p → Apart p.goes_on c → Lawful (ended p place c)
ended_lawful p place c P apart = made_lawful (λ x. x.0) (seq p (one place c)) (seq_lawful p (one place c) P (one_lawful place c) apart)

pub ended_rises : {K T A : Type 0} (p q : Rule K T A) (place : K) (c : T → Bool) → Rises p q → (good : T) → c good ≡ true → Rises (ended p place c) (ended q place c)
ended_rises p q place c P good G = made_rises (λ x. x.0) (seq p (one place c)) (seq q (one place c)) (seq_rises p q (one place c) (one place c) P (one_rises place c) (one_lawful place c) (has_one place c good G))

pub has_ended : {K T A : Type 0} (p : Rule K T A) (place : K) (c : T → Bool) (good : T) → c good ≡ true → HasExample p → HasExample (ended p place c)
has_ended p place c good G X = has_made (λ x. x.0) (seq p (one place c)) (has_seq p (one place c) X (has_one place c good G))

-- ---- one or more, with a token between each two

pub separated_lawful : {K T A : Type 0} (place : K) (c : T → Bool) (p : Rule K T A) → Lawful p → p.nullable ≡ false → Apart p.goes_on c → Lawful (separated place c p)
separated_lawful place c p P long apart =
    let next = behind_lawful place c p P in
    sealed_lawful p.begins false (λ t. p.goes_on t || c t) (made listed (seq p (many (behind place c p))))
    (made_lawful listed (seq p (many (behind place c p))) (seq_lawful p (many (behind place c p)) P (many_lawful (behind place c p) next refl apart) apart)) (rw long refl)
    (λ t h. or_both (p.begins t) (c t) p.nullable h long) (λ t h. or_turned (c t) (p.goes_on t) h)

pub separated_rises : {K T A : Type 0} (place : K) (c : T → Bool) (p q : Rule K T A) → Rises p q → Lawful q → HasExample q → Apart q.goes_on c → Rises (separated place c p) (separated place c q)
separated_rises place c p q P Q X apart =
    sealed_rise p.begins q.begins false false (λ t. p.goes_on t || c t) (λ t. q.goes_on t || c t) (made listed (seq p (many (behind place c p)))) (made listed (seq q (many (behind place c q))))
    (made_rises listed (seq p (many (behind place c p))) (seq q (many (behind place c q)))
    (seq_rises p q (many (behind place c p)) (many (behind place c q)) P (many_rises (behind place c p) (behind place c q) (behind_rises place c p q P Q X) (behind_lawful place c q Q) (λ t. refl))
    (many_lawful (behind place c q) (behind_lawful place c q Q) refl apart) (has_many (behind place c q))))

pub has_separated : {K T A : Type 0} (place : K) (c : T → Bool) (p : Rule K T A) → HasExample p → HasExample (separated place c p)
has_separated place c p X = has_like p.begins false (λ t. p.goes_on t || c t) (made listed (seq p (many (behind place c p)))) (has_made listed (seq p (many (behind place c p))) (has_seq p (many (behind place c p)) X (has_many (behind place c p))))
