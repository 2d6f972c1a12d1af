-- Texts made of bytes of one kind, and how they are cut at a byte of another.
use Rattle.std.proofs.Common.{◌≡◌, ℕ, ◌+◌, ◌/◌, ◌%◌, ◌<◌, ◌≤◌, ◌^◌, Bool, true, false, ◌&&◌, List, [], ◌∷◌, ◌++◌, length, All, arith, refl, sym, ◌∙◌, ap, length-append}
use Rattle.std.specs.Prelude.{◌==◌, not, nat_le, decimal, None, Some}
use Rattle.std.specs.Char.{is_ascii_digit}
use Rattle.std.specs.List.{list_all}
use Rattle.std.specs.Str.Parse.{digits_value}
use Rattle.std.proofs.lemmas.Bool.{and_parts, eq-eqb, ne_eqb, eqb-true}
use Rattle.std.proofs.lemmas.Bool.Decides.{nat_tests}
use Rattle.std.proofs.lemmas.Fmt.{decimal_by_steps, decimal_is_IsNumeral}
use Rattle.std.proofs.lemmas.List.Elements.{All-nil, All-cons, All-append}
use Rattle.std.proofs.lemmas.List.Folds.{list_all-append}
use Rattle.std.proofs.lemmas.List.Splits.{slice_split_at, slice_split_none}
use Rattle.hy_text.specs.Number.{are_digits}
use Rattle.trace_text.specs.Words.{halves, only_two, parts, number_up_to}
use Rattle.trace_text.proofs.Cuts.{not_two}

pub and-both : (a b : Bool) → a ≡ true → b ≡ true → (a && b) ≡ true
and-both a b h k = rw (h, k) refl

pub all-both : (p : ℕ → Bool) (xs ys : List ℕ) → list_all p xs ≡ true → list_all p ys ≡ true → list_all p (xs ++ ys) ≡ true
all-both p xs ys h k = list_all-append p xs ys ∙ and-both (list_all p xs) (list_all p ys) h k

-- what passes one test passes a wider one
pub all-wider : (p q : ℕ → Bool) → ((b : ℕ) → p b ≡ true → q b ≡ true) → (xs : List ℕ) → list_all p xs ≡ true → list_all q xs ≡ true
all-wider p q wider [] h = refl
all-wider p q wider (x ∷ xs) h =
    let each = and_parts (p x) (list_all p xs) h in
    and-both (q x) (list_all q xs) (wider x each.0) (all-wider p q wider xs each.1)

-- ---- bytes that are not there

-- no byte is this one
abbrev pub Free : ℕ → List ℕ → Type 0
Free byte text = All (λ b. (b == byte) ≡ false) text

other : (p : ℕ → Bool) (byte b : ℕ) → p byte ≡ false → p b ≡ true → (t : Bool) → (b == byte) ≡ t → (b == byte) ≡ false
other p byte b isnt passes true e =
    let same : b ≡ byte = eqb-true b byte e in
    let clash : true ≡ false = sym passes ∙ (ap p same ∙ isnt) in
    cc
other p byte b isnt passes false e = e

-- a text of bytes of one kind has none of another kind
pub free : (p : ℕ → Bool) (byte : ℕ) → p byte ≡ false → (text : List ℕ) → list_all p text ≡ true → Free byte text
free p byte isnt [] h = All-nil (λ b. (b == byte) ≡ false)
free p byte isnt (x ∷ xs) h =
    let each = and_parts (p x) (list_all p xs) h in
    All-cons (λ b. (b == byte) ≡ false) x xs (other p byte x isnt each.0 (x == byte) refl) (free p byte isnt xs each.1)

pub free-both : (byte : ℕ) (xs ys : List ℕ) → Free byte xs → Free byte ys → Free byte (xs ++ ys)
free-both byte xs ys h k = All-append (λ b. (b == byte) ≡ false) xs ys h k

pub cons_free : (byte b : ℕ) (text : List ℕ) → (b == byte) ≡ false → Free byte text → Free byte (b ∷ text)
cons_free byte b text isnt h = All-cons (λ c. (c == byte) ≡ false) b text isnt h

pub none_free : (byte : ℕ) → Free byte []
none_free byte = All-nil (λ c. (c == byte) ≡ false)

-- a text without the byte is one part
pub one_part : (byte : ℕ) (text : List ℕ) → Free byte text → parts byte text ≡ text ∷ []
one_part byte text h = slice_split_none (λ b. b == byte) text h

pub first_part : (byte : ℕ) (front back : List ℕ) → Free byte front → parts byte (front ++ byte ∷ back) ≡ front ∷ parts byte back
first_part byte front back h = slice_split_at (λ b. b == byte) front byte back h (eq-eqb byte byte refl)

-- a text that has the byte once has two halves
pub two_halves : (byte : ℕ) (front back : List ℕ) → Free byte front → Free byte back → halves byte (front ++ byte ∷ back) ≡ Some (front, back)
two_halves byte front back h k = ap only_two (first_part byte front back h ∙ ap (λ ps. front ∷ ps) (one_part byte back k))

-- one that has it twice has none
pub no_halves : (byte : ℕ) (front middle back : List ℕ) → Free byte front → Free byte middle → halves byte (front ++ byte ∷ (middle ++ byte ∷ back)) ≡ None
no_halves byte front middle back h k =
    ap only_two (first_part byte front (middle ++ byte ∷ back) h ∙ ap (λ ps. front ∷ ps) (first_part byte middle back k)) ∙ not_two (λ b. b == byte) front middle back

-- ---- decimal digits

pub record Digits (n : ℕ) (ds : List ℕ) : Type 0 where
  pub some : 0 < length ds
  pub all : list_all is_ascii_digit ds ≡ true

digit : (n : ℕ) → n < 10 → is_ascii_digit (48 + n) ≡ true
digit n h = grind (arith, nat_tests)

pub decimal_digits : (n : ℕ) → n < 2 ^ 64 → Digits n (decimal n)
decimal_digits n h = decimal_by_steps Digits one more n h
  where
    one : (n : ℕ) → n < 10 → Digits n ((48 + n) ∷ [])
    one n h = record { some = omega arith; all = and-both (is_ascii_digit (48 + n)) true (digit n h) refl }

    more : (n : ℕ) (ds : List ℕ) → 10 ≤ n → Digits (n / 10) ds → Digits n (ds ++ ((48 + n % 10) ∷ []))
    more n ds h k = record {
      some = omega (arith, k.some, length-append ds ((48 + n % 10) ∷ []));
      all = all-both is_ascii_digit ds ((48 + n % 10) ∷ []) k.all (and-both (is_ascii_digit (48 + n % 10)) true (digit (n % 10) (omega arith)) refl);
    }

pub decimal_all : (n : ℕ) → n < 2 ^ 64 → list_all is_ascii_digit (decimal n) ≡ true
decimal_all n h = (decimal_digits n h).all

pub decimal_some : (n : ℕ) → n < 2 ^ 64 → 0 < length (decimal n)
decimal_some n h = (decimal_digits n h).some

are : (n : ℕ) → n < 2 ^ 64 → are_digits (decimal n) ≡ true
are n h =
    let some = decimal_some n h in
    let not_empty : (length (decimal n) == 0) ≡ false = ne_eqb (length (decimal n)) 0 (λ z. omega arith) in
    and-both (not (length (decimal n) == 0)) (list_all is_ascii_digit (decimal n)) (ap not not_empty) (decimal_all n h)

-- a number that is written is read
pub number_read : (most n : ℕ) → n < 2 ^ 64 → n ≤ most → number_up_to most (decimal n) ≡ Some n
number_read most n h k =
    let value : digits_value 10 (decimal n) ≡ n = (decimal_is_IsNumeral n h).1 in
    let within : nat_le n most ≡ true = grind (arith, nat_tests) in
    rw (are n h, value, within) refl
