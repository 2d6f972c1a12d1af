-- What a word writes as a number, by what the reader of digits makes of it.
use Rattle.std.proofs.Common.{◌≡◌, ℕ, ◌<◌, ◌^◌, Bool, true, false, List, Ok, Err, nat_lt, if◌then◌else◌, arith}
use Rattle.std.proofs.lemmas.Bool.Decides.{nat_tests}
use Rattle.std.specs.Str.Parse.{digits_value}
use Rattle.hy_text.specs.Number.{are_digits, fitting, number_of}
use Rattle.hy_text.specs.declared.number.NumFault.TheVariants.{NotDigits, TooLarge}
use Rattle.hydra_words.specs.declared.command.WordKind.TheVariants.{OutOfRange, NotNumber}
use Rattle.hydra_words.specs.Words.{number_in, ranged, refused}

fits : (c : Bool) (v n : ℕ) → (if c then Ok v else Err TooLarge) ≡ Ok n → v ≡ n
fits true v n h = cc
fits false v n h = cc

above : (c : Bool) (v : ℕ) → (if c then Ok v else Err TooLarge) ≡ Err TooLarge → c ≡ false
above true v h = cc
above false v h = cc

ranged_above : (low high index v : ℕ) → high < 2 ^ 64 → nat_lt v (2 ^ 64) ≡ false → ranged low high index v ≡ refused index OutOfRange
ranged_above low high index v small large = grind (arith, nat_tests)

by_fit : (b : Bool) (low high index v n : ℕ) → (if b then fitting v else Err NotDigits) ≡ Ok n → (if b then ranged low high index v else refused index NotNumber) ≡ ranged low high index n
by_fit true low high index v n h = rw (fits (nat_lt v (2 ^ 64)) v n h)
by_fit false low high index v n h = cc

by_above : (b : Bool) (low high index v : ℕ) → high < 2 ^ 64 → (if b then fitting v else Err NotDigits) ≡ Err TooLarge → (if b then ranged low high index v else refused index NotNumber) ≡ refused index OutOfRange
by_above true low high index v small h = ranged_above low high index v small (above (nat_lt v (2 ^ 64)) v h)
by_above false low high index v small h = cc

by_none : (b c : Bool) (low high index v : ℕ) → (if b then (if c then Ok v else Err TooLarge) else Err NotDigits) ≡ Err NotDigits → (if b then ranged low high index v else refused index NotNumber) ≡ refused index NotNumber
by_none true true low high index v h = cc
by_none true false low high index v h = cc
by_none false c low high index v h = cc

-- a number that the reader of digits gives
pub number_in-fits : (low high index : ℕ) (word : List ℕ) (n : ℕ) → number_of word ≡ Ok n → number_in low high index word ≡ ranged low high index n
unfolding number_in
number_in-fits low high index word n h = by_fit (are_digits word) low high index (digits_value 10 word) n h

-- a number that 64 bits don't hold
pub number_in-above : (low high index : ℕ) (word : List ℕ) → high < 2 ^ 64 → number_of word ≡ Err TooLarge → number_in low high index word ≡ refused index OutOfRange
unfolding number_in
number_in-above low high index word small h = by_above (are_digits word) low high index (digits_value 10 word) small h

-- a word that is no digits
pub number_in-none : (low high index : ℕ) (word : List ℕ) → number_of word ≡ Err NotDigits → number_in low high index word ≡ refused index NotNumber
unfolding number_in
number_in-none low high index word h = by_none (are_digits word) (nat_lt (digits_value 10 word) (2 ^ 64)) low high index (digits_value 10 word) h

pub ruleset number_readings = (number_in-fits, number_in-above, number_in-none)
