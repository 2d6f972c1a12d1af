-- Numbers that digits write, up to a greatest one.
use Rattle.std.proofs.Common.{◌≡◌, ℕ, ◌^◌, ◌<◌, Bool, true, false, ◌&&◌, List, arith, refl}
use Rattle.std.specs.Prelude.{nat_le, nat_lt, None, Some, Result, Ok, Err, if◌then◌else◌}
use Rattle.std.specs.Str.Parse.{digits_value}
use Rattle.std.proofs.lemmas.Bool.Decides.{nat_tests}
use Rattle.hy_text.specs.Number.{are_digits, fitting, number_of}
use Rattle.hy_text.specs.declared.number.NumFault.{NumFault}
use Rattle.hy_text.specs.declared.number.NumFault.TheVariants.{NotDigits, TooLarge}
use Rattle.trace_text.specs.Words.{number_up_to}

fitted : (t : Bool) (v n : ℕ) → (let r : Result ℕ NumFault = if t then Ok v else Err TooLarge in r) ≡ Ok n → v ≡ n
fitted true v n e = cc
fitted false v n e = cc

read_by : (digits : Bool) (v n most : ℕ) → (let r : Result ℕ NumFault = if digits then fitting v else Err NotDigits in r) ≡ Ok n → (if digits && nat_le v most then Some v else None) ≡ (if nat_le n most then Some n else None)
read_by true v n most e = let same : v ≡ n = fitted (nat_lt v (2 ^ 64)) v n e in rw same refl
read_by false v n most e = cc

pub up_to_read : (most n : ℕ) (ds : List ℕ) → number_of ds ≡ Ok n → number_up_to most ds ≡ (if nat_le n most then Some n else None)
up_to_read most n ds e = read_by (are_digits ds) (digits_value 10 ds) n most e

wide : (t : Bool) (v : ℕ) (f : NumFault) → (let r : Result ℕ NumFault = if t then Ok v else Err TooLarge in r) ≡ Err f → t ≡ false
wide true v f e = cc
wide false v f e = refl

above : (v most : ℕ) → most < 2 ^ 64 → nat_lt v (2 ^ 64) ≡ false → nat_le v most ≡ false
above v most b e = grind (arith, nat_tests, b, e)

refused_by : (digits : Bool) (v most : ℕ) (f : NumFault) → most < 2 ^ 64 → (let r : Result ℕ NumFault = if digits then fitting v else Err NotDigits in r) ≡ Err f → (if digits && nat_le v most then Some v else None) ≡ None
refused_by true v most f b e = rw (above v most b (wide (nat_lt v (2 ^ 64)) v f e)) refl
refused_by false v most f b e = refl

pub up_to_refused : (most : ℕ) (f : NumFault) (ds : List ℕ) → most < 2 ^ 64 → number_of ds ≡ Err f → number_up_to most ds ≡ None
up_to_refused most f ds b e = refused_by (are_digits ds) (digits_value 10 ds) most f b e
