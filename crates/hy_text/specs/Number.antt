-- What decimal digits write.
use Rattle.std.specs.Prelude.{ℕ, ◌^◌, Bool, not, ◌&&◌, ◌==◌, length, List, Result, Ok, Err, nat_lt, if◌then◌else◌}
use Rattle.std.specs.List.{list_all}
use Rattle.std.specs.Char.{is_ascii_digit}
use Rattle.std.specs.Str.Parse.{digits_value}
use Rattle.hy_text.specs.declared.number.NumFault.{NumFault}
use Rattle.hy_text.specs.declared.number.NumFault.TheVariants.{NotDigits, TooLarge}

-- there is a byte, and each is a decimal digit
abbrev pub are_digits : List ℕ → Bool
are_digits ds = not (length ds == 0) && list_all is_ascii_digit ds

-- the number, where 64 bits hold it
abbrev pub fitting : ℕ → Result ℕ NumFault
fitting n = if nat_lt n (2 ^ 64) then Ok n else Err TooLarge

-- the number that the bytes write: first they must be digits, then their value must fit
abbrev pub number_of : List ℕ → Result ℕ NumFault
number_of ds = if are_digits ds then fitting (digits_value 10 ds) else Err NotDigits
