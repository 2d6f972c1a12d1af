-- The number of bits of an extension, as a name writes it.
use Rattle.std.specs.Prelude.{ℕ, min, List, Option, None, Some, if◌then◌else◌, codes}
use Rattle.std.specs.Option.{option_and_then, option_or}
use Rattle.std.specs.Str.Parse.{digits_value}
use Rattle.hy_text.specs.Number.{are_digits}
use Rattle.type_pass.specs.Meanings.{behind, before}

-- the number that digits write, where more than 64 counts as 64
abbrev pub amount : List ℕ → Option ℕ
amount digits = if are_digits digits then Some (min (digits_value 10 digits) 64) else None

-- the number behind one front, or behind another one and before a parenthesis
abbrev pub amount_behind : List ℕ → List ℕ → List ℕ → Option ℕ
amount_behind front bracketed text =
    option_or (option_and_then amount (behind front text)) (option_and_then amount (option_and_then (before (codes ")")) (behind bracketed text)))
