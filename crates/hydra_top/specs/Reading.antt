-- What reading a file answers.
use Rattle.std.specs.Prelude.{◌≡◌, ℕ, ◌+◌, ◌<◌, ◌≤◌, List, length, Option, None, Some, Result, Ok, Err, ⊤}
use Rattle.hy_outside.specs.Outside.{IsToldAs, OpensTo, Rose}
use Rattle.hydra_top.specs.declared.reading.Source.{Source}
use Rattle.hydra_top.specs.declared.reading.Source.TheVariants.{Whole, TooLong}
use Rattle.hydra_top.specs.declared.reading.ReadEnd.{ReadEnd}
use Rattle.hydra_top.specs.declared.reading.ReadEnd.TheVariants.{Failed, NoMemory}

-- the greatest number of bytes of a file
abbrev pub limit : ℕ
limit = 16777216

-- what was read is the bytes, or they are more than a file may have
abbrev pub IsSource : List ℕ → Source → Type 0
IsSource bytes (Whole read) = (read ≡ bytes) × (length bytes ≤ limit)
IsSource bytes TooLong = limit < length bytes

-- at most one byte more than the limit was read of the bytes, where it is told what is left of them
abbrev pub Spares : List ℕ → Option (List ℕ) → Type 0
Spares bytes None = ⊤
Spares bytes (Some left) = length bytes ≤ length left + (limit + 1)

-- what was read is what was left, where that is told
pub record ReadsLeft (before now : Option (List ℕ)) (source : Source) : Type 0 where
  pub bytes : List ℕ
  pub told : IsToldAs before bytes
  pub is : IsSource bytes source
  pub spares : Spares bytes now

-- what was read is the file of that name, where the files are told
pub record ReadsFile (files : Option (List (List ℕ × List ℕ))) (name : List ℕ) (left : Option (List ℕ)) (source : Source) : Type 0 where
  pub bytes : List ℕ
  pub opens : OpensTo files name (Some bytes)
  pub is : IsSource bytes source
  pub spares : Spares bytes left

-- the count stays, but rose where reading failed
abbrev pub ReadCause : {T : Type 0} → ℕ → ℕ → Result T ReadEnd → Type 0
ReadCause before now (Ok source) = now ≡ before
ReadCause before now (Err NoMemory) = now ≡ before
ReadCause before now (Err Failed) = (before ≤ now) × Rose before now
