-- What a shelf of files and a sink say of themselves, and what their calls do to it.
use Rattle.std.specs.Prelude.{◌≡◌, ℕ, ◌+◌, ◌-◌, ◌^◌, ◌<◌, ◌≤◌, min, List, [], ◌∷◌, ◌++◌, length, ⊤, Result, Ok, Err, OnOk, OnErr, IfOk, if◌then◌else◌}
use Rattle.std.specs.Str.{bytes_eq}
use Rattle.std.specs.declared.option.Option.{Option}
use Rattle.std.specs.declared.option.Option.TheVariants.{None, Some}
use Rattle.hy_outside.specs.declared.ShelfFault.{ShelfFault}
use Rattle.hy_outside.specs.declared.ShelfFault.TheVariants.{Failed, NoMemory}

-- one more, as a counter of 64 bits has it, which stops at the greatest number
abbrev pub one_more : ℕ → ℕ
one_more count = min (count + 1) (2 ^ 64 - 1)

-- the count grew, or stands at the number at which a counter stops
abbrev pub Rose : ℕ → ℕ → Type 0
Rose before now = one_more before ≤ now

-- the bytes of the first file of that name
abbrev pub bytes_of : List (List ℕ × List ℕ) → List ℕ → Option (List ℕ)
bytes_of [] name = None
bytes_of (file ∷ files) name = if bytes_eq file.0 name then Some file.1 else bytes_of files name

-- these bytes, where they are told
abbrev pub IsToldAs : Option (List ℕ) → List ℕ → Type 0
IsToldAs None bytes = ⊤
IsToldAs (Some told) bytes = told ≡ bytes

-- where the files are told, one has that name, and its bytes are what is left
abbrev pub OpensTo : Option (List (List ℕ × List ℕ)) → List ℕ → Option (List ℕ) → Type 0
OpensTo None name left = ⊤
OpensTo (Some files) name left = (bytes : List ℕ) × (bytes_of files name ≡ Some bytes) × (left ≡ Some bytes)

-- the count rose where the answer is Failed, and else it stays
abbrev pub OpenCause : ℕ → ℕ → Result (Unit {0}) ShelfFault → Type 0
OpenCause before now (Ok done) = now ≡ before
OpenCause before now (Err NoMemory) = now ≡ before
OpenCause before now (Err Failed) = (before ≤ now) × Rose before now

-- the names given to `open`: a call that found no memory adds none
abbrev pub opened_after : List (List ℕ) → List ℕ → Result (Unit {0}) ShelfFault → List (List ℕ)
opened_after opened name (Ok done) = opened ++ name ∷ []
opened_after opened name (Err Failed) = opened ++ name ∷ []
opened_after opened name (Err NoMemory) = opened

-- the same of a call with one error: the count never falls, stays at Ok, and rose at an error
pub record HasCause {T E : Type 0} (before now : ℕ) (result : Result T E) : Type 0 where
  pub later : before ≤ now
  pub kept : OnOk result (now ≡ before)
  pub failed : OnErr result (Rose before now)

-- the count of bytes that were taken: no more than there are, and at least one where there is one
abbrev pub Takes : {E : Type 0} → List ℕ → Result ℕ E → Type 0
Takes piece result = IfOk result (λ n. (n ≤ length piece) × (0 < length piece → 0 < n))
