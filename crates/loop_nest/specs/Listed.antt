-- The loops as lists: from the flags of the reached blocks, with nothing looked up.
use Rattle.std.specs.Prelude.{◌≡◌, ℕ, ◌+◌, ◌<◌, ◌≤◌, nat_lt, Bool, false, cond, List, [], ◌∷◌, ◌++◌, length, take, if◌then◌else◌, Option, Some, None, All, filter, slice_index, slice_index_or, slice_range}
use Rattle.src_prog.specs.declared.proc.SrcLoop.{SrcLoop}
use Rattle.loop_nest.specs.declared.making.Open.{Open}
use Rattle.loop_nest.specs.declared.types.Loop.{Loop}

-- the numbers of the flags that are up, where the first has this number
abbrev pub numbers : ℕ → List Bool → List ℕ
numbers first [] = []
numbers first (flag ∷ flags) = cond flag (first ∷ numbers (first + 1) flags) (numbers (first + 1) flags)

abbrev pub or_else : Option ℕ → Option ℕ → Option ℕ
or_else None other = other
or_else (Some n) other = Some n

-- the place of the last of some loops that ends behind a block, where the first has this place
abbrev pub last_over : ℕ → List SrcLoop → ℕ → Option ℕ
last_over place [] block = None
last_over place (l ∷ ls) block = or_else (last_over (place + 1) ls block) (if nat_lt block l.exit then Some place else None)

-- the loop of a `while`, where these stand before it
abbrev pub loop_of : List Bool → List SrcLoop → SrcLoop → Loop
loop_of flags before l = record { head = l.head; blocks = numbers l.head (slice_range flags l.head l.exit); outer = last_over 0 before l.head }

abbrev pub loops_of : List Bool → List SrcLoop → List SrcLoop → List Loop
loops_of flags before [] = []
loops_of flags before (l ∷ ls) = loop_of flags before l ∷ loops_of flags (before ++ l ∷ []) ls

-- those whose heads are reached
abbrev pub reached_of : List Bool → List SrcLoop → List SrcLoop
reached_of flags ls = filter (λ l. slice_index_or flags l.head false) ls

-- ---- while they are made

-- the numbers of the flags that are up, and how many of the flags before each one are up
pub record IsNumbering (flags : List Bool) (ups before : List ℕ) : Type 0 where
  pub all : ups ≡ numbers 0 flags
  pub size : length before ≡ length flags
  pub counts : (k : ℕ) → k < length flags → slice_index before k ≡ length (numbers 0 (take k flags))

-- the place of the last open loop that ends behind a block
abbrev pub inner : List Open → ℕ → Option ℕ
inner [] block = None
inner (o ∷ os) block = or_else (inner os block) (if nat_lt block o.exit then Some o.place else None)

-- the loops of the first `while`s are made, and the open ones are those that may hold later heads
pub record IsMade (flags : List Bool) (passed : List SrcLoop) (loops : List Loop) (opened : List Open) : Type 0 where
  pub made : loops ≡ loops_of flags [] (reached_of flags passed)
  pub around : (block : ℕ) → All (λ l. l.head ≤ block) passed → inner opened block ≡ last_over 0 (reached_of flags passed) block
