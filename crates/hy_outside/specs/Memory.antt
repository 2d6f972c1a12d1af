-- The shelf and the sink in memory, as machines that follow a list of turns.
use Rattle.std.specs.Prelude.{◌≡◌, ℕ, ◌-◌, min, max, nat_lt, ◌==◌, Bool, true, ◌&&◌, ◌||◌, List, [], ◌∷◌, ◌++◌, take, drop, length, Result, Ok, Err, IsErr, if◌then◌else◌}
use Rattle.std.specs.declared.option.Option.{Option}
use Rattle.std.specs.declared.option.Option.TheVariants.{None, Some}
use Rattle.hy_outside.specs.declared.ShelfFault.{ShelfFault}
use Rattle.hy_outside.specs.declared.ShelfFault.TheVariants.{Failed, NoMemory}
use Rattle.hy_outside.specs.declared.memory.Turn.{Turn}
use Rattle.hy_outside.specs.declared.memory.Turn.TheVariants.{All, AtMost, Fail}
use Rattle.hy_outside.specs.Outside.{bytes_of, one_more}

-- the turn of the next call, and those of the calls after it
abbrev pub next_turn : List Turn → Turn
next_turn [] = All
next_turn (turn ∷ turns) = turn

abbrev pub later_turns : List Turn → List Turn
later_turns [] = []
later_turns (turn ∷ turns) = turns

pub record ShelfState : Type 0 where
  pub files : List (List ℕ × List ℕ)
  pub turns : List Turn
  pub left : List ℕ
  pub faults : ℕ
  pub opened : List (List ℕ)

-- what an `open` finds at a turn, where these bytes stand under the name
abbrev pub found_at : Turn → Option (List ℕ) → Option (List ℕ)
found_at All bytes = bytes
found_at (AtMost n) bytes = bytes
found_at Fail bytes = None

-- an `open` uses up one turn, whatever it answers; it is Ok exactly where it finds bytes, if there is memory
abbrev pub Opens : ShelfState → List ℕ → Result (Unit {0}) ShelfFault → ShelfState → Type 0
Opens s name (Ok done) t = (bytes : List ℕ) × (found_at (next_turn s.turns) (bytes_of s.files name) ≡ Some bytes)
    × (t ≡ record { files = s.files; turns = later_turns s.turns; left = bytes; faults = s.faults; opened = s.opened ++ name ∷ [] })
Opens s name (Err Failed) t = (found_at (next_turn s.turns) (bytes_of s.files name) ≡ None)
    × (t ≡ record { files = s.files; turns = later_turns s.turns; left = []; faults = one_more s.faults; opened = s.opened ++ name ∷ [] })
Opens s name (Err NoMemory) t =
    t ≡ record { files = s.files; turns = later_turns s.turns; left = []; faults = s.faults; opened = s.opened }

-- how many of `most` bytes a read gives at a turn, or None where it fails
abbrev pub read_count : Turn → ℕ → Option ℕ
read_count All most = Some most
read_count (AtMost n) most = Some (min (max n 1) most)
read_count Fail most = None

abbrev pub read_by : ShelfState → Option ℕ → ShelfState
read_by s (Some n) = record { files = s.files; turns = later_turns s.turns; left = drop n s.left; faults = s.faults; opened = s.opened }
read_by s None = record { files = s.files; turns = later_turns s.turns; left = s.left; faults = one_more s.faults; opened = s.opened }

-- the answer is that count, or an error where there is none
abbrev pub Answers : {E : Type 0} → Option ℕ → Result ℕ E → Type 0
Answers (Some n) result = result ≡ Ok n
Answers None result = IsErr result

pub record SinkState : Type 0 where
  pub held : List ℕ
  pub room : ℕ
  pub turns : List Turn
  pub faults : ℕ

-- whether a write of a piece of that size fails at a turn, with so many bytes free
abbrev pub refuses : Turn → ℕ → ℕ → Bool
refuses Fail size free = true
refuses All size free = nat_lt 0 size && (free == 0)
refuses (AtMost n) size free = nat_lt 0 size && ((n == 0) || (free == 0))

-- how many of `most` bytes a write takes at a turn at which it does not fail
abbrev pub write_count : Turn → ℕ → ℕ
write_count All most = most
write_count (AtMost n) most = min n most
write_count Fail most = 0

-- how many bytes a write takes of a piece, or None where it fails
abbrev pub taken_of : SinkState → List ℕ → Option ℕ
taken_of s piece = if refuses (next_turn s.turns) (length piece) (s.room - length s.held) then None
    else Some (write_count (next_turn s.turns) (min (length piece) (s.room - length s.held)))

abbrev pub written_by : SinkState → List ℕ → Option ℕ → SinkState
written_by s piece (Some n) = record { held = s.held ++ take n piece; room = s.room; turns = later_turns s.turns; faults = s.faults }
written_by s piece None = record { held = s.held; room = s.room; turns = later_turns s.turns; faults = one_more s.faults }
