-- The lines of a text, and the first one that two texts do not share.
use Rattle.std.specs.Prelude.{◌≡◌, ◌≢◌, ℕ, ◌+◌, ◌==◌, List, [], ◌∷◌, take, slice_get, if◌then◌else◌}

-- a byte more at the begin of the first line, which is a new one where there is none
abbrev pub before_first : ℕ → List (List ℕ) → List (List ℕ)
before_first byte [] = (byte ∷ []) ∷ []
before_first byte (line ∷ lines) = (byte ∷ line) ∷ lines

-- Each line with its line feed. What follows the last line feed, where that isn't empty, is one more line.
abbrev pub whole_lines : List ℕ → List (List ℕ)
whole_lines [] = []
whole_lines (byte ∷ bytes) = if byte == 10 then (byte ∷ []) ∷ whole_lines bytes else before_first byte (whole_lines bytes)

-- Lines count from 1. Those before this one are the same in both texts, and this one isn't: its bytes are others, or only one of the texts has it.
pub record IsFirstDifference (one other : List ℕ) (line : ℕ) : Type 0 where
  pub before : ℕ
  pub number : line ≡ before + 1
  pub same : take before (whole_lines one) ≡ take before (whole_lines other)
  pub differs : slice_get (whole_lines one) before ≢ slice_get (whole_lines other) before
