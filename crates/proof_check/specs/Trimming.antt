-- What the parts of the trimmer keep and answer.
use Rattle.std.specs.Prelude.{◌≡◌, ℕ, ◌+◌, ◌-◌, ◌<◌, ◌≤◌, Bool, true, false, if◌then◌else◌, nat_lt, List, [], ◌∷◌, ◌++◌, Some, length, map, slice_get, slice_index_or}
use Rattle.cnf_form.specs.Literal.{is_among}
use Rattle.cnf_form.specs.declared.log.Line.{Line}

-- hints name clauses of the formula or earlier lines
abbrev pub HintsEarlier : ℕ → List Line → Type 0
HintsEarlier offset lines = (j h : ℕ) (line : Line) → slice_get lines j ≡ Some line → is_among line.hints h ≡ true → h < offset + j

abbrev pub is_set : List Bool → ℕ → Bool
is_set flags k = slice_index_or flags k false

-- a set line from the place on has only hints to clauses of the formula and to set lines
abbrev pub ClosedFrom : ℕ → List Line → List Bool → ℕ → Type 0
ClosedFrom offset lines needed from = (j h : ℕ) (line : Line) → from ≤ j → is_set needed j ≡ true → slice_get lines j ≡ Some line → is_among line.hints h ≡ true → offset ≤ h → is_set needed (h - offset) ≡ true

-- a line before the last is set only where a later set line, from the place on, has a hint to it
abbrev pub UsedFrom : ℕ → List Line → List Bool → ℕ → Type 0
UsedFrom offset lines needed from = (k : ℕ) → is_set needed k ≡ true → k + 1 < length lines → (j : ℕ) × (line : Line) × (k < j) × (from ≤ j) × (is_set needed j ≡ true) × (slice_get lines j ≡ Some line) × (is_among line.hints (offset + k) ≡ true)

-- the last line is set, and those that it needs, and no others
pub record AreNeeded (offset : ℕ) (lines : List Line) (needed : List Bool) : Type 0 where
  pub same_length : length needed ≡ length lines
  pub last : is_set needed (length lines - 1) ≡ true
  pub closed : ClosedFrom offset lines needed 0
  pub used : UsedFrom offset lines needed 0

-- the new number of a clause, where those of the formula keep theirs
abbrev pub new_number : ℕ → List ℕ → ℕ → ℕ
new_number offset numbers id = if nat_lt id offset then id else slice_index_or numbers (id - offset) 0

abbrev pub renumbered : ℕ → List ℕ → Line → Line
renumbered offset numbers line = record { clause = line.clause; hints = map (new_number offset numbers) line.hints }

-- the set lines with new hints, where the earlier lines have these numbers and the next one kept has that number
abbrev pub kept_lines : ℕ → List ℕ → List Bool → List Line → ℕ → List Line
kept_lines offset numbers [] lines next = []
kept_lines offset numbers (b ∷ flags) [] next = []
kept_lines offset numbers (true ∷ flags) (line ∷ lines) next = renumbered offset numbers line ∷ kept_lines offset (numbers ++ next ∷ []) flags lines (next + 1)
kept_lines offset numbers (false ∷ flags) (line ∷ lines) next = kept_lines offset (numbers ++ 0 ∷ []) flags lines next
