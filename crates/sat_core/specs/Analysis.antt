-- What the analysis of a conflict keeps.
use Rattle.std.specs.Prelude.{◌≡◌, ℕ, ◌+◌, ◌/◌, ◌<◌, true, false, List, [], ◌∷◌, ◌++◌, length, take, drop, slice_index, slice_get, Some, if◌then◌else◌}
use Rattle.cnf_form.specs.Literal.{negation, is_among}
use Rattle.cnf_form.specs.Lines.{follows, hints_refute}
use Rattle.cnf_form.specs.New.{IsNew}
use Rattle.cnf_form.specs.declared.log.Line.{Line}

-- each assigned literal's place is known by its variable
abbrev pub IsPlaced : List ℕ → List ℕ → Type 0
IsPlaced trail places = (p : ℕ) → p < length trail → (slice_index trail p / 2 < length places) × (slice_index places (slice_index trail p / 2) ≡ p)

-- the literals between two places
abbrev pub segment : List ℕ → ℕ → ℕ → List ℕ
segment trail start below = drop start (take below trail)

-- how many of a list are marked
abbrev pub marked_in : List ℕ → List ℕ → ℕ
marked_in marks [] = 0
marked_in marks (x ∷ xs) = (if is_among marks x then 1 else 0) + marked_in marks xs

abbrev pub pending : List ℕ → List ℕ → ℕ → ℕ → ℕ
pending marks trail start below = marked_in marks (segment trail start below)

-- the negations of the marked literals below the start
pub record AreLow (trail : List ℕ) (start : ℕ) (marks low : List ℕ) : Type 0 where
  pub marked : (m : ℕ) → is_among marks m ≡ true → is_among (take start trail) m ≡ true → is_among low (negation m) ≡ true
  pub assigned : (q : ℕ) → is_among low q ≡ true → is_among (take start trail) (negation q) ≡ true

-- a clause in which all literals but one are false where these are assigned
abbrev pub Forces : List (List ℕ) → List ℕ → ℕ → ℕ → Type 0
Forces clauses before id l = (c : List ℕ) × (slice_get clauses id ≡ Some c) × (is_among c l ≡ true) × ((q : ℕ) → is_among c q ≡ true → (q ≡ l → ⊥) → is_among before (negation q) ≡ true)

-- from false literals that hold the marked ones and no later one, the hints refute
abbrev pub RefuteFrom : List (List ℕ) → List ℕ → List ℕ → List ℕ → Type 0
RefuteFrom clauses before marks hints =
    (falses : List ℕ) → ((m : ℕ) → is_among marks m ≡ true → is_among before m ≡ true → is_among falses (negation m) ≡ true) → ((q : ℕ) → is_among falses q ≡ true → is_among before (negation q) ≡ true) → hints_refute clauses falses hints ≡ true

-- a literal and its negation aren't both assigned
abbrev pub IsConsistent : List ℕ → Type 0
IsConsistent trail = (m : ℕ) → is_among trail m ≡ true → is_among trail (negation m) ≡ false

-- each literal behind the start was forced by the earlier ones
abbrev pub AreForced : List (List ℕ) → List ℕ → List ℕ → ℕ → Type 0
AreForced clauses trail reasons start = (p : ℕ) → start < p → p < length trail → Forces clauses (take p trail) (slice_index reasons p) (slice_index trail p)

-- all literals of the clause of this number are false
abbrev pub IsConflict : List (List ℕ) → List ℕ → ℕ → Type 0
IsConflict clauses trail id = (c : List ℕ) × (slice_get clauses id ≡ Some c) × ((q : ℕ) → is_among c q ≡ true → is_among trail (negation q) ≡ true)

-- a line that follows and is new, all of whose literals but the last were false before the start, and the last only then
pub record IsLearnt (clauses : List (List ℕ)) (trail : List ℕ) (start : ℕ) (line : Line) : Type 0 where
  pub derived : follows clauses line ≡ true
  pub new : IsNew clauses line.clause
  pub rest : List ℕ
  pub asserting : ℕ
  pub ends : line.clause ≡ rest ++ asserting ∷ []
  pub early : (q : ℕ) → is_among rest q ≡ true → is_among (take start trail) (negation q) ≡ true
  pub assigned : is_among trail (negation asserting) ≡ true
  pub late : is_among (take start trail) (negation asserting) ≡ false
