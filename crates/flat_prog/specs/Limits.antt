-- What each procedure may change, as a table of truth values: one row for each procedure, one mark for each global.
use Rattle.std.specs.Prelude.{◌≡◌, ◌↔◌, ℕ, ◌+◌, Bool, true, false, List, [], ◌∷◌, length, slice_index_or, All, if◌then◌else◌}
use Rattle.flat_prog.specs.Program.{FlatProgram}
use Rattle.flat_prog.specs.Changes.{MayChange, AreChanged}

-- the row of a procedure; none where it is not there
abbrev pub row : List (List Bool) → ℕ → List Bool
row limits p = slice_index_or limits p []

-- The table says of each procedure and each global whether the one may change the other.
pub record AreLimits (flat : FlatProgram) (limits : List (List Bool)) : Type 0 where
  pub exact : (p g : ℕ) → (slice_index_or (row limits p) g false ≡ true) ↔ MayChange flat g p
  pub rows : length limits ≡ length flat.procs
  pub wide : All (λ marks. length marks ≡ length flat.globals) limits

-- the numbers of the marks that are true, in order, where the first mark has this number
abbrev pub marked_from : ℕ → List Bool → List ℕ
marked_from number [] = []
marked_from number (mark ∷ marks) = if mark then number ∷ marked_from (number + 1) marks else marked_from (number + 1) marks

-- the numbers of the marks that are true, from 0: of a row of the table, the globals that the procedure may change
abbrev pub numbers_of : List Bool → List ℕ
numbers_of marks = marked_from 0 marks

-- the numbers of the marks in a procedure's row are those of the globals that it may change
abbrev pub LimitsNameChanges : Type 0
LimitsNameChanges = (flat : FlatProgram) (limits : List (List Bool)) (p : ℕ) → AreLimits flat limits → AreChanged flat p (numbers_of (row limits p))
