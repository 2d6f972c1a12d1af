-- The caps on site paths (own; the bound on recursion after Corral, CAV 2012), and the same on run trees.
use Rattle.std.specs.Prelude.{ℕ, suc, nat_eq, nat_le, nat_lt, Bool, true, false, ◌&&◌, List, [], ◌∷◌, slice_get, Option, None, Some, IsTrue, if◌then◌else◌}
use Rattle.flat_prog.specs.Program.{FlatProgram}
use Rattle.flat_prog.specs.Sites.{along}
use Rattle.flat_prog.specs.Trees.{Run, Below, node, none, inner, free, track_of}
use Rattle.flat_prog.specs.declared.proc.FlatKind.{FlatKind}
use Rattle.flat_prog.specs.declared.proc.FlatKind.TheVariants.{Source, Loop}
use Rattle.flat_prog.specs.declared.proc.FlatProc.{FlatProc}

-- how often a procedure is among these
abbrev pub times : ℕ → List ℕ → ℕ
times p [] = 0
times p (q ∷ qs) = if nat_eq q p then suc (times p qs) else times p qs

-- what a procedure stands for
abbrev pub kind_of : Option FlatProc → FlatKind
kind_of None = Source 0
kind_of (Some q) = q.kind

-- ---- site paths

-- how often a procedure stands in a row at the front of these
abbrev pub row_of : ℕ → List ℕ → ℕ
row_of p [] = 0
row_of p (q ∷ qs) = if nat_eq q p then suc (row_of p qs) else 0

-- Where the procedures passed so far, the last one first, are within the caps, so they are with this one behind them: a
-- source procedure stands at most bound times on a path, the entry counted, and a loop procedure at most bound + 1 times
-- in a row.
abbrev pub may_follow : ℕ → FlatKind → ℕ → List ℕ → Bool
may_follow bound (Source proc) p passed = nat_lt (times p passed) bound
may_follow bound (Loop proc head) p passed = nat_le (row_of p passed) bound

-- each of the next ones may follow those before it
abbrev pub are_within : FlatProgram → ℕ → (passed next : List ℕ) → Bool
are_within flat bound passed [] = true
are_within flat bound passed (p ∷ ps) = may_follow bound (kind_of (slice_get flat.procs p)) p passed && are_within flat bound (p ∷ passed) ps

-- the procedures along a path that exists are within the caps
abbrev pub chain_within : FlatProgram → ℕ → Option (List ℕ) → Bool
chain_within flat bound None = false
chain_within flat bound (Some ps) = are_within flat bound [] ps

-- the site path exists from the entry, and is within the caps
abbrev pub within : FlatProgram → (entry bound : ℕ) → List ℕ → Bool
within flat entry bound path = chain_within flat bound (along flat entry path)

-- ---- run trees

-- Each run below a node is within the caps, where these procedures stand on the way to it, the node's own first.
abbrev mutual
  pub Capped : Run → FlatProgram → ℕ → List ℕ → Type 0
  Capped (node track below) flat bound passed = CappedBelow below flat bound passed

  pub CappedBelow : Below → FlatProgram → ℕ → List ℕ → Type 0
  CappedBelow none flat bound passed = Unit {0}
  CappedBelow (inner run below) flat bound passed =
      IsTrue (may_follow bound (kind_of (slice_get flat.procs (track_of run).proc)) (track_of run).proc passed)
      × Capped run flat bound ((track_of run).proc ∷ passed)
      × CappedBelow below flat bound passed
  CappedBelow (free ends values below) flat bound passed = CappedBelow below flat bound passed
