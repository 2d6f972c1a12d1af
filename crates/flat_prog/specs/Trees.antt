-- Run trees (after Corral, CAV 2012): at each node a run of one procedure, and below each call that it passed a run of
-- the callee; or a free child, which says by itself how the callee is over.
use Rattle.std.specs.Prelude.{Bool, true, false, ◌&&◌, List, [], ◌∷◌}
use Rattle.hy_val.specs.declared.value.Value.{Value}
use Rattle.flat_prog.specs.Program.{FlatProgram}
use Rattle.flat_prog.specs.Local.{Track, State, Request, Result, LocalRun, Begins}
use Rattle.flat_prog.specs.declared.proc.FlatProc.{FlatProc}

-- A run, and what stands below the calls that it passed, in order. A free child says whether the callee ends, and with
-- which values.
mutual
  pub data Run : Type 0 where
    node : Track → Below → Run

  pub data Below : Type 0 where
    none : Below
    inner : Run → Below → Below
    free : (ends : Bool) → (values : List Value) → Below → Below

-- the node's own run, and what stands below it
abbrev pub track_of : Run → Track
track_of (node track below) = track

abbrev pub below_of : Run → Below
below_of (node track below) = below

-- no child is free
abbrev mutual
  pub is_whole : Run → Bool
  is_whole (node track below) = are_whole below

  pub are_whole : Below → Bool
  are_whole none = true
  are_whole (inner run below) = is_whole run && are_whole below
  are_whole (free ends values below) = false

-- which results a free child may stand for, by what its callee is asked for
abbrev pub May : Type 1
May = Request → (ends : Bool) → (values : List Value) → Result → Type 0

-- no child may be free
abbrev pub Never : May
Never call ends values result = ⊥

-- A run means a result, from a begin: it is a run of its procedure, and what stands below it answers its calls, one for
-- one: a run of the callee that means the result from its own begin, or a free child that may stand for it.
abbrev mutual
  pub Means : Run → FlatProgram → May → List Value → FlatProc → State → Result → Type 0
  Means (node track below) flat may consts q begin result =
      (results : List Result) × (calls : List Request) × LocalRun flat q consts track begin results calls result × Answer below flat may consts calls results

  pub Answer : Below → FlatProgram → May → List Value → List Request → List Result → Type 0
  Answer none flat may consts [] [] = Unit {0}
  Answer none flat may consts [] (result ∷ results) = ⊥
  Answer none flat may consts (call ∷ calls) results = ⊥
  Answer (inner run below) flat may consts [] results = ⊥
  Answer (inner run below) flat may consts (call ∷ calls) [] = ⊥
  Answer (inner run below) flat may consts (call ∷ calls) (result ∷ results) =
      ((q : FlatProc) × (begin : State) × Begins flat (track_of run) call q begin × Means run flat may consts q begin result)
      × Answer below flat may consts calls results
  Answer (free ends values below) flat may consts [] results = ⊥
  Answer (free ends values below) flat may consts (call ∷ calls) [] = ⊥
  Answer (free ends values below) flat may consts (call ∷ calls) (result ∷ results) = may call ends values result × Answer below flat may consts calls results

-- a run answers a call
abbrev pub IsCall : FlatProgram → May → List Value → Run → Request → Result → Type 0
IsCall flat may consts run call result = (q : FlatProc) × (begin : State) × Begins flat (track_of run) call q begin × Means run flat may consts q begin result
