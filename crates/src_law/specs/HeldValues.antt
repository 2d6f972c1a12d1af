-- The values that a run of a program holds, wherever it is: before and behind each step and each choice.
use Rattle.std.specs.Prelude.{◌≡◌, ℕ, List, [], ◌∷◌, length, slice_get, Some, IsSome, IsTrue}
use Rattle.std.specs.List.{All}
use Rattle.hy_val.specs.Values.{has_sort}
use Rattle.hy_val.specs.declared.sort.Sort.{Sort}
use Rattle.hy_val.specs.declared.value.Value.{Value}
use Rattle.src_prog.specs.Program.{Program}
use Rattle.src_prog.specs.Scope.{sorts_of, locals_of}
use Rattle.hy_val.specs.Scope.{sort_of_target}
use Rattle.src_prog.specs.Shape.{is_program, scope_of}
use Rattle.src_prog.specs.declared.proc.SrcProc.{SrcProc}
use Rattle.src_run.specs.declared.machine.Choice.{Choice}
use Rattle.src_run.specs.declared.machine.Status.{Status}
use Rattle.src_run.specs.Machine.{Config, Frame, Want, AConst, AGlobal, ALocal, AVariable, ATarget, GoesOn, begin, HasStatus}
use Rattle.src_run.specs.Sorted.{AsksForNone}
use Rattle.src_law.specs.OpenLoops.{config_of, turned}

-- each value has the sort at its place
abbrev pub HaveTheirSorts : List Value → List Sort → Type 0
HaveTheirSorts values sorts = (n : ℕ) (v : Value) → slice_get values n ≡ Some v → (sort : Sort) × (slice_get sorts n ≡ Some sort) × IsTrue (has_sort v sort)

-- the frame is one of a procedure, and its locals have the sorts of the procedure's
pub record HoldsItsLocals (prog : Program) (f : Frame) : Type 0 where
  pub proc : SrcProc
  pub is_proc : slice_get prog.procs f.proc ≡ Some proc
  pub locals : HaveTheirSorts f.locals (locals_of proc)

-- each local of the frame's procedure has a value
pub record HoldsAllLocals (prog : Program) (f : Frame) : Type 0 where
  pub proc : SrcProc
  pub is_proc : slice_get prog.procs f.proc ≡ Some proc
  pub each : length f.locals ≡ length (locals_of proc)

-- each constant, each global and each local of an open frame has a value
pub record HoldsAllValues (prog : Program) (c : Config) : Type 0 where
  pub consts : length c.consts ≡ length prog.consts
  pub globals : length c.globals ≡ length prog.globals
  pub frames : All (HoldsAllLocals prog) c.frames

-- the innermost frame is this one, of this procedure
pub record IsInnermost (prog : Program) (c : Config) (f : Frame) (proc : SrcProc) : Type 0 where
  pub callers : List Frame
  pub are : c.frames ≡ f ∷ callers
  pub is_proc : slice_get prog.procs f.proc ≡ Some proc

-- What is asked for first has the sort of its declaration: the first constant or global that has no value, the first such local of the innermost frame,
-- or a variable that is changed there.
abbrev pub AsksNext : Program → Config → List Want → Type 0
AsksNext prog c [] = Unit {0}
AsksNext prog c (AConst sort ∷ wants) = slice_get (sorts_of prog.consts) (length c.consts) ≡ Some sort
AsksNext prog c (AGlobal sort ∷ wants) = slice_get (sorts_of prog.globals) (length c.globals) ≡ Some sort
AsksNext prog c (ALocal sort ∷ wants) = (f : Frame) × (proc : SrcProc) × IsInnermost prog c f proc × (slice_get (locals_of proc) (length f.locals) ≡ Some sort)
AsksNext prog c (AVariable x sort ∷ wants) = (f : Frame) × (proc : SrcProc) × IsInnermost prog c f proc × (sort ≡ sort_of_target (scope_of prog proc) x)
AsksNext prog c (ATarget targets ∷ wants) = Unit {0}

-- The constants, the globals and the locals of each open frame have the sorts of their declarations, and so has what is asked for. None is missing
-- where the first value of no variable is asked for, if the entry is there.
pub record HoldsItsValues (prog : Program) (entry : ℕ) (c : Config) : Type 0 where
  pub consts : HaveTheirSorts c.consts (sorts_of prog.consts)
  pub globals : HaveTheirSorts c.globals (sorts_of prog.globals)
  pub frames : All (HoldsItsLocals prog) c.frames
  pub asks : AsksNext prog c c.wants
  pub complete : IsSome (slice_get prog.procs entry) → AsksForNone c.wants → HoldsAllValues prog c

-- So it is of a run of a program, after any number of turns and where the run stands.
pub record ValuesHaveTheirSorts : Type 0 where
  pub anywhere : (prog : Program) → IsTrue (is_program prog) → (entry bound turns : ℕ) (choices : List Choice) → HoldsItsValues prog entry (config_of (turned turns prog bound (GoesOn 0 (begin prog entry) choices)))
  pub standing : (prog : Program) → IsTrue (is_program prog) → (entry bound : ℕ) (choices : List Choice) (status : Status) → (run : HasStatus prog entry bound choices status) → HoldsItsValues prog entry run.last
