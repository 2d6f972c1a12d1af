-- What a run of a program holds: each value has the sort of its variable, and what is asked for is what is missing. Of this public clauses cite
-- `AsksForNone` alone.
use Rattle.std.specs.Prelude.{◌≡◌, List, [], ◌∷◌, ◌++◌, map, slice_get, Some, IsTrue}
use Rattle.hy_val.specs.Values.{has_sort}
use Rattle.hy_val.specs.declared.expr.Env.{Env}
use Rattle.hy_val.specs.declared.expr.Var.{Var}
use Rattle.hy_val.specs.declared.sort.Sort.{Sort}
use Rattle.hy_val.specs.declared.value.Value.{Value}
use Rattle.src_prog.specs.Program.{Program}
use Rattle.hy_val.specs.Scope.{Scope, sort_of_target}
use Rattle.src_prog.specs.Scope.{sorts_of, locals_of, targets_fit}
use Rattle.src_prog.specs.Shape.{scope_of}
use Rattle.src_prog.specs.declared.proc.SrcProc.{SrcProc}
use Rattle.src_run.specs.Machine.{Config, Frame, Want, AConst, AGlobal, ALocal, AVariable, ATarget}

-- ---- values

-- the values have the sorts of a front of these, and the values of those behind it are missing
abbrev pub HaveSorts : List Value → (sorts missing : List Sort) → Type 0
HaveSorts [] sorts missing = sorts ≡ missing
HaveSorts (v ∷ vs) [] missing = ⊥
HaveSorts (v ∷ vs) (s ∷ ss) missing = IsTrue (has_sort v s) × HaveSorts vs ss missing

-- an environment with all the variables of a scope
pub record HasVariables (scope : Scope) (env : Env) : Type 0 where
  pub consts : HaveSorts env.consts scope.consts []
  pub globals : HaveSorts env.globals scope.globals []
  pub locals : HaveSorts env.locals scope.locals []

-- ---- frames

-- a frame of this procedure, without the values of these locals
abbrev pub IsFrameOf : Program → Frame → SrcProc → (missing : List Sort) → Type 0
IsFrameOf prog f proc missing = (slice_get prog.procs f.proc ≡ Some proc) × HaveSorts f.locals (locals_of proc) missing

-- The frames below one of a procedure have all their locals, and each takes the outs of the one above it into variables of the outs' sorts.
abbrev pub AreCallers : Program → SrcProc → (outs : List Var) → List Frame → Type 0
AreCallers prog callee outs [] = Unit {0}
AreCallers prog callee outs (f ∷ rest) = (proc : SrcProc) × IsFrameOf prog f proc [] × IsTrue (targets_fit (scope_of prog proc) callee.outs outs) × AreCallers prog proc f.outs rest

-- each frame is one of a procedure, and only the innermost is without some of its locals
abbrev pub AreFrames : Program → List Frame → (missing : List Sort) → Type 0
AreFrames prog [] missing = missing ≡ []
AreFrames prog (f ∷ rest) missing = (proc : SrcProc) × IsFrameOf prog f proc missing × AreCallers prog proc f.outs rest

-- ---- what is asked for

-- a new value for a variable, of its sort in the scope, or a target
abbrev pub IsChange : Scope → Want → Type 0
IsChange scope (AConst sort) = ⊥
IsChange scope (AGlobal sort) = ⊥
IsChange scope (ALocal sort) = ⊥
IsChange scope (AVariable x sort) = sort ≡ sort_of_target scope x
IsChange scope (ATarget targets) = Unit {0}

abbrev pub AreChangesIn : Scope → List Want → Type 0
AreChangesIn scope [] = Unit {0}
AreChangesIn scope (w ∷ ws) = IsChange scope w × AreChangesIn scope ws

-- in the innermost frame
abbrev pub AreChanges : Program → List Frame → List Want → Type 0
AreChanges prog [] ws = ws ≡ []
AreChanges prog (f ∷ rest) ws = (proc : SrcProc) → slice_get prog.procs f.proc ≡ Some proc → AreChangesIn (scope_of prog proc) ws

-- ---- configurations

-- Each value has the sort of its variable. What is asked for is what is missing, in order: first the constants, then the globals and the locals of the
-- innermost frame, then what changes them.
pub record AreSorted (prog : Program) (c : Config) : Type 0 where
  pub missing_consts : List Sort
  pub missing_globals : List Sort
  pub missing_locals : List Sort
  pub changes : List Want
  pub consts : HaveSorts c.consts (sorts_of prog.consts) missing_consts
  pub globals : HaveSorts c.globals (sorts_of prog.globals) missing_globals
  pub frames : AreFrames prog c.frames missing_locals
  pub are_changes : AreChanges prog c.frames changes
  pub wants : c.wants ≡ map AConst missing_consts ++ (map AGlobal missing_globals ++ (map ALocal missing_locals ++ changes))

-- nothing is missing
pub record AreComplete (prog : Program) (c : Config) : Type 0 where
  pub consts : HaveSorts c.consts (sorts_of prog.consts) []
  pub globals : HaveSorts c.globals (sorts_of prog.globals) []
  pub frames : AreFrames prog c.frames []

-- the first value of no variable is asked for
abbrev pub AsksForNone : List Want → Type 0
AsksForNone [] = Unit {0}
AsksForNone (AConst sort ∷ ws) = ⊥
AsksForNone (AGlobal sort ∷ ws) = ⊥
AsksForNone (ALocal sort ∷ ws) = ⊥
AsksForNone (AVariable x sort ∷ ws) = Unit {0}
AsksForNone (ATarget targets ∷ ws) = Unit {0}

-- no constant is asked for
abbrev pub AsksForNoConst : List Want → Type 0
AsksForNoConst [] = Unit {0}
AsksForNoConst (AConst sort ∷ ws) = ⊥
AsksForNoConst (AGlobal sort ∷ ws) = Unit {0}
AsksForNoConst (ALocal sort ∷ ws) = Unit {0}
AsksForNoConst (AVariable x sort ∷ ws) = Unit {0}
AsksForNoConst (ATarget targets ∷ ws) = Unit {0}
