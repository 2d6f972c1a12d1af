-- How the run of a plain entry goes on a list of bools. No public clause cites it.
use Rattle.std.specs.Prelude.{◌≡◌, ℕ, ◌+◌, ◌≤◌, nat_le, nat_lt, Bool, true, false, if◌then◌else◌, List, [], ◌∷◌, ◌++◌, length, map, take, drop, Option, None, Some, IsTrue}
use Rattle.std.specs.List.{list_all}
use Rattle.hy_val.specs.Exprs.{eval}
use Rattle.hy_val.specs.Values.{has_sort}
use Rattle.hy_val.specs.declared.atom.AtomKind.TheVariants.{Bool as BoolAtom}
use Rattle.hy_val.specs.declared.expr.Env.{Env}
use Rattle.hy_val.specs.declared.expr.ExprNode.{ExprNode}
use Rattle.hy_val.specs.declared.expr.Var.{Var}
use Rattle.hy_val.specs.declared.sort.ScalarKind.TheVariants.{Bool as BoolSort}
use Rattle.hy_val.specs.declared.sort.Sort.{Sort}
use Rattle.hy_val.specs.declared.sort.SortKind.TheVariants.{Scalar as ScalarSort}
use Rattle.hy_val.specs.declared.value.Value.{Value}
use Rattle.hy_val.specs.declared.value.Value.TheVariants.{Atom as AtomValue}
use Rattle.src_prog.specs.Program.{Program}
use Rattle.hy_val.specs.Scope.{Scope}
use Rattle.src_prog.specs.Scope.{cmd_fits}
use Rattle.src_prog.specs.declared.block.Cmd.{Cmd}
use Rattle.src_prog.specs.declared.block.Cmd.TheVariants.{Assign, Havoc, Assume, Assert, Call}
use Rattle.src_prog.specs.declared.block.SrcBlock.{SrcBlock}
use Rattle.src_prog.specs.declared.proc.SrcProc.{SrcProc}
use Rattle.src_run.specs.declared.machine.Choice.{Choice}
use Rattle.src_run.specs.declared.machine.Status.{Status}
use Rattle.src_run.specs.declared.machine.Status.TheVariants.{Going, Ended, Failed, Blocked, BadChoice}
use Rattle.src_run.specs.declared.running.Stepped.{Stepped}
use Rattle.src_run.specs.declared.running.Stepped.TheVariants.{On, Over}
use Rattle.src_run.specs.Machine.{Config, Want, AConst, AGlobal, ALocal, AVariable, ATarget, Comes, begin}
use Rattle.hy_val.specs.Stores.{holds, write}
use Rattle.src_run.specs.Plain.{is_without_call}
use Rattle.src_run.specs.Search.{bool_choices}

abbrev pub bool_sort : Sort
bool_sort = ScalarSort BoolSort

abbrev pub bool_value : Bool → Value
bool_value b = AtomValue (BoolAtom b)

-- a run with these choices left goes on to one with those left, whatever follows
abbrev pub Leads : Program → (bound index : ℕ) → Config → List Choice → (next : ℕ) → Config → List Choice → Type 0
Leads prog bound index c choices next d left =
    (rest : List Choice) (status : Status) → Comes prog bound next d (left ++ rest) status → Comes prog bound index c (choices ++ rest) status

-- a bool is asked for
abbrev pub wants_bool : List Want → Bool
wants_bool [] = false
wants_bool (AConst sort ∷ wants) = false
wants_bool (AGlobal sort ∷ wants) = has_sort (bool_value true) sort
wants_bool (ALocal sort ∷ wants) = has_sort (bool_value true) sort
wants_bool (AVariable x None ∷ wants) = false
wants_bool (AVariable x (Some sort) ∷ wants) = has_sort (bool_value true) sort
wants_bool (ATarget targets ∷ wants) = false

-- the run stands with this status behind these choices; where it goes on it asks for a bool
pub record StandsBehind (prog : Program) (bound index : ℕ) (c : Config) (choices : List Choice) (status : Status) : Type 0 where
  pub last : Config
  pub leads : Leads prog bound index c choices (index + length choices) last []
  pub is : last.status ≡ status
  pub asks : status ≡ Going → IsTrue (wants_bool last.wants)

-- the run of the entry on these bools
abbrev pub RunsTo : Program → (entry bound : ℕ) → List Bool → Status → Type 0
RunsTo prog entry bound given status = StandsBehind prog bound 0 (begin prog entry) (bool_choices given) status

-- the only frame is the entry's, in its only block, at this command
abbrev pub at_cmd : ℕ → ℕ → Env → Config
at_cmd entry at env =
    record {
      status = Going;
      consts = env.consts;
      globals = env.globals;
      wants = [];
      frames = record { proc = entry; block = 0; at = at; locals = env.locals; laps = []; outs = [] } ∷ [];
    }

abbrev pub are_bool_values : List Value → Bool
are_bool_values vs = list_all (λ v. has_sort v bool_sort) vs

-- the variables of the entry, each with a bool
pub record Bools (scope : Scope) (env : Env) : Type 0 where
  pub consts : scope.consts ≡ []
  pub globals : IsTrue (are_bool_values env.globals)
  pub locals : IsTrue (are_bool_values env.locals)
  pub globals_count : length scope.globals ≡ length env.globals
  pub locals_count : length scope.locals ≡ length env.locals
  pub global_sorts : IsTrue (list_all (has_sort (bool_value true)) scope.globals)
  pub local_sorts : IsTrue (list_all (has_sort (bool_value true)) scope.locals)

-- the environment in which a variable has the value
abbrev pub written : Env → Var → Value → Env
written env x v =
    record env {
      globals = (write (record { globals = env.globals; locals = env.locals }) x v).globals;
      locals = (write (record { globals = env.globals; locals = env.locals }) x v).locals;
    }

-- in which each variable has its value, given in order
abbrev pub all_written : Env → List Var → List Value → Env
all_written env [] vs = env
all_written env (x ∷ xs) [] = env
all_written env (x ∷ xs) (v ∷ vs) = all_written (written env x v) xs vs

-- each variable took the next bool, or one more is asked for than there is
abbrev pub Havocked : List Var → Env → Env → List Bool → ℕ → Option ℕ → Type 0
Havocked xs old new given next None = nat_le (next + length xs) (length given) ≡ false
Havocked xs old new given next (Some taken) =
    (taken ≡ next + length xs) × (nat_le (next + length xs) (length given) ≡ true) × (new ≡ all_written old xs (map bool_value (take (length xs) (drop next given))))

-- the status at an end where some bools may be left, of which the first is a bad choice
abbrev pub ending : Status → List Bool → ℕ → Status
ending status given next = if nat_lt next (length given) then BadChoice next else status

-- the status with which the commands end, where so many bools are taken
abbrev pub run_of : ℕ → List Cmd → Env → List Bool → ℕ → Status
run_of entry [] env given next = ending Ended given next
run_of entry (Assign pairs ∷ cmds) env given next = run_of entry cmds (all_written env (map (λ p. p.0) pairs) (map (λ p. eval env p.1) pairs)) given next
run_of entry (Havoc xs ∷ cmds) env given next =
    if nat_le (next + length xs) (length given) then run_of entry cmds (all_written env xs (map bool_value (take (length xs) (drop next given)))) given (next + length xs) else Going
run_of entry (Assume expr ∷ cmds) env given next = if holds env expr then run_of entry cmds env given next else ending Blocked given next
run_of entry (Assert number expr ∷ cmds) env given next = if holds env expr then run_of entry cmds env given next else ending (Failed entry number) given next
run_of entry (Call proc args outs ∷ cmds) env given next = Blocked

-- the variables of the entry with the first bools
abbrev pub first_env : ℕ → ℕ → List Bool → Env
first_env globals locals given =
    record { consts = []; globals = map bool_value (take globals given); locals = map bool_value (take locals (drop globals given)) }

-- the status of the entry's run on these bools
abbrev pub status_in : ℕ → Program → SrcProc → List Cmd → List Bool → Status
status_in entry prog proc cmds given =
    if nat_le (length prog.globals + (length proc.outs + length proc.locals)) (length given)
    then run_of entry cmds (first_env (length prog.globals) (length proc.outs + length proc.locals) given) given (length prog.globals + (length proc.outs + length proc.locals))
    else Going

-- commands of a plain program, and an environment in which they can run
pub record CanRun (procs : List SrcProc) (cmds : List Cmd) (env : Env) : Type 0 where
  pub scope : Scope
  pub bools : Bools scope env
  pub fit : IsTrue (list_all (cmd_fits procs scope) cmds)
  pub plain : IsTrue (is_without_call cmds)

-- what one command does, whatever stands behind it
abbrev pub StepIs : ℕ → List SrcProc → Cmd → Env → Env → List Bool → ℕ → Stepped → Type 0
StepIs entry procs cmd old new given next (On taken) =
    (taken ≤ length given) × ((cmds : List Cmd) → run_of entry (cmd ∷ cmds) old given next ≡ run_of entry cmds new given taken)
    × ((cmds : List Cmd) → CanRun procs (cmd ∷ cmds) old → CanRun procs cmds new)
StepIs entry procs cmd old new given next (Over status) = (cmds : List Cmd) → run_of entry (cmd ∷ cmds) old given next ≡ status

-- a condition that is true leads on, and a false one ends the run
abbrev pub TestedTo : Env → List ExprNode → Status → List Bool → ℕ → Stepped → Type 0
TestedTo env condition failed given next (On taken) = (holds env condition ≡ true) × (taken ≡ next)
TestedTo env condition failed given next (Over status) = (holds env condition ≡ false) × (status ≡ ending failed given next)

abbrev pub HavocedTo : List Var → Env → Env → List Bool → ℕ → Stepped → Type 0
HavocedTo xs old new given next (On taken) = Havocked xs old new given next (Some taken)
HavocedTo xs old new given next (Over status) = (status ≡ Going) × Havocked xs old new given next None

-- the commands of the first block
abbrev pub first_cmds : List SrcBlock → List Cmd
first_cmds [] = []
first_cmds (block ∷ blocks) = block.cmds

-- a run with a bool for each global, out and local can go on
abbrev pub CanStart : Program → SrcProc → List Bool → Type 0
CanStart prog proc given =
    length prog.globals + (length proc.outs + length proc.locals) ≤ length given
    → CanRun prog.procs (first_cmds proc.blocks) (first_env (length prog.globals) (length proc.outs + length proc.locals) given)
