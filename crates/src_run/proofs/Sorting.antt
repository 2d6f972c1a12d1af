-- Wherever a run of a program is, it is sorted: at its begin, behind a step and behind a choice.
use Rattle.std.proofs.Common.{◌≡◌, ℕ, zero, suc, ◌+◌, ◌<◌, nat_lt, Bool, true, false, if◌then◌else◌, List, [], ◌∷◌, ◌++◌, length, map, take, drop, slice_get, slice_set, Option, None, Some, sym, ◌∙◌, ap, refl, subst, IsTrue}
use Rattle.std.specs.List.{list_all}
use Rattle.std.proofs.lemmas.List.{append-nil}
use Rattle.hy_val.proofs.Lists.{some_within}
use Rattle.hy_val.specs.Exprs.{eval}
use Rattle.hy_val.specs.Values.{has_sort}
use Rattle.hy_val.specs.declared.expr.Env.{Env}
use Rattle.hy_val.specs.declared.expr.ExprNode.{ExprNode}
use Rattle.hy_val.specs.declared.expr.Var.{Var}
use Rattle.hy_val.specs.declared.expr.Var.TheVariants.{Const, Global, Local}
use Rattle.hy_val.specs.declared.sort.Sort.{Sort}
use Rattle.hy_val.specs.declared.value.Value.{Value}
use Rattle.src_prog.specs.Program.{Program}
use Rattle.hy_val.specs.Scope.{Scope, sort_of_target, is_sort_of, expr_fits, pair_fits}
use Rattle.src_prog.specs.Scope.{sorts_of, locals_of, args_fit, targets_fit, call_fits, cmd_fits}
use Rattle.src_prog.specs.Shape.{is_program, scope_of}
use Rattle.src_prog.specs.declared.block.Cmd.{Cmd}
use Rattle.src_prog.specs.declared.block.Cmd.TheVariants.{Assign, Havoc, Assume, Assert, Call}
use Rattle.src_prog.specs.declared.block.Next.{Next}
use Rattle.src_prog.specs.declared.block.Next.TheVariants.{Goto, Return}
use Rattle.src_prog.specs.declared.block.SrcBlock.{SrcBlock}
use Rattle.src_prog.specs.declared.proc.Named.{Named}
use Rattle.src_prog.specs.declared.proc.SrcLoop.{SrcLoop}
use Rattle.src_prog.specs.declared.proc.SrcProc.{SrcProc}
use Rattle.hy_val.proofs.Booleans.{and-first, and-second}
use Rattle.src_run.proofs.Programs.{cmd_fits_in}
use Rattle.src_run.proofs.Runs.{either_way}
use Rattle.hy_val.proofs.Scopes.{is_sort_of_is}
use Rattle.src_run.proofs.Sorted.{expr_sorted, expr_has_sort, complete, has_variables}
use Rattle.src_run.specs.declared.machine.Choice.{Choice}
use Rattle.src_run.specs.declared.machine.Choice.TheVariants.{Go, Val}
use Rattle.src_run.specs.declared.machine.Status.{Status}
use Rattle.src_run.specs.declared.machine.Status.TheVariants.{Going, Ended, Failed, Blocked, Cut, BadChoice}
use Rattle.src_run.specs.Machine.{Config, Frame, Lap, Want, Way, Again, Enter, Stay, Out, AConst, AGlobal, ALocal, AVariable, ATarget, Turn, Stands, GoesOn, with_status, env_of, store_of, put, open_count, further, locals_wanted, call, command, entry_of, way, land, land_outside, land_inside, arrive, loops_of, jump, outs_of, leave, follow, at_command, at_block, at_proc, at_frames, tick, tested, are_allowed, bad, with_local, with_variable, go_to, take_choice, begin, first_frame, wants_of, turn, going, over}
use Rattle.hy_val.specs.Stores.{Store, holds, write, write_all}
use Rattle.src_run.specs.Sorted.{HaveSorts, HasVariables, IsFrameOf, AreCallers, AreFrames, AreChangesIn, AreChanges, AreSorted, AreComplete, AsksForNone}

-- ---- values of sorts

-- one value more, of the next sort
have_push : (vs : List Value) (sorts : List Sort) (s : Sort) (missing : List Sort) (v : Value) → HaveSorts vs sorts (s ∷ missing) → has_sort v s ≡ true → HaveSorts (vs ++ v ∷ []) sorts missing
have_push [] sorts s missing v h k = rw h (k, refl)
have_push (w ∷ vs) [] s missing v h k = absurd h
have_push (w ∷ vs) (t ∷ sorts) s missing v h k = (h.0, have_push vs sorts s missing v h.1 k)

-- the next sort is that at the place behind the values
pub have_next : (vs : List Value) (sorts : List Sort) (s : Sort) (missing : List Sort) → HaveSorts vs sorts (s ∷ missing) → slice_get sorts (length vs) ≡ Some s
have_next [] sorts s missing h = rw h refl
have_next (v ∷ vs) [] s missing h = absurd h
have_next (v ∷ vs) (t ∷ sorts) s missing h = have_next vs sorts s missing h.1

-- a new value
have_set : (vs : List Value) (sorts missing : List Sort) (n : ℕ) (s : Sort) (v : Value) → HaveSorts vs sorts missing → slice_get sorts n ≡ Some s → has_sort v s ≡ true → HaveSorts (slice_set vs n v) sorts missing
have_set [] sorts missing n s v h e k = h
have_set (w ∷ vs) [] missing n s v h e k = absurd h
have_set (w ∷ vs) (t ∷ sorts) missing zero s v h e k = let same : t ≡ s = cc in (rw same k, h.1)
have_set (w ∷ vs) (t ∷ sorts) missing (suc n) s v h e k = (h.0, have_set vs sorts missing n s v h.1 e k)

have_drop : (names : List Named) (vs : List Value) (others : List Sort) → HaveSorts vs (sorts_of names ++ others) [] → HaveSorts (drop (length names) vs) others []
have_drop [] vs others h = h
have_drop (n ∷ ns) [] others h = cc
have_drop (n ∷ ns) (v ∷ vs) others h = have_drop ns vs others h.1

have_take : (names : List Named) (vs : List Value) (others : List Sort) → HaveSorts vs (sorts_of names ++ others) [] → HaveSorts (take (length names) vs) (sorts_of names) []
have_take [] vs others h = refl
have_take (n ∷ ns) [] others h = cc
have_take (n ∷ ns) (v ∷ vs) others h = (h.0, have_take ns vs others h.1)

outs_sorted : (proc : SrcProc) (locals : List Value) → HaveSorts locals (locals_of proc) [] → HaveSorts (outs_of proc locals) (sorts_of proc.outs) []
outs_sorted proc locals h = have_take proc.outs (drop (length proc.ins) locals) (sorts_of proc.locals) (have_drop proc.ins locals (sorts_of proc.outs ++ sorts_of proc.locals) h)

-- ---- variables that are written

-- each value that is written has the sort of its target
abbrev CanWrite : Scope → List Var → List Value → Type 0
CanWrite scope [] vs = Unit {0}
CanWrite scope (x ∷ xs) [] = Unit {0}
CanWrite scope (x ∷ xs) (v ∷ vs) = ((s : Sort) × (sort_of_target scope x ≡ Some s) × IsTrue (has_sort v s)) × CanWrite scope xs vs

-- each global and each local has a value of its sort
record IsStore (scope : Scope) (s : Store) : Type 0 where
  globals : HaveSorts s.globals scope.globals []
  locals : HaveSorts s.locals scope.locals []

written : (scope : Scope) (s : Store) (x : Var) (v : Value) (sort : Sort) → IsStore scope s → sort_of_target scope x ≡ Some sort → has_sort v sort ≡ true → IsStore scope (write s x v)
written scope s (Const n) v sort h e k = cc
written scope s (Global n) v sort h e k = record { globals = have_set s.globals scope.globals [] n sort v h.globals e k; locals = h.locals }
written scope s (Local n) v sort h e k = record { globals = h.globals; locals = have_set s.locals scope.locals [] n sort v h.locals e k }

all_written : (scope : Scope) (s : Store) (xs : List Var) (vs : List Value) → IsStore scope s → CanWrite scope xs vs → IsStore scope (write_all s xs vs)
all_written scope s [] vs h can = h
all_written scope s (x ∷ xs) [] h can = h
all_written scope s (x ∷ xs) (v ∷ vs) h can =
    let (sort, e, k) = can.0 in
    all_written scope (write s x v) xs vs (written scope s x v sort h e k) can.1

-- the values of a procedure's outs can be written into the targets of a call
outs_can : (scope : Scope) (names : List Named) (xs : List Var) (vs : List Value) → targets_fit scope names xs ≡ true → HaveSorts vs (sorts_of names) [] → CanWrite scope xs vs
outs_can scope [] [] vs fit h = tt
outs_can scope [] (x ∷ xs) vs fit h = cc
outs_can scope (n ∷ ns) [] vs fit h = tt
outs_can scope (n ∷ ns) (x ∷ xs) [] fit h = tt
outs_can scope (n ∷ ns) (x ∷ xs) (v ∷ vs) fit h =
    ((n.sort, is_sort_of_is (sort_of_target scope x) n.sort (and-first (is_sort_of (sort_of_target scope x) n.sort) _ fit), h.0), outs_can scope ns xs vs (and-second (is_sort_of (sort_of_target scope x) n.sort) _ fit) h.1)

-- ---- configurations

pub status_sorted : (prog : Program) (c : Config) (s : Status) → AreSorted prog c → AreSorted prog (with_status c s)
status_sorted prog c s h = record {
  missing_consts = h.missing_consts;
  missing_globals = h.missing_globals;
  missing_locals = h.missing_locals;
  changes = h.changes;
  consts = h.consts;
  globals = h.globals;
  frames = h.frames;
  are_changes = h.are_changes;
  wants = h.wants;
}

-- where nothing is missing, changes alone may be asked for
changing : (prog : Program) (c : Config) → AreComplete prog c → AreChanges prog c.frames c.wants → AreSorted prog c
changing prog c all h = record {
  missing_consts = [];
  missing_globals = [];
  missing_locals = [];
  changes = c.wants;
  consts = all.consts;
  globals = all.globals;
  frames = all.frames;
  are_changes = h;
  wants = refl;
}

no_changes : (prog : Program) (frames : List Frame) → AreChanges prog frames []
no_changes prog [] = refl
no_changes prog (f ∷ rest) = λ proc e. tt

at_rest : (prog : Program) (c : Config) → AreComplete prog c → c.wants ≡ [] → AreSorted prog c
at_rest prog c all none = changing prog c all (rw none (no_changes prog c.frames))

-- ---- edges

module _ (prog : Program) (bound : ℕ) (c : Config) (sorted : AreSorted prog c) (all : AreComplete prog c) (f : Frame) (rest : List Frame) (here : AreFrames prog (f ∷ rest) []) (to : ℕ) where
  land_sorted : (laps : List Lap) → AreSorted prog (land c f rest to laps)
  land_sorted laps = at_rest prog (land c f rest to laps) (record { consts = all.consts; globals = all.globals; frames = here }) refl

  outside_sorted : (w : Way) → AreSorted prog (land_outside c f rest to w)
  outside_sorted (Enter exit) = land_sorted (record { head = to; exit = exit; count = 0 } ∷ [])
  outside_sorted Again = land_sorted []
  outside_sorted Stay = land_sorted []
  outside_sorted Out = land_sorted []

  inside_sorted : (lap : Lap) (laps : List Lap) (w : Way) (d : Config) → AreSorted prog d → AreSorted prog (land_inside bound c f rest to lap laps w d)
  inside_sorted lap laps Again d k =
      either_way (AreSorted prog) (nat_lt lap.count bound) (land c f rest to (record lap { count = lap.count + 1 } ∷ laps)) (with_status c Cut) (land_sorted (record lap { count = lap.count + 1 } ∷ laps)) (status_sorted prog c Cut sorted)
  inside_sorted lap laps (Enter exit) d k = land_sorted (record { head = to; exit = exit; count = 0 } ∷ lap ∷ laps)
  inside_sorted lap laps Stay d k = land_sorted (lap ∷ laps)
  inside_sorted lap laps Out d k = k

  arrive_sorted : (loops : List SrcLoop) (laps : List Lap) → AreSorted prog (arrive loops bound c f rest to laps)
  arrive_sorted loops [] = outside_sorted (entry_of loops to)
  arrive_sorted loops (lap ∷ laps) = inside_sorted lap laps (way loops lap to) (arrive loops bound c f rest to laps) (arrive_sorted loops laps)

  pub jump_sorted : AreSorted prog (jump prog bound c f rest to)
  jump_sorted = arrive_sorted (loops_of (slice_get prog.procs f.proc)) f.laps

-- ---- a step

-- an assignment's values have the sorts of its targets
pairs_can : (scope : Scope) (env : Env) → HasVariables scope env → (pairs : List (Var × List ExprNode)) → list_all (pair_fits scope) pairs ≡ true → CanWrite scope (map (λ p. p.0) pairs) (map (λ p. eval env p.1) pairs)
pairs_can scope env has [] h = tt
pairs_can scope env has (p ∷ ps) h =
    let (s, e, own) = expr_sorted scope env has (sort_of_target scope p.0) p.1 (and-first (pair_fits scope p) _ h) in
    ((s, e, own), pairs_can scope env has ps (and-second (pair_fits scope p) _ h))

-- the values of a call's arguments have the sorts of the ins
args_sorted : (scope : Scope) (env : Env) → HasVariables scope env → (names : List Named) (args : List (List ExprNode)) (others : List Sort) → args_fit scope names args ≡ true → HaveSorts (map (eval env) args) (sorts_of names ++ others) others
args_sorted scope env has [] [] others h = refl
args_sorted scope env has [] (arg ∷ args) others h = cc
args_sorted scope env has (n ∷ ns) [] others h = cc
args_sorted scope env has (n ∷ ns) (arg ∷ args) others h =
    (expr_has_sort scope env has n.sort arg (and-first (expr_fits scope (Some n.sort) arg) _ h), args_sorted scope env has ns args others (and-second (expr_fits scope (Some n.sort) arg) _ h))

havoc_changes : (scope : Scope) (xs : List Var) → AreChangesIn scope (map (λ x. AVariable x (sort_of_target scope x)) xs)
havoc_changes scope [] = tt
havoc_changes scope (x ∷ xs) = (refl, havoc_changes scope xs)

module _ (prog : Program) (h : is_program prog ≡ true) (bound : ℕ) (c : Config) (sorted : AreSorted prog c) (none : c.wants ≡ []) where
  all : AreComplete prog c
  all = complete prog c sorted (rw none tt)

  stopped : (s : Status) → AreSorted prog (with_status c s)
  stopped s = status_sorted prog c s sorted

  -- the variables of the innermost frame are written, which is at the same command or the next
  put_sorted : (f : Frame) (rest : List Frame) (proc : SrcProc) (s : Store) → slice_get prog.procs f.proc ≡ Some proc → AreCallers prog proc f.outs rest → IsStore (scope_of prog proc) s → AreSorted prog (put c f rest s)
  put_sorted f rest proc s is callers store = at_rest prog (put c f rest s) (record { consts = all.consts; globals = store.globals; frames = (proc, (is, store.locals), callers) }) none

  leave_sorted : (callee : SrcProc) (outs : List Var) (values : List Value) (rest : List Frame) → AreCallers prog callee outs rest → HaveSorts values (sorts_of callee.outs) [] → AreSorted prog (leave c outs values rest)
  leave_sorted callee outs values [] callers have = at_rest prog (leave c outs values []) (record { consts = all.consts; globals = all.globals; frames = refl }) none
  leave_sorted callee outs values (caller ∷ rest) (proc, frame, fit, callers) have =
      put_sorted caller rest proc (write_all (store_of c caller) outs values) frame.0 callers
      (all_written (scope_of prog proc) (store_of c caller) outs values (record { globals = all.globals; locals = frame.1 }) (outs_can (scope_of prog proc) callee.outs outs values fit have))

  module _ (f : Frame) (rest : List Frame) (are : c.frames ≡ f ∷ rest) (proc : SrcProc) (is_proc : slice_get prog.procs f.proc ≡ Some proc) where
    here : AreFrames prog (f ∷ rest) []
    here = rw are at all.frames

    own : IsFrameOf prog f proc [] × AreCallers prog proc f.outs rest
    own =
        let is = here.1.0 in
        let same : here.0 ≡ proc = cc in
        subst (λ (p : SrcProc). IsFrameOf prog f p [] × AreCallers prog p f.outs rest) same (here.1, here.2)

    has : HasVariables (scope_of prog proc) (env_of c f)
    has = has_variables prog c f rest proc all are is_proc

    -- the next command, with the variables as they are
    next_sorted : AreSorted prog (record c { frames = further f ∷ rest })
    next_sorted = at_rest prog (record c { frames = further f ∷ rest }) (record { consts = all.consts; globals = all.globals; frames = here }) none

    call_sorted : (number : ℕ) (o : Option SrcProc) (args : List (List ExprNode)) (outs : List Var) → slice_get prog.procs number ≡ o → call_fits (scope_of prog proc) o args outs ≡ true → AreSorted prog (call bound c f rest number o args outs)
    call_sorted number None args outs e fit = stopped Blocked
    call_sorted number (Some callee) args outs e fit = either_way (AreSorted prog) (nat_lt (open_count number (f ∷ rest)) bound) _ (with_status c Cut) opened (stopped Cut)
      where
        given : HaveSorts (map (eval (env_of c f)) args) (locals_of callee) (sorts_of callee.outs ++ sorts_of callee.locals)
        given = args_sorted (scope_of prog proc) (env_of c f) has callee.ins args (sorts_of callee.outs ++ sorts_of callee.locals) (and-first (args_fit (scope_of prog proc) callee.ins args) _ fit)

        opened : AreSorted prog (record c {
          wants = locals_wanted (sorts_of callee.outs ++ sorts_of callee.locals);
          frames = record { proc = number; block = 0; at = 0; locals = map (eval (env_of c f)) args; laps = []; outs = outs } ∷ further f ∷ rest;
        })
        opened = record {
          missing_consts = [];
          missing_globals = [];
          missing_locals = sorts_of callee.outs ++ sorts_of callee.locals;
          changes = [];
          consts = all.consts;
          globals = all.globals;
          frames = (callee, (e, given), (proc, own.0, and-second (args_fit (scope_of prog proc) callee.ins args) _ fit, own.1));
          are_changes = λ p k. tt;
          wants = sym (append-nil (map ALocal (sorts_of callee.outs ++ sorts_of callee.locals)));
        }

    havoc_sorted : (xs : List Var) → AreSorted prog (command prog bound c proc f rest (Havoc xs))
    havoc_sorted xs = changing prog (command prog bound c proc f rest (Havoc xs)) (record { consts = all.consts; globals = all.globals; frames = here }) in_scope
      where
        in_scope : (p : SrcProc) → slice_get prog.procs f.proc ≡ Some p → AreChangesIn (scope_of prog p) (map (λ x. AVariable x (sort_of_target (scope_of prog proc) x)) xs)
        in_scope p k =
            let same : proc ≡ p = cc in
            subst (λ (q : SrcProc). AreChangesIn (scope_of prog q) (map (λ x. AVariable x (sort_of_target (scope_of prog proc) x)) xs)) same (havoc_changes (scope_of prog proc) xs)

    command_sorted : (cmd : Cmd) → cmd_fits prog.procs (scope_of prog proc) cmd ≡ true → AreSorted prog (command prog bound c proc f rest cmd)
    command_sorted (Assign pairs) fit =
        put_sorted (further f) rest proc _ is_proc own.1
        (all_written (scope_of prog proc) (store_of c f) (map (λ p. p.0) pairs) (map (λ p. eval (env_of c f) p.1) pairs) (record { globals = all.globals; locals = own.0.1 }) (pairs_can (scope_of prog proc) (env_of c f) has pairs fit))
    command_sorted (Havoc xs) fit = havoc_sorted xs
    command_sorted (Assume expr) fit = either_way (AreSorted prog) (holds (env_of c f) expr) (record c { frames = further f ∷ rest }) (with_status c Blocked) next_sorted (stopped Blocked)
    command_sorted (Assert number expr) fit = either_way (AreSorted prog) (holds (env_of c f) expr) (record c { frames = further f ∷ rest }) (with_status c (Failed f.proc number)) next_sorted (stopped (Failed f.proc number))
    command_sorted (Call number args outs) fit = call_sorted number (slice_get prog.procs number) args outs refl fit

    follow_sorted : (next : Next) → AreSorted prog (follow prog bound c proc f rest next)
    follow_sorted Return = leave_sorted proc f.outs (outs_of proc f.locals) rest own.1 (outs_sorted proc f.locals own.0.1)
    follow_sorted (Goto []) = stopped Blocked
    follow_sorted (Goto (to ∷ [])) = jump_sorted prog bound c sorted all f rest here to
    follow_sorted (Goto (to ∷ other ∷ targets)) =
        changing prog (record c { wants = ATarget (to ∷ other ∷ targets) ∷ [] }) (record { consts = all.consts; globals = all.globals; frames = all.frames }) (rw are (λ p k. (tt, tt)))

    at_command_sorted : (block : SrcBlock) → slice_get proc.blocks f.block ≡ Some block → (o : Option Cmd) → slice_get block.cmds f.at ≡ o → AreSorted prog (at_command prog bound c proc f rest block o)
    at_command_sorted block b None k = follow_sorted block.next
    at_command_sorted block b (Some cmd) k = command_sorted cmd (cmd_fits_in prog f.proc f.block f.at proc block cmd h is_proc b k)

    at_block_sorted : (o : Option SrcBlock) → slice_get proc.blocks f.block ≡ o → AreSorted prog (at_block prog bound c proc f rest o)
    at_block_sorted None b = stopped Blocked
    at_block_sorted (Some block) b = at_command_sorted block b (slice_get block.cmds f.at) refl

  at_proc_sorted : (f : Frame) (rest : List Frame) → c.frames ≡ f ∷ rest → (o : Option SrcProc) → slice_get prog.procs f.proc ≡ o → AreSorted prog (at_proc prog bound c f rest o)
  at_proc_sorted f rest are None e = stopped Blocked
  at_proc_sorted f rest are (Some proc) e = at_block_sorted f rest are proc e (slice_get proc.blocks f.block) refl

  at_frames_sorted : (frames : List Frame) → c.frames ≡ frames → AreSorted prog (at_frames prog bound c frames)
  at_frames_sorted [] are = stopped Blocked
  at_frames_sorted (f ∷ rest) are = at_proc_sorted f rest are (slice_get prog.procs f.proc) refl

  -- a step of a run that asks for nothing
  pub tick_sorted : AreSorted prog (tick prog bound c)
  tick_sorted = at_frames_sorted c.frames refl

-- ---- what is asked for first

abbrev wanted : (consts globals locals : List Sort) → List Want → List Want
wanted cs gs ls changes = map AConst cs ++ (map AGlobal gs ++ (map ALocal ls ++ changes))

changes_are : (scope : Scope) (ws : List Want) → AreChangesIn scope ws → AsksForNone ws
changes_are scope [] h = tt
changes_are scope (AConst s ∷ ws) h = h.0
changes_are scope (AGlobal s ∷ ws) h = h.0
changes_are scope (ALocal s ∷ ws) h = h.0
changes_are scope (AVariable x s ∷ ws) h = tt
changes_are scope (ATarget ts ∷ ws) h = tt

changes_no_value : (prog : Program) (frames : List Frame) (missing : List Sort) (ws : List Want) → AreFrames prog frames missing → AreChanges prog frames ws → AsksForNone ws
changes_no_value prog [] missing ws frames h = rw h tt
changes_no_value prog (f ∷ rest) missing ws (proc, frame, callers) h = changes_are (scope_of prog proc) ws (h proc frame.0)

const_first : (cs gs ls : List Sort) (changes ws : List Want) (s : Sort) → AsksForNone changes → AConst s ∷ ws ≡ wanted cs gs ls changes → (later : List Sort) × (cs ≡ s ∷ later) × (ws ≡ wanted later gs ls changes)
const_first (c ∷ cs) gs ls changes ws s n e = (cs, cc, cc)
const_first [] (g ∷ gs) ls changes ws s n e = cc
const_first [] [] (l ∷ ls) changes ws s n e = cc
const_first [] [] [] changes ws s n e = absurd (rw (← e) at n)

global_first : (cs gs ls : List Sort) (changes ws : List Want) (s : Sort) → AsksForNone changes → AGlobal s ∷ ws ≡ wanted cs gs ls changes → (later : List Sort) × (gs ≡ s ∷ later) × (ws ≡ wanted cs later ls changes)
global_first (c ∷ cs) gs ls changes ws s n e = cc
global_first [] (g ∷ gs) ls changes ws s n e = (gs, cc, cc)
global_first [] [] (l ∷ ls) changes ws s n e = cc
global_first [] [] [] changes ws s n e = absurd (rw (← e) at n)

local_first : (cs gs ls : List Sort) (changes ws : List Want) (s : Sort) → AsksForNone changes → ALocal s ∷ ws ≡ wanted cs gs ls changes → (later : List Sort) × (ls ≡ s ∷ later) × (ws ≡ wanted cs gs later changes)
local_first (c ∷ cs) gs ls changes ws s n e = cc
local_first [] (g ∷ gs) ls changes ws s n e = cc
local_first [] [] (l ∷ ls) changes ws s n e = (ls, cc, cc)
local_first [] [] [] changes ws s n e = absurd (rw (← e) at n)

-- ---- a choice

tested_sorted : (prog : Program) (c : Config) (ws : List Want) → AreSorted prog c → AreSorted prog (tested prog c ws)
tested_sorted prog c (AConst s ∷ ws) h = h
tested_sorted prog c [] h = either_way (AreSorted prog) (are_allowed prog c.consts) c (with_status c Blocked) h (status_sorted prog c Blocked h)
tested_sorted prog c (AGlobal s ∷ ws) h = either_way (AreSorted prog) (are_allowed prog c.consts) c (with_status c Blocked) h (status_sorted prog c Blocked h)
tested_sorted prog c (ALocal s ∷ ws) h = either_way (AreSorted prog) (are_allowed prog c.consts) c (with_status c Blocked) h (status_sorted prog c Blocked h)
tested_sorted prog c (AVariable x s ∷ ws) h = either_way (AreSorted prog) (are_allowed prog c.consts) c (with_status c Blocked) h (status_sorted prog c Blocked h)
tested_sorted prog c (ATarget ts ∷ ws) h = either_way (AreSorted prog) (are_allowed prog c.consts) c (with_status c Blocked) h (status_sorted prog c Blocked h)

local_given : (prog : Program) (frames : List Frame) (s : Sort) (missing : List Sort) (v : Value) → AreFrames prog frames (s ∷ missing) → has_sort v s ≡ true → AreFrames prog (with_local v frames) missing
local_given prog [] s missing v h k = cc
local_given prog (f ∷ rest) s missing v (proc, frame, callers) k = (proc, (frame.0, have_push f.locals (locals_of proc) s missing v frame.1 k), callers)

local_changes : (prog : Program) (v : Value) (frames : List Frame) (ws : List Want) → AreChanges prog frames ws → AreChanges prog (with_local v frames) ws
local_changes prog v [] ws h = h
local_changes prog v (f ∷ rest) ws h = h

local_of_innermost : (prog : Program) (frames : List Frame) (s : Sort) (later : List Sort) → AreFrames prog frames (s ∷ later)
    → (f : Frame) × (rest : List Frame) × (proc : SrcProc) × (frames ≡ f ∷ rest) × (slice_get prog.procs f.proc ≡ Some proc) × (slice_get (locals_of proc) (length f.locals) ≡ Some s)
local_of_innermost prog [] s later h = cc
local_of_innermost prog (f ∷ rest) s later (proc, frame, callers) = (f, rest, proc, refl, frame.0, have_next f.locals (locals_of proc) s later frame.1)

target_of_innermost : (prog : Program) (frames : List Frame) (missing : List Sort) (x : Var) (o : Option Sort) (ws : List Want) → AreFrames prog frames missing → AreChanges prog frames (AVariable x o ∷ ws)
    → (f : Frame) × (rest : List Frame) × (proc : SrcProc) × (frames ≡ f ∷ rest) × (slice_get prog.procs f.proc ≡ Some proc) × (o ≡ sort_of_target (scope_of prog proc) x)
target_of_innermost prog [] missing x o ws h changes = cc
target_of_innermost prog (f ∷ rest) missing x o ws (proc, frame, callers) changes = (f, rest, proc, refl, frame.0, (changes proc frame.0).0)

module _ (prog : Program) (c : Config) (sorted : AreSorted prog c) (ws : List Want) where
  no_value : AsksForNone sorted.changes
  no_value = changes_no_value prog c.frames sorted.missing_locals sorted.changes sorted.frames sorted.are_changes

  -- the constants are one more, and not yet tested
  pub const_sorted : (v : Value) (s : Sort) → c.wants ≡ AConst s ∷ ws → has_sort v s ≡ true → AreSorted prog (record c { consts = c.consts ++ v ∷ []; wants = ws })
  const_sorted v s asks k =
      let (later, cs, is) = const_first sorted.missing_consts sorted.missing_globals sorted.missing_locals sorted.changes ws s no_value (rw asks at sorted.wants) in
      let have = rw cs at sorted.consts in
      record {
        missing_consts = later;
        missing_globals = sorted.missing_globals;
        missing_locals = sorted.missing_locals;
        changes = sorted.changes;
        consts = have_push c.consts (sorts_of prog.consts) s later v have k;
        globals = sorted.globals;
        frames = sorted.frames;
        are_changes = sorted.are_changes;
        wants = is;
      }

  pub global_sorted : (v : Value) (s : Sort) → c.wants ≡ AGlobal s ∷ ws → has_sort v s ≡ true → AreSorted prog (record c { globals = c.globals ++ v ∷ []; wants = ws })
  global_sorted v s asks k =
      let (later, gs, is) = global_first sorted.missing_consts sorted.missing_globals sorted.missing_locals sorted.changes ws s no_value (rw asks at sorted.wants) in
      let have = rw gs at sorted.globals in
      record {
        missing_consts = sorted.missing_consts;
        missing_globals = later;
        missing_locals = sorted.missing_locals;
        changes = sorted.changes;
        consts = sorted.consts;
        globals = have_push c.globals (sorts_of prog.globals) s later v have k;
        frames = sorted.frames;
        are_changes = sorted.are_changes;
        wants = is;
      }

  pub local_sorted : (v : Value) (s : Sort) → c.wants ≡ ALocal s ∷ ws → has_sort v s ≡ true → AreSorted prog (record c { wants = ws; frames = with_local v c.frames })
  local_sorted v s asks k =
      let (later, ls, is) = local_first sorted.missing_consts sorted.missing_globals sorted.missing_locals sorted.changes ws s no_value (rw asks at sorted.wants) in
      let have = rw ls at sorted.frames in
      record {
        missing_consts = sorted.missing_consts;
        missing_globals = sorted.missing_globals;
        missing_locals = later;
        changes = sorted.changes;
        consts = sorted.consts;
        globals = sorted.globals;
        frames = local_given prog c.frames s later v have k;
        are_changes = local_changes prog v c.frames sorted.changes sorted.are_changes;
        wants = is;
      }

  -- the sort of the first constant, or of the first global, that has no value
  pub const_next : (s : Sort) → c.wants ≡ AConst s ∷ ws → slice_get (sorts_of prog.consts) (length c.consts) ≡ Some s
  const_next s asks =
      let (later, cs, is) = const_first sorted.missing_consts sorted.missing_globals sorted.missing_locals sorted.changes ws s no_value (rw asks at sorted.wants) in
      have_next c.consts (sorts_of prog.consts) s later (rw cs at sorted.consts)

  pub global_next : (s : Sort) → c.wants ≡ AGlobal s ∷ ws → slice_get (sorts_of prog.globals) (length c.globals) ≡ Some s
  global_next s asks =
      let (later, gs, is) = global_first sorted.missing_consts sorted.missing_globals sorted.missing_locals sorted.changes ws s no_value (rw asks at sorted.wants) in
      have_next c.globals (sorts_of prog.globals) s later (rw gs at sorted.globals)

  -- the first local of the innermost frame that has no value
  pub local_next : (s : Sort) → c.wants ≡ ALocal s ∷ ws
      → (f : Frame) × (rest : List Frame) × (proc : SrcProc) × (c.frames ≡ f ∷ rest) × (slice_get prog.procs f.proc ≡ Some proc) × (slice_get (locals_of proc) (length f.locals) ≡ Some s)
  local_next s asks =
      let (later, ls, is) = local_first sorted.missing_consts sorted.missing_globals sorted.missing_locals sorted.changes ws s no_value (rw asks at sorted.wants) in
      local_of_innermost prog c.frames s later (rw ls at sorted.frames)

  changes_next : (x : Var) (o : Option Sort) → c.wants ≡ AVariable x o ∷ ws → sorted.changes ≡ AVariable x o ∷ ws
  changes_next x o asks = first_is sorted.missing_consts sorted.missing_globals sorted.missing_locals (rw asks at sorted.wants)
    where
      first_is : (cs gs ls : List Sort) → AVariable x o ∷ ws ≡ wanted cs gs ls sorted.changes → sorted.changes ≡ AVariable x o ∷ ws
      first_is (t ∷ cs) gs ls e = cc
      first_is [] (g ∷ gs) ls e = cc
      first_is [] [] (l ∷ ls) e = cc
      first_is [] [] [] e = sym e

  -- a variable that the innermost frame sees, with its sort
  pub variable_next : (x : Var) (o : Option Sort) → c.wants ≡ AVariable x o ∷ ws
      → (f : Frame) × (rest : List Frame) × (proc : SrcProc) × (c.frames ≡ f ∷ rest) × (slice_get prog.procs f.proc ≡ Some proc) × (o ≡ sort_of_target (scope_of prog proc) x)
  variable_next x o asks = target_of_innermost prog c.frames sorted.missing_locals x o ws sorted.frames (rw (changes_next x o asks) at sorted.are_changes)

  -- a variable is written, and the others are still asked for
  pub variable_sorted : (x : Var) (v : Value) (s : Sort) (o : Option Sort) → o ≡ Some s → c.wants ≡ AVariable x o ∷ ws → has_sort v s ≡ true → AreSorted prog (with_variable (record c { wants = ws }) x v c.frames)
  variable_sorted x v s o is asks k = at c.frames refl
    where
      all : AreComplete prog c
      all = complete prog c sorted (rw asks tt)

      changes : AreChanges prog c.frames (AVariable x o ∷ ws)
      changes = rw (changes_next x o asks) at sorted.are_changes

      at : (frames : List Frame) → c.frames ≡ frames → AreSorted prog (with_variable (record c { wants = ws }) x v frames)
      at [] are = let no = rw are at changes in cc
      at (f ∷ rest) are = changing prog (put (record c { wants = ws }) f rest (write (store_of c f) x v)) (record { consts = all.consts; globals = store.globals; frames = (proc, (is_proc, store.locals), here.2) }) (λ p e. (seen p e).1)
        where
          here : AreFrames prog (f ∷ rest) []
          here = rw are at all.frames

          proc : SrcProc
          proc = here.0

          is_proc : slice_get prog.procs f.proc ≡ Some proc
          is_proc = here.1.0

          seen : AreChanges prog (f ∷ rest) (AVariable x o ∷ ws)
          seen = rw are at changes

          store : IsStore (scope_of prog proc) (write (store_of c f) x v)
          store = written (scope_of prog proc) (store_of c f) x v s (record { globals = all.globals; locals = here.1.1 }) (sym (seen proc is_proc).0 ∙ is) k

go_to_sorted : (prog : Program) (bound : ℕ) (c : Config) (index : ℕ) → AreSorted prog c → AreComplete prog c → (frames : List Frame) → c.frames ≡ frames → (o : Option ℕ) → AreSorted prog (go_to prog bound c index frames o)
go_to_sorted prog bound c index sorted all frames are None = status_sorted prog c (BadChoice index) sorted
go_to_sorted prog bound c index sorted all [] are (Some to) = status_sorted prog c Blocked sorted
go_to_sorted prog bound c index sorted all (f ∷ rest) are (Some to) = jump_sorted prog bound c sorted all f rest (rw are at all.frames) to

-- any choice, also one that is bad
pub choice_sorted : (prog : Program) (bound : ℕ) (c : Config) (index : ℕ) (w : Want) (ws : List Want) (x : Choice) → c.wants ≡ w ∷ ws → AreSorted prog c → AreSorted prog (take_choice prog bound c index w ws x)
choice_sorted prog bound c index w ws x asks sorted = at w x asks
  where
    no : AreSorted prog (bad index c)
    no = status_sorted prog c (BadChoice index) sorted

    where_sorted : (b : Bool) (d : Config) → (b ≡ true → AreSorted prog d) → AreSorted prog (if b then d else bad index c)
    where_sorted true d k = k refl
    where_sorted false d k = no

    at : (w : Want) (x : Choice) → c.wants ≡ w ∷ ws → AreSorted prog (take_choice prog bound c index w ws x)
    at (AConst s) (Val v) asks = where_sorted (has_sort v s) _ (λ k. tested_sorted prog (record c { consts = c.consts ++ v ∷ []; wants = ws }) ws (const_sorted prog c sorted ws v s asks k))
    at (AGlobal s) (Val v) asks = where_sorted (has_sort v s) _ (λ k. global_sorted prog c sorted ws v s asks k)
    at (ALocal s) (Val v) asks = where_sorted (has_sort v s) _ (λ k. local_sorted prog c sorted ws v s asks k)
    at (AVariable y None) (Val v) asks = no
    at (AVariable y (Some s)) (Val v) asks = where_sorted (has_sort v s) _ (λ k. variable_sorted prog c sorted ws y v s (Some s) refl asks k)
    at (ATarget ts) (Val v) asks = no
    at (AConst s) (Go place) asks = no
    at (AGlobal s) (Go place) asks = no
    at (ALocal s) (Go place) asks = no
    at (AVariable y s) (Go place) asks = no
    at (ATarget ts) (Go place) asks = go_to_sorted prog bound c index sorted (complete prog c sorted (rw asks tt)) c.frames refl (slice_get ts place)

-- ---- the begin

pub begin_sorted : (prog : Program) (entry : ℕ) (proc : SrcProc) → slice_get prog.procs entry ≡ Some proc → AreSorted prog (begin prog entry)
begin_sorted prog entry proc e = rw e (tested_sorted prog (record { status = Going; consts = []; globals = []; wants = wants_of prog proc; frames = first_frame entry ∷ [] }) (wants_of prog proc) first)
  where
    first : AreSorted prog (record { status = Going; consts = []; globals = []; wants = wants_of prog proc; frames = first_frame entry ∷ [] })
    first = record {
      missing_consts = sorts_of prog.consts;
      missing_globals = sorts_of prog.globals;
      missing_locals = locals_of proc;
      changes = [];
      consts = refl;
      globals = refl;
      frames = (proc, (e, refl), tt);
      are_changes = λ p k. tt;
      wants = ap (λ ls. map AConst (sorts_of prog.consts) ++ (map AGlobal (sorts_of prog.globals) ++ ls)) (sym (append-nil (map ALocal (locals_of proc))));
    }

-- an entry that is there
pub entry_sorted : (prog : Program) (entry : ℕ) → entry < length prog.procs → AreSorted prog (begin prog entry)
entry_sorted prog entry within = at (slice_get prog.procs entry) refl
  where
    at : (o : Option SrcProc) → slice_get prog.procs entry ≡ o → AreSorted prog (begin prog entry)
    at None e = absurd (some_within prog.procs entry within e)
    at (Some proc) e = begin_sorted prog entry proc e

-- ---- a turn

-- so it is where the run stands or goes on
abbrev pub IsSortedTurn : Program → Turn → Type 0
IsSortedTurn prog (Stands c) = AreSorted prog c
IsSortedTurn prog (GoesOn index c choices) = AreSorted prog c

over_sorted : (prog : Program) (index : ℕ) (c : Config) (choices : List Choice) → AreSorted prog c → IsSortedTurn prog (over index c choices)
over_sorted prog index c [] h = h
over_sorted prog index c (x ∷ xs) h = status_sorted prog c (BadChoice index) h

going_sorted : (prog : Program) → is_program prog ≡ true → (bound index : ℕ) (c : Config) (ws : List Want) (choices : List Choice) → c.wants ≡ ws → AreSorted prog c → IsSortedTurn prog (going prog bound index c ws choices)
going_sorted prog h bound index c [] choices asks sorted = tick_sorted prog h bound c sorted asks
going_sorted prog h bound index c (w ∷ ws) [] asks sorted = sorted
going_sorted prog h bound index c (w ∷ ws) (x ∷ xs) asks sorted = choice_sorted prog bound c index w ws x asks sorted

pub turn_sorted : (prog : Program) → is_program prog ≡ true → (bound index : ℕ) (c : Config) (s : Status) (choices : List Choice) → AreSorted prog c → IsSortedTurn prog (turn prog bound index c s choices)
turn_sorted prog h bound index c Going choices sorted = going_sorted prog h bound index c c.wants choices refl sorted
turn_sorted prog h bound index c Ended choices sorted = over_sorted prog index c choices sorted
turn_sorted prog h bound index c (Failed p n) choices sorted = over_sorted prog index c choices sorted
turn_sorted prog h bound index c Blocked choices sorted = over_sorted prog index c choices sorted
turn_sorted prog h bound index c Cut choices sorted = over_sorted prog index c choices sorted
turn_sorted prog h bound index c (BadChoice i) choices sorted = sorted
