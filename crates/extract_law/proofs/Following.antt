-- A run tree of the flat program is a run of the machine on its choices.
use Rattle.std.proofs.Common.{◌≡◌, ℕ, ◌<◌, Bool, true, false, if◌then◌else◌, List, [], ◌∷◌, ◌++◌, map, length, take, drop, sym, ◌∙◌, ap, refl, subst, append_assoc}
use Rattle.std.proofs.lemmas.List.{append-nil, append_cancel_left, length-map}
use Rattle.std.specs.Prelude.{Option, None, Some, slice_get, nat_lt}
use Rattle.hy_val.specs.Exprs.{eval}
use Rattle.hy_val.specs.declared.expr.ExprNode.{ExprNode}
use Rattle.hy_val.specs.declared.expr.Var.{Var}
use Rattle.hy_val.specs.declared.value.Value.{Value}
use Rattle.src_prog.specs.Scope.{sorts_of, locals_of, args_fit, targets_fit, call_fits}
use Rattle.src_prog.specs.Shape.{scope_of}
use Rattle.src_prog.specs.declared.block.Cmd.{Cmd}
use Rattle.src_prog.specs.declared.block.Cmd.TheVariants.{Assign, Havoc, Assume, Assert, Call}
use Rattle.src_prog.specs.declared.proc.SrcProc.{SrcProc}
use Rattle.hy_val.proofs.Booleans.{and-second}
use Rattle.src_run.proofs.Sorted.{complete, has_variables, assume_reads, assert_reads, assign_reads, call_reads}
use Rattle.src_run.specs.declared.machine.Choice.{Choice}
use Rattle.src_run.specs.declared.machine.Choice.TheVariants.{Val}
use Rattle.src_run.specs.declared.machine.Status.TheVariants.{Blocked, Cut, Failed}
use Rattle.src_run.specs.Machine.{Config, Frame, Lap, leave, locals_wanted, open_count, command, call, with_status}
use Rattle.hy_val.specs.Stores.{Store, write_all, holds}
use Rattle.src_run.specs.Sorted.{AreSorted, HasVariables}
use Rattle.flat_prog.proofs.Capping.{choose_some, tail_calls}
use Rattle.flat_prog.specs.Program as flat_program
use Rattle.flat_prog.specs.Caps.{kind_of, may_follow}
use Rattle.flat_prog.specs.Local.{Result, Ended, Broken, Request, State, request, exit_value, can_come_back, come_back, call_fails, assert_fails, pass, havoc, Tail}
use Rattle.hy_val.specs.Stores.{env_with}
use Rattle.flat_prog.specs.declared.block.FlatCmd.{FlatCmd}
use Rattle.extract_law.proofs.Adding.{have_length}
use Rattle.extract_law.proofs.Arriving.{begin_at}
use Rattle.extract_law.proofs.Commands.{drop_cons, tick_at, spot_on, fits_at, scope_moved, targets_within, outs_within, times_open, callee_frame}
use Rattle.extract_def.proofs.Facts.{Inside, Seen, IsEdge, Leaves}
use Rattle.extract_law.proofs.Failing.{World, going, wanting}
use Rattle.extract_law.proofs.Leading.{FailsOn, Leads, leads_trans, leads_tick, havoc_leads}
use Rattle.extract_law.proofs.Moving.{wide, widen, moved_holds, moved_values, moved_pairs_values, moved_targets, moved_writes, moved_havoc}
use Rattle.extract_law.proofs.Spots.{Setting, out_of, scope_at, AreAround, passed_at, here_at, IsStore, store_is, From, proceed, Spot, IsSpot, frame_at, config_at, one_further, code_of, spot_cmds, next_at}
use Rattle.extract_law.proofs.Tails.{TailHead, passes, breaks, tail_head, choices_cons, nothing_left, option_map_some}
use Rattle.extract_law.specs.Choices.{first_list, other_lists, own_choices, values_behind, lists_behind, cmds_choices, path_choices}
use Rattle.extract_def.specs.declared.edge.Dest.{Dest}
use Rattle.extract_def.specs.Extraction.{number_of}
use Rattle.extract_def.specs.Places.{exit_of}
use Rattle.extract_def.specs.Renaming.{behind, moved, moved_cmd}
use Rattle.extract_def.specs.declared.scope.Scope.TheVariants.{In}

-- ---- how a flat run is over, in the machine

-- the machine leaves the loop by this edge, with these variables
pub record Leaving (v : Setting) (consts : List Value) (c : Config) (xs : List Choice) (p : ℕ) (q : SrcProc) (head exit : ℕ) (laps : List Lap) (outs : List Var) (frames : List Frame) (os gs : List Value) : Type 0 where
  pub after : Store
  pub b : ℕ
  pub place : ℕ
  pub dest : Dest
  pub edge : IsEdge q b place dest
  pub seen : Seen q (In head exit) b dest
  pub outward : Leaves head exit dest
  pub sorted : IsStore v.w.prog q after
  pub outs_are : os ≡ after.locals ++ exit_value (exit_of q (In head exit) b place) ∷ []
  pub globals_are : gs ≡ after.globals
  pub from : From
  pub leads : Leads v.w c xs (proceed v from consts p q laps outs frames after dest)

abbrev pub Finishes : Setting → List Value → Config → List Choice → ℕ → SrcProc → List Lap → List Var → List Frame → Result → Type 0
Finishes v consts c xs p q [] outs frames (Ended os gs) = Leads v.w c xs (leave (going consts gs []) outs os frames)
Finishes v consts c xs p q [] outs frames (Broken a n) = FailsOn v.w c xs a n
Finishes v consts c xs p q (t ∷ ts) outs frames (Ended os gs) = Leaving v consts c xs p q t.head t.exit ts outs frames os gs
Finishes v consts c xs p q (t ∷ ts) outs frames (Broken a n) = FailsOn v.w c xs a n

pub fails_of : (v : Setting) (consts : List Value) (c : Config) (xs : List Choice) (p : ℕ) (q : SrcProc) (laps : List Lap) (outs : List Var) (frames : List Frame) (a n : ℕ) → FailsOn v.w c xs a n → Finishes v consts c xs p q laps outs frames (Broken a n)
fails_of v consts c xs p q [] outs frames a n h = h
fails_of v consts c xs p q (t ∷ ts) outs frames a n h = h

pub of_fails : (v : Setting) (consts : List Value) (c : Config) (xs : List Choice) (p : ℕ) (q : SrcProc) (laps : List Lap) (outs : List Var) (frames : List Frame) (a n : ℕ) → Finishes v consts c xs p q laps outs frames (Broken a n) → FailsOn v.w c xs a n
of_fails v consts c xs p q [] outs frames a n h = h
of_fails v consts c xs p q (t ∷ ts) outs frames a n h = h

pub finishes_after : (v : Setting) (consts : List Value) (c d : Config) (xs ys : List Choice) (p : ℕ) (q : SrcProc) (laps : List Lap) (outs : List Var) (frames : List Frame) (r : Result) → Leads v.w c xs d → Finishes v consts d ys p q laps outs frames r → Finishes v consts c (xs ++ ys) p q laps outs frames r
finishes_after v consts c d xs ys p q [] outs frames (Ended os gs) a h = leads_trans v.w c d (leave (going consts gs []) outs os frames) xs ys a h
finishes_after v consts c d xs ys p q [] outs frames (Broken m n) a h = a.fails ys m n h
finishes_after v consts c d xs ys p q (t ∷ ts) outs frames (Ended os gs) a h = record {
  after = h.after;
  b = h.b;
  place = h.place;
  dest = h.dest;
  edge = h.edge;
  seen = h.seen;
  outward = h.outward;
  sorted = h.sorted;
  outs_are = h.outs_are;
  globals_are = h.globals_are;
  from = h.from;
  leads = leads_trans v.w c d (proceed v h.from consts p q ts outs frames h.after h.dest) xs ys a h.leads;
}
finishes_after v consts c d xs ys p q (t ∷ ts) outs frames (Broken m n) a h = a.fails ys m n h

-- ---- runs below calls

-- From the opening of a call on, these choices finish the callee: a source procedure, or a loop from its head on.
pub record Led (v : Setting) (consts : List Value) (xs : List Choice) (call : Request) (result : Result) (passed : List ℕ) : Type 0 where
  pub seldom : may_follow v.w.bound (kind_of (slice_get (out_of v).procs call.proc)) call.proc passed ≡ true
  pub source : (q : SrcProc) (outs : List Var) (frames : List Frame) → slice_get v.w.prog.procs call.proc ≡ Some q → passed_at v.w.prog frames ≡ passed →
      AreSorted v.w.prog (wanting consts call.globals (locals_wanted (sorts_of q.outs ++ sorts_of q.locals)) (record { proc = call.proc; block = 0; at = 0; locals = call.args; laps = []; outs = outs } ∷ frames)) →
      Finishes v consts (wanting consts call.globals (locals_wanted (sorts_of q.outs ++ sorts_of q.locals)) (record { proc = call.proc; block = 0; at = 0; locals = call.args; laps = []; outs = outs } ∷ frames)) xs call.proc q [] outs frames result
  pub loop : (p : ℕ) (q : SrcProc) (head exit count : ℕ) (ts : List Lap) (outs : List Var) (frames : List Frame) → slice_get v.w.prog.procs p ≡ Some q → call.proc ≡ number_of v.w.prog p (In head exit) → Inside q (In head exit) head →
      AreAround q (record { head = head; exit = exit; count = count } ∷ ts) → call.proc ∷ passed ≡ here_at v p (record { head = head; exit = exit; count = count } ∷ ts) frames →
      AreSorted v.w.prog (begin_at consts (record { globals = call.globals; locals = call.args }) p outs frames head (record { head = head; exit = exit; count = count } ∷ ts)) →
      Finishes v consts (begin_at consts (record { globals = call.globals; locals = call.args }) p outs frames head (record { head = head; exit = exit; count = count } ∷ ts)) xs p q (record { head = head; exit = exit; count = count } ∷ ts) outs frames result

abbrev pub AllLed : Setting → List Value → List ℕ → List (List Choice) → List Request → List Result → Type 0
AllLed v consts passed [] [] [] = Unit {0}
AllLed v consts passed (xs ∷ lists) (call ∷ calls) (result ∷ results) = Led v consts xs call result passed × AllLed v consts passed lists calls results
AllLed v consts passed lists calls results = ⊥

-- the first call that is left, and its run
pub record FirstLed (v : Setting) (consts : List Value) (passed : List ℕ) (lists : List (List Choice)) (calls : List Request) (result : Result) (results : List Result) : Type 0 where
  pub xs : List Choice
  pub call : Request
  pub other : List Request
  pub calls_are : calls ≡ call ∷ other
  pub firsts : first_list lists ≡ xs
  pub led : Led v consts xs call result passed
  pub others : AllLed v consts passed (other_lists lists) other results

pub first_led : (v : Setting) (consts : List Value) (passed : List ℕ) (lists : List (List Choice)) (calls : List Request) (result : Result) (results all : List Result) → all ≡ result ∷ results → AllLed v consts passed lists calls all → FirstLed v consts passed lists calls result results
first_led v consts passed [] [] result results [] e k = absurd cc
first_led v consts passed [] [] result results (r ∷ all) e k = absurd k
first_led v consts passed [] (call ∷ calls) result results all e k = absurd k
first_led v consts passed (xs ∷ lists) [] result results all e k = absurd k
first_led v consts passed (xs ∷ lists) (call ∷ calls) result results [] e k = absurd cc
first_led v consts passed (xs ∷ lists) (call ∷ calls) result results (r ∷ all) e k =
    let a : r ≡ result = cc in let b : all ≡ results = cc in
    record { xs = xs; call = call; other = calls; calls_are = refl; firsts = refl; led = subst (λ z. Led v consts xs call z passed) a k.0; others = subst (λ zs. AllLed v consts passed lists calls zs) b k.1 }

pub none_led : (v : Setting) (consts : List Value) (passed : List ℕ) (lists : List (List Choice)) (calls : List Request) (results : List Result) → results ≡ [] → AllLed v consts passed lists calls results → lists ≡ []
none_led v consts passed [] calls results e k = refl
none_led v consts passed (xs ∷ lists) [] results e k = absurd k
none_led v consts passed (xs ∷ lists) (call ∷ calls) [] e k = absurd k
none_led v consts passed (xs ∷ lists) (call ∷ calls) (r ∷ results) e k = absurd cc

-- the first call is the one that is made
pub same_call : (had : List Request) (call req : Request) (other more total : List Request) → had ++ call ∷ other ≡ total → total ≡ (had ++ req ∷ []) ++ more → call ≡ req
same_call had call req other more total e h =
    let k = append_cancel_left had (call ∷ other) (req ∷ more) (e ∙ (h ∙ append_assoc had (req ∷ []) more)) in cc

-- ---- what is to be shown

abbrev pub flat_state : Spot → Store → List Value → List Result → List Request → State
flat_state s store values results had = record { store = wide s.before s.others store; values = values; results = results; calls = had }

-- from a spot on
abbrev pub SpotRuns : Setting → ℕ → Type 0
SpotRuns v m = (consts : List Value) (path places : List ℕ) (s : Spot) (cmds : List Cmd) (store : Store) (values : List Value) (results : List Result) (had calls total : List Request) (lists : List (List Choice)) (r : Result) →
    length path < m → IsSpot v s cmds → AreSorted v.w.prog (config_at s consts store) →
    Tail (out_of v) (code_of v s.proc s.q s.laps) consts path places (spot_cmds v s cmds) (next_at s) (flat_state s store values results had) total r → AllLed v consts (here_at v s.proc s.laps s.frames) lists calls results → had ++ calls ≡ total →
    Finishes v consts (config_at s consts store) (path_choices (out_of v) (code_of v s.proc s.q s.laps).blocks true path places (spot_cmds v s cmds) (next_at s) values lists) s.proc s.q s.laps s.outs s.frames r

-- with one command less
abbrev pub CmdsRun : Setting → ℕ → List Cmd → Type 0
CmdsRun v m cmds = (consts : List Value) (path places : List ℕ) (s : Spot) (store : Store) (values : List Value) (results : List Result) (had calls total : List Request) (lists : List (List Choice)) (r : Result) →
    length path < m → IsSpot v s cmds → AreSorted v.w.prog (config_at s consts store) →
    Tail (out_of v) (code_of v s.proc s.q s.laps) consts path places (spot_cmds v s cmds) (next_at s) (flat_state s store values results had) total r → AllLed v consts (here_at v s.proc s.laps s.frames) lists calls results → had ++ calls ≡ total →
    Finishes v consts (config_at s consts store) (path_choices (out_of v) (code_of v s.proc s.q s.laps).blocks true path places (spot_cmds v s cmds) (next_at s) values lists) s.proc s.q s.laps s.outs s.frames r

-- ---- commands

tick_lead : (v : Setting) (consts : List Value) (s : Spot) (store : Store) (c : Cmd) (cmds : List Cmd) (d : Config) → IsSpot v s (c ∷ cmds) → command v.w.prog v.w.bound (config_at s consts store) s.q (frame_at s store.locals) s.frames c ≡ d → Leads v.w (config_at s consts store) [] d
tick_lead v consts s store c cmds d i e =
    leads_tick v.w consts store.globals (frame_at s store.locals ∷ s.frames) d (tick_at v consts s (c ∷ cmds) store (Some c) i (drop_cons s.at s.b.cmds c cmds i.left).0 ∙ e)

pub variables : (v : Setting) (consts : List Value) (s : Spot) (cmds : List Cmd) (store : Store) → IsSpot v s cmds → AreSorted v.w.prog (config_at s consts store) → HasVariables (scope_of v.w.prog s.q) (env_with consts store)
variables v consts s cmds store i sorted = has_variables v.w.prog (config_at s consts store) (frame_at s store.locals) s.frames s.q (complete v.w.prog (config_at s consts store) sorted tt) refl i.proc_is

-- the run goes on behind a command that holds
command_runs : (v : Setting) (m : ℕ) (c : Cmd) (cmds : List Cmd) → CmdsRun v m cmds → (consts : List Value) (path places : List ℕ) (s : Spot) (store after : Store) (values others : List Value) (results : List Result) (had calls total : List Request) (lists : List (List Choice)) (u : State) (xs : List Choice) (r : Result) →
    length path < m → IsSpot v s (c ∷ cmds) → AreSorted v.w.prog (config_at s consts store) →
    Tail (out_of v) (code_of v s.proc s.q s.laps) consts path places (spot_cmds v s cmds) (next_at s) u total r → u ≡ flat_state s after others results had →
    AllLed v consts (here_at v s.proc s.laps s.frames) (lists_behind (moved_cmd s.proc (length s.before) c) lists) calls results → had ++ calls ≡ total →
    own_choices (moved_cmd s.proc (length s.before) c) values lists ≡ xs → values_behind (moved_cmd s.proc (length s.before) c) values ≡ others →
    Leads v.w (config_at s consts store) xs (config_at (one_further s) consts after) →
    Finishes v consts (config_at s consts store) (path_choices (out_of v) (code_of v s.proc s.q s.laps).blocks true path places (spot_cmds v s (c ∷ cmds)) (next_at s) values lists) s.proc s.q s.laps s.outs s.frames r
command_runs v m c cmds ih consts path places s store after values others results had calls total lists u xs r lt i sorted tail u_is led adds own behind_is leads =
    let code = code_of v s.proc s.q s.laps in
    let c' = moved_cmd s.proc (length s.before) c in
    let rest = path_choices (out_of v) code.blocks true path places (spot_cmds v s cmds) (next_at s) others (lists_behind c' lists) in
    let k = ih consts path places (one_further s) after others results had calls total (lists_behind c' lists) r lt (spot_on v s c cmds i) (leads.sorted sorted)
    (subst (λ (t : State). Tail (out_of v) code consts path places (spot_cmds v s cmds) (next_at s) t total r) u_is tail) led adds in
    let all = finishes_after v consts (config_at s consts store) (config_at (one_further s) consts after) xs rest s.proc s.q s.laps s.outs s.frames r leads k in
    subst (λ ys. Finishes v consts (config_at s consts store) ys s.proc s.q s.laps s.outs s.frames r)
    (ap (λ ys. ys ++ rest) (sym own)
    ∙ (ap (λ vs. own_choices c' values lists ++ path_choices (out_of v) code.blocks true path places (spot_cmds v s cmds) (next_at s) vs (lists_behind c' lists)) (sym behind_is)
    ∙ sym (choices_cons (out_of v) code.blocks true path places c' (spot_cmds v s cmds) (next_at s) values lists))) all

-- it fails
breaks_to : (v : Setting) (consts : List Value) (path places : List ℕ) (s : Spot) (cmds : List FlatCmd) (store : Store) (values : List Value) (lists : List (List Choice)) (p n : ℕ) (r : Result) → path ≡ [] → places ≡ [] → r ≡ Broken p n → values ≡ [] →
    FailsOn v.w (config_at s consts store) (cmds_choices cmds [] lists) p n →
    Finishes v consts (config_at s consts store) (path_choices (out_of v) (code_of v s.proc s.q s.laps).blocks true path places cmds (next_at s) values lists) s.proc s.q s.laps s.outs s.frames r
breaks_to v consts path places s cmds store values lists p n r a b c d h =
    let blocks = (code_of v s.proc s.q s.laps).blocks in
    subst (λ z. Finishes v consts (config_at s consts store) (path_choices (out_of v) blocks true path places cmds (next_at s) values lists) s.proc s.q s.laps s.outs s.frames z) (sym c)
    (fails_of v consts (config_at s consts store) (path_choices (out_of v) blocks true path places cmds (next_at s) values lists) s.proc s.q s.laps s.outs s.frames p n
    (subst (λ z. FailsOn v.w (config_at s consts store) (path_choices (out_of v) blocks true z places cmds (next_at s) values lists) p n) (sym a)
    (subst (λ z. FailsOn v.w (config_at s consts store) (cmds_choices cmds z lists) p n) (sym d) h)))

failed_now : (w : World) (c : Config) (p n : ℕ) → FailsOn w (with_status c (Failed p n)) [] p n
failed_now w c p n index = record { turns = 1; last = with_status c (Failed p n); runs = refl; is = refl }

run_assign : (v : Setting) (m : ℕ) (pairs : List (Var × List ExprNode)) (cmds : List Cmd) → CmdsRun v m cmds → CmdsRun v m (Assign pairs ∷ cmds)
run_assign v m pairs cmds ih consts path places s store values results had calls total lists r lt i sorted tail led adds =
    at (tail_head (out_of v) (code_of v s.proc s.q s.laps) consts path places (moved_cmd s.proc (length s.before) (Assign pairs)) (spot_cmds v s cmds) (next_at s) (flat_state s store values results had) total r tail)
  where
    after : Store
    after = write_all store (map (λ (p : Var × List ExprNode). p.0) pairs) (map (λ (p : Var × List ExprNode). eval (env_with consts store) p.1) pairs)

    law : pass (out_of v) (code_of v s.proc s.q s.laps) consts (moved_cmd s.proc (length s.before) (Assign pairs)) (flat_state s store values results had) ≡ Some (flat_state s after values results had)
    law =
        let has = variables v consts s (Assign pairs ∷ cmds) store i sorted in
        let scope = scope_of v.w.prog s.q in
        let fits = fits_at v s (Assign pairs) cmds i in
        let xs = map (λ (p : Var × List ExprNode). p.0) pairs in
        let vs0 = map (λ (p : Var × List ExprNode). eval (env_with consts store) p.1) pairs in
        let wider = wide s.before s.others store in
        let move = scope_moved v s.proc s.q (scope_at s.laps) (length s.before) i.before_is in
        let within = targets_within scope (flat_program.scope_of (out_of v) (code_of v s.proc s.q s.laps)) (env_with consts store) has (length s.before) move pairs fits in
        let long = have_length store.locals (locals_of s.q) (store_is v s.q consts store has).locals in
        let values_are = moved_pairs_values consts s.before s.others store pairs (assign_reads scope (env_with consts store) has v.w.prog.procs pairs fits) in
        let targets_are = moved_targets (length s.before) pairs in
        let after_is = moved_writes s.before s.others (length (locals_of s.q)) xs store vs0 long within in
        ap (λ (ws : List Value). Some (record { store = write_all wider (map (λ (p : Var × List ExprNode). p.0) (map (λ (p : Var × List ExprNode). (behind (length s.before) p.0, moved (length s.before) p.1)) pairs)) ws; values = values; results = results; calls = had })) values_are
        ∙ (ap (λ (ys : List Var). Some (record { store = write_all wider ys vs0; values = values; results = results; calls = had })) targets_are
        ∙ ap (λ (t : Store). Some (record { store = t; values = values; results = results; calls = had })) after_is)

    at : TailHead (out_of v) (code_of v s.proc s.q s.laps) consts path places (moved_cmd s.proc (length s.before) (Assign pairs)) (spot_cmds v s cmds) (next_at s) (flat_state s store values results had) total r →
        Finishes v consts (config_at s consts store) (path_choices (out_of v) (code_of v s.proc s.q s.laps).blocks true path places (spot_cmds v s (Assign pairs ∷ cmds)) (next_at s) values lists) s.proc s.q s.laps s.outs s.frames r
    at (passes u h k) =
        let z : Some u ≡ Some (flat_state s after values results had) = sym h ∙ law in
        let y : u ≡ flat_state s after values results had = cc in
        command_runs v m (Assign pairs) cmds ih consts path places s store after values values results had calls total lists u [] r lt i sorted k y led adds refl refl (tick_lead v consts s store (Assign pairs) cmds (config_at (one_further s) consts after) i refl)
    at (breaks p n a b c f g) = absurd cc

run_havoc : (v : Setting) (m : ℕ) (xs : List Var) (cmds : List Cmd) → CmdsRun v m cmds → CmdsRun v m (Havoc xs ∷ cmds)
run_havoc v m xs cmds ih consts path places s store values results had calls total lists r lt i sorted tail led adds =
    at (tail_head (out_of v) (code_of v s.proc s.q s.laps) consts path places (moved_cmd s.proc (length s.before) (Havoc xs)) (spot_cmds v s cmds) (next_at s) (flat_state s store values results had) total r tail)
  where
    old : State
    old = record { store = store; values = values; results = results; calls = had }

    at : TailHead (out_of v) (code_of v s.proc s.q s.laps) consts path places (moved_cmd s.proc (length s.before) (Havoc xs)) (spot_cmds v s cmds) (next_at s) (flat_state s store values results had) total r →
        Finishes v consts (config_at s consts store) (path_choices (out_of v) (code_of v s.proc s.q s.laps).blocks true path places (spot_cmds v s (Havoc xs ∷ cmds)) (next_at s) values lists) s.proc s.q s.laps s.outs s.frames r
    at (passes u h k) =
        let has = variables v consts s (Havoc xs ∷ cmds) store i sorted in
        let scope = scope_of v.w.prog s.q in
        let long = have_length store.locals (locals_of s.q) (store_is v s.q consts store has).locals in
        let move = scope_moved v s.proc s.q (scope_at s.laps) (length s.before) i.before_is in
        let law = moved_havoc s.before s.others scope (flat_program.scope_of (out_of v) (code_of v s.proc s.q s.laps)) xs old move (fits_at v s (Havoc xs) cmds i) long in
        let some = option_map_some (widen s.before s.others) (havoc scope xs old) u (sym law ∙ h) in
        let t = some.0 in
        let l = havoc_leads v.w scope xs consts old t (frame_at (one_further s) store.locals) s.frames some.1 in
        let y : u ≡ flat_state s t.store t.values results had =
        sym some.2 ∙ (ap (λ (rs : List Result). record { store = wide s.before s.others t.store; values = t.values; results = rs; calls = t.calls }) l.results_are
        ∙ ap (λ (cs : List Request). record { store = wide s.before s.others t.store; values = t.values; results = results; calls = cs }) l.calls_are) in
        let count = length-map xs (behind (length s.before)) in
        command_runs v m (Havoc xs) cmds ih consts path places s store t.store values t.values results had calls total lists u (map Val (take (length xs) values)) r lt i sorted k y led adds
        (ap (λ n. map Val (take n values)) count) (ap (λ n. drop n values) count ∙ sym l.values_are)
        (leads_trans v.w (config_at s consts store) (command v.w.prog v.w.bound (config_at s consts store) s.q (frame_at s store.locals) s.frames (Havoc xs)) (config_at (one_further s) consts t.store) [] (map Val (take (length xs) values))
        (tick_lead v consts s store (Havoc xs) cmds (command v.w.prog v.w.bound (config_at s consts store) s.q (frame_at s store.locals) s.frames (Havoc xs)) i refl) l.leads)
    at (breaks p n a b c f g) = absurd cc

run_assume : (v : Setting) (m : ℕ) (e : List ExprNode) (cmds : List Cmd) → CmdsRun v m cmds → CmdsRun v m (Assume e ∷ cmds)
run_assume v m e cmds ih consts path places s store values results had calls total lists r lt i sorted tail led adds =
    at (tail_head (out_of v) (code_of v s.proc s.q s.laps) consts path places (moved_cmd s.proc (length s.before) (Assume e)) (spot_cmds v s cmds) (next_at s) (flat_state s store values results had) total r tail)
  where
    at : TailHead (out_of v) (code_of v s.proc s.q s.laps) consts path places (moved_cmd s.proc (length s.before) (Assume e)) (spot_cmds v s cmds) (next_at s) (flat_state s store values results had) total r →
        Finishes v consts (config_at s consts store) (path_choices (out_of v) (code_of v s.proc s.q s.laps).blocks true path places (spot_cmds v s (Assume e ∷ cmds)) (next_at s) values lists) s.proc s.q s.laps s.outs s.frames r
    at (passes u h k) =
        let has = variables v consts s (Assume e ∷ cmds) store i sorted in
        let same = moved_holds consts s.before s.others store e (assume_reads (scope_of v.w.prog s.q) (env_with consts store) has v.w.prog.procs e (fits_at v s (Assume e) cmds i)) in
        let c = choose_some (holds (env_with consts (wide s.before s.others store)) (moved (length s.before) e)) (flat_state s store values results had) u h in
        command_runs v m (Assume e) cmds ih consts path places s store store values values results had calls total lists u [] r lt i sorted k (sym c.1) led adds refl refl
        (tick_lead v consts s store (Assume e) cmds (config_at (one_further s) consts store) i (ap (λ b. if b then config_at (one_further s) consts store else with_status (config_at s consts store) Blocked) (sym same ∙ c.0)))
    at (breaks p n a b c f g) = absurd cc

assert_wrong : (b : Bool) (p n : ℕ) (calls : List Request) (results : List Result) (p' n' : ℕ) (total : List Request) → (if b then None else assert_fails p n calls results) ≡ Some (Broken p' n', total) → (b ≡ false) × (results ≡ []) × (p ≡ p') × (n ≡ n')
assert_wrong true p n calls results p' n' total h = absurd cc
assert_wrong false p n calls (r ∷ results) p' n' total h = absurd cc
assert_wrong false p n calls [] p' n' total h =
    let k : (Broken p n, calls) ≡ (Broken p' n', total) = cc in
    let e : Broken p n ≡ Broken p' n' = ap (λ (x : Result × List Request). x.0) k in (refl, refl, cc, cc)

run_assert : (v : Setting) (m : ℕ) (n : ℕ) (e : List ExprNode) (cmds : List Cmd) → CmdsRun v m cmds → CmdsRun v m (Assert n e ∷ cmds)
run_assert v m n e cmds ih consts path places s store values results had calls total lists r lt i sorted tail led adds =
    at (tail_head (out_of v) (code_of v s.proc s.q s.laps) consts path places (moved_cmd s.proc (length s.before) (Assert n e)) (spot_cmds v s cmds) (next_at s) (flat_state s store values results had) total r tail)
  where
    same : holds (env_with consts (wide s.before s.others store)) (moved (length s.before) e) ≡ holds (env_with consts store) e
    same = moved_holds consts s.before s.others store e (assert_reads (scope_of v.w.prog s.q) (env_with consts store) (variables v consts s (Assert n e ∷ cmds) store i sorted) v.w.prog.procs n e (fits_at v s (Assert n e) cmds i))

    at : TailHead (out_of v) (code_of v s.proc s.q s.laps) consts path places (moved_cmd s.proc (length s.before) (Assert n e)) (spot_cmds v s cmds) (next_at s) (flat_state s store values results had) total r →
        Finishes v consts (config_at s consts store) (path_choices (out_of v) (code_of v s.proc s.q s.laps).blocks true path places (spot_cmds v s (Assert n e ∷ cmds)) (next_at s) values lists) s.proc s.q s.laps s.outs s.frames r
    at (passes u h k) =
        let c = choose_some (holds (env_with consts (wide s.before s.others store)) (moved (length s.before) e)) (flat_state s store values results had) u h in
        command_runs v m (Assert n e) cmds ih consts path places s store store values values results had calls total lists u [] r lt i sorted k (sym c.1) led adds refl refl
        (tick_lead v consts s store (Assert n e) cmds (config_at (one_further s) consts store) i (ap (λ b. if b then config_at (one_further s) consts store else with_status (config_at s consts store) (Failed s.proc n)) (sym same ∙ c.0)))
    at (breaks p k a b c f g) =
        let w = assert_wrong (holds (env_with consts (wide s.before s.others store)) (moved (length s.before) e)) s.proc n had results p k total f in
        let d = with_status (config_at s consts store) (Failed s.proc n) in
        let l = none_led v consts (here_at v s.proc s.laps s.frames) lists calls results w.1 led in
        let t = tick_lead v consts s store (Assert n e) cmds d i (ap (λ x. if x then config_at (one_further s) consts store else d) (sym same ∙ w.0)) in
        let now : FailsOn v.w (config_at s consts store) [] s.proc n = t.fails [] s.proc n (failed_now v.w (config_at s consts store) s.proc n) in
        breaks_to v consts path places s (spot_cmds v s (Assert n e ∷ cmds)) store values lists p k r a b c g
        (subst (λ x. FailsOn v.w (config_at s consts store) (cmds_choices (spot_cmds v s cmds) [] lists) x k) w.2 (subst (λ x. FailsOn v.w (config_at s consts store) (cmds_choices (spot_cmds v s cmds) [] lists) s.proc x) w.3
        (subst (λ zs. FailsOn v.w (config_at s consts store) zs s.proc n) (sym (nothing_left (spot_cmds v s cmds)) ∙ ap (λ ls. cmds_choices (spot_cmds v s cmds) [] ls) (sym l)) now)))

-- ---- calls

pub come_some : (flat : _) (st u : State) (req : Request) (outs : List Var) (results : List Result) → come_back flat st req outs results ≡ Some u →
    (os : List Value) × (gs : List Value) × (rest : List Result) × (results ≡ Ended os gs ∷ rest) × (u ≡ record { store = write_all (record { globals = gs; locals = st.store.locals }) outs os; values = st.values; results = rest; calls = st.calls ++ req ∷ [] })
come_some flat st u req outs [] h = absurd cc
come_some flat st u req outs (Broken p n ∷ rest) h = absurd cc
come_some flat st u req outs (Ended os gs ∷ rest) h =
    let c = choose_some (can_come_back flat req.proc os gs) (record { store = write_all (record { globals = gs; locals = st.store.locals }) outs os; values = st.values; results = rest; calls = st.calls ++ req ∷ [] }) u h in (os, gs, rest, refl, sym c.1)

pub call_wrong : (s : State) (req : Request) (results : List Result) (p n : ℕ) (total : List Request) → call_fails s req results ≡ Some (Broken p n, total) → (results ≡ Broken p n ∷ []) × (s.calls ++ req ∷ [] ≡ total)
call_wrong s req [] p n total h = absurd cc
call_wrong s req (Ended os gs ∷ rest) p n total h = absurd cc
call_wrong s req (Broken a b ∷ []) p n total h =
    let k : (Broken a b, s.calls ++ req ∷ []) ≡ (Broken p n, total) = cc in
    (ap (λ (x : Result × List Request). x.0 ∷ []) k, ap (λ (x : Result × List Request). x.1) k)
call_wrong s req (Broken a b ∷ r ∷ rest) p n total h = absurd cc

-- the callee of a call is there, and the call fits
pub record Callee (v : Setting) (s : Spot) (p : ℕ) (args : List (List ExprNode)) (outs : List Var) : Type 0 where
  pub q : SrcProc
  pub proc_is : slice_get v.w.prog.procs p ≡ Some q
  pub targets : targets_fit (scope_of v.w.prog s.q) q.outs outs ≡ true

pub callee : (v : Setting) (s : Spot) (p : ℕ) (args : List (List ExprNode)) (outs : List Var) (o : Option SrcProc) → slice_get v.w.prog.procs p ≡ o → call_fits (scope_of v.w.prog s.q) o args outs ≡ true → Callee v s p args outs
callee v s p args outs None e h = absurd cc
callee v s p args outs (Some q) e h = record { q = q; proc_is = e; targets = and-second (args_fit (scope_of v.w.prog s.q) q.ins args) _ h }

open_leads : (v : Setting) (consts : List Value) (s : Spot) (store : Store) (p : ℕ) (args : List (List ExprNode)) (outs : List Var) (cmds : List Cmd) (q : SrcProc) → IsSpot v s (Call p args outs ∷ cmds) → slice_get v.w.prog.procs p ≡ Some q →
    may_follow v.w.bound (kind_of (slice_get (out_of v).procs p)) p (here_at v s.proc s.laps s.frames) ≡ true →
    Leads v.w (config_at s consts store) [] (wanting consts store.globals (locals_wanted (sorts_of q.outs ++ sorts_of q.locals)) (callee_frame consts store p args outs ∷ frame_at (one_further s) store.locals ∷ s.frames))
open_leads v consts s store p args outs cmds q i e may =
    let c = config_at s consts store in
    let d = wanting consts store.globals (locals_wanted (sorts_of q.outs ++ sorts_of q.locals)) (callee_frame consts store p args outs ∷ frame_at (one_further s) store.locals ∷ s.frames) in
    let here = here_at v s.proc s.laps s.frames in
    let seldom : nat_lt (open_count p (frame_at s store.locals ∷ s.frames)) v.w.bound ≡ true =
    ap (λ n. nat_lt n v.w.bound) (sym (times_open v p q (frame_at s store.locals ∷ s.frames) e)) ∙ (ap (λ o. may_follow v.w.bound (kind_of o) p here) (sym (v.x.whole_there p q e)) ∙ may) in
    tick_lead v consts s store (Call p args outs) cmds d i
    (ap (λ o. call v.w.bound c (frame_at s store.locals) s.frames p o args outs) e ∙ ap (λ b. if b then d else with_status c Cut) seldom)

run_call : (v : Setting) (m : ℕ) (p : ℕ) (args : List (List ExprNode)) (outs : List Var) (cmds : List Cmd) → CmdsRun v m cmds → CmdsRun v m (Call p args outs ∷ cmds)
run_call v m p args outs cmds ih consts path places s store values results had calls total lists r lt i sorted tail led adds =
    at (tail_head (out_of v) (code_of v s.proc s.q s.laps) consts path places (moved_cmd s.proc (length s.before) (Call p args outs)) (spot_cmds v s cmds) (next_at s) (flat_state s store values results had) total r tail)
  where
    has : HasVariables (scope_of v.w.prog s.q) (env_with consts store)
    has = variables v consts s (Call p args outs ∷ cmds) store i sorted

    req : Request
    req = request consts store p args

    asked : request consts (wide s.before s.others store) p (map (moved (length s.before)) args) ≡ request consts store p args
    asked = ap (λ (vs : List Value). record { proc = p; globals = store.globals; args = vs }) (moved_values consts s.before s.others store args (call_reads (scope_of v.w.prog s.q) (env_with consts store) has v.w.prog.procs p args outs (fits_at v s (Call p args outs) cmds i)))

    its : Callee v s p args outs
    its = callee v s p args outs (slice_get v.w.prog.procs p) refl (fits_at v s (Call p args outs) cmds i)

    here : List ℕ
    here = here_at v s.proc s.laps s.frames

    at : TailHead (out_of v) (code_of v s.proc s.q s.laps) consts path places (moved_cmd s.proc (length s.before) (Call p args outs)) (spot_cmds v s cmds) (next_at s) (flat_state s store values results had) total r →
        Finishes v consts (config_at s consts store) (path_choices (out_of v) (code_of v s.proc s.q s.laps).blocks true path places (spot_cmds v s (Call p args outs ∷ cmds)) (next_at s) values lists) s.proc s.q s.laps s.outs s.frames r
    at (passes u h k) =
        let req' = request consts (wide s.before s.others store) p (map (moved (length s.before)) args) in
        let c = come_some (out_of v) (flat_state s store values results had) u req' (map (behind (length s.before)) outs) results h in
        let os = c.0 in let gs = c.1 in
        let after = write_all (record { globals = gs; locals = store.locals }) outs os in
        let move = scope_moved v s.proc s.q (scope_at s.laps) (length s.before) i.before_is in
        let within = outs_within (scope_of v.w.prog s.q) (flat_program.scope_of (out_of v) (code_of v s.proc s.q s.laps)) (length s.before) move its.q.outs outs its.targets in
        let long = have_length store.locals (locals_of s.q) (store_is v s.q consts store has).locals in
        let gets = moved_writes s.before s.others (length (locals_of s.q)) outs (record { globals = gs; locals = store.locals }) os long within in
        let u_is : u ≡ flat_state s after values c.2 (had ++ req ∷ []) =
        c.4 ∙ (ap (λ (t : Store). record { store = t; values = values; results = c.2; calls = had ++ req' ∷ [] }) gets
        ∙ ap (λ (x : Request). record { store = wide s.before s.others after; values = values; results = c.2; calls = had ++ x ∷ [] }) asked) in
        let f = first_led v consts here lists calls (Ended os gs) c.2 results c.3 led in
        let n = tail_calls (out_of v) (code_of v s.proc s.q s.laps) consts path places (spot_cmds v s cmds) (next_at s) u total r k in
        let total_is : total ≡ (had ++ req ∷ []) ++ n.adds.more = n.adds.are ∙ ap (λ (x : State). x.calls ++ n.adds.more) u_is in
        let adds' : had ++ f.call ∷ f.other ≡ total = ap (λ cs. had ++ cs) (sym f.calls_are) ∙ adds in
        let same : f.call ≡ req = same_call had f.call req f.other n.adds.more total adds' total_is in
        let l : Led v consts f.xs req (Ended os gs) here = subst (λ z. Led v consts f.xs z (Ended os gs) here) same f.led in
        let o = open_leads v consts s store p args outs cmds its.q i its.proc_is l.seldom in
        let g = l.source its.q outs (frame_at (one_further s) store.locals ∷ s.frames) its.proc_is refl (o.sorted sorted) in
        let frames' = callee_frame consts store p args outs ∷ frame_at (one_further s) store.locals ∷ s.frames in
        command_runs v m (Call p args outs) cmds ih consts path places s store after values values c.2 (had ++ req ∷ []) f.other total lists u f.xs r lt i sorted k u_is f.others
        (append_assoc had (req ∷ []) f.other ∙ (ap (λ (x : Request). had ++ x ∷ f.other) (sym same) ∙ adds')) f.firsts refl
        (leads_trans v.w (config_at s consts store) (wanting consts store.globals (locals_wanted (sorts_of its.q.outs ++ sorts_of its.q.locals)) frames') (config_at (one_further s) consts after) [] f.xs o g)
    at (breaks a n x y z f g) =
        let req' = request consts (wide s.before s.others store) p (map (moved (length s.before)) args) in
        let w = call_wrong (flat_state s store values results had) req' results a n total f in
        let first = first_led v consts here lists calls (Broken a n) [] results w.0 led in
        let total_is : total ≡ (had ++ req ∷ []) ++ [] = sym w.1 ∙ (ap (λ (k : Request). had ++ k ∷ []) asked ∙ sym (append-nil (had ++ req ∷ []))) in
        let adds' : had ++ first.call ∷ first.other ≡ total = ap (λ cs. had ++ cs) (sym first.calls_are) ∙ adds in
        let same : first.call ≡ req = same_call had first.call req first.other [] total adds' total_is in
        let l : Led v consts first.xs req (Broken a n) here = subst (λ k. Led v consts first.xs k (Broken a n) here) same first.led in
        let o = open_leads v consts s store p args outs cmds its.q i its.proc_is l.seldom in
        let below = l.source its.q outs (frame_at (one_further s) store.locals ∷ s.frames) its.proc_is refl (o.sorted sorted) in
        let none = none_led v consts here (other_lists lists) first.other [] refl first.others in
        breaks_to v consts path places s (spot_cmds v s (Call p args outs ∷ cmds)) store values lists a n r x y z g
        (subst (λ zs. FailsOn v.w (config_at s consts store) zs a n)
        (sym (append-nil first.xs) ∙ (ap (λ ys. ys ++ []) (sym first.firsts) ∙ ap (λ ys. first_list lists ++ ys) (sym (nothing_left (spot_cmds v s cmds)) ∙ ap (λ ls. cmds_choices (spot_cmds v s cmds) [] ls) (sym none))))
        (o.fails first.xs a n below))

-- all commands, where the claim holds at the end of the block
pub cmds_run : (v : Setting) (m : ℕ) → CmdsRun v m [] → (cmds : List Cmd) → CmdsRun v m cmds
cmds_run v m at_end [] = at_end
cmds_run v m at_end (Assign pairs ∷ cmds) = run_assign v m pairs cmds (cmds_run v m at_end cmds)
cmds_run v m at_end (Havoc xs ∷ cmds) = run_havoc v m xs cmds (cmds_run v m at_end cmds)
cmds_run v m at_end (Assume e ∷ cmds) = run_assume v m e cmds (cmds_run v m at_end cmds)
cmds_run v m at_end (Assert n e ∷ cmds) = run_assert v m n e cmds (cmds_run v m at_end cmds)
cmds_run v m at_end (Call p args outs ∷ cmds) = run_call v m p args outs cmds (cmds_run v m at_end cmds)
