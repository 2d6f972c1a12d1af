-- The next command, or the end of the block, in the machine and in the flat program.
use Rattle.std.proofs.Common.{◌≡◌, ℕ, zero, suc, ◌≤◌, ◌<◌, ◌+◌, Bool, true, false, ◌&&◌, if◌then◌else◌, List, [], ◌∷◌, ◌++◌, map, length, drop, ◌⊎◌, inl, inr, arith, sym, ◌∙◌, ap, refl, subst, append_assoc}
use Rattle.std.proofs.lemmas.Bool.{eqb-true}
use Rattle.std.proofs.lemmas.List.{append-nil, length-map}
use Rattle.std.specs.Prelude.{Option, None, Some, slice_get, IsTrue, nat_eq, nat_lt, cond, filter}
use Rattle.std.specs.List.{list_all}
use Rattle.std.specs.Option.{option_map, option_and_then}
use Rattle.hy_val.specs.Exprs.{eval}
use Rattle.hy_val.specs.Values.{has_sort}
use Rattle.hy_val.specs.declared.expr.ExprNode.{ExprNode}
use Rattle.hy_val.specs.declared.expr.Var.{Var}
use Rattle.hy_val.specs.declared.sort.Sort.{Sort}
use Rattle.hy_val.specs.declared.value.Value.{Value}
use Rattle.hy_val.specs.Scope.{Scope, sort_of_target, is_sort_of, expr_fits, pair_fits}
use Rattle.src_prog.specs.Scope.{sorts_of, locals_of, args_fit, targets_fit, call_fits, cmd_fits}
use Rattle.src_prog.specs.Shape.{scope_of}
use Rattle.src_prog.specs.declared.block.Cmd.{Cmd}
use Rattle.src_prog.specs.declared.block.Cmd.TheVariants.{Assign, Havoc, Assume, Assert, Call}
use Rattle.src_prog.specs.declared.block.Next.{Next}
use Rattle.src_prog.specs.declared.block.Next.TheVariants.{Goto, Return}
use Rattle.src_prog.specs.declared.block.SrcBlock.{SrcBlock}
use Rattle.src_prog.specs.declared.proc.Named.{Named}
use Rattle.src_prog.specs.declared.proc.SrcProc.{SrcProc}
use Rattle.hy_val.proofs.Booleans.{and-first, and-second, and-both}
use Rattle.src_run.proofs.Programs.{cmd_fits_in}
use Rattle.hy_val.proofs.Scopes.{is_sort_of_is}
use Rattle.src_run.proofs.Sorted.{expr_sorted, complete, has_variables, assume_reads, assert_reads, assign_reads, call_reads}
use Rattle.src_run.specs.declared.machine.Status.TheVariants.{Blocked, Cut, Failed}
use Rattle.src_run.specs.Machine.{Config, Frame, Lap, Want, ATarget, locals_wanted, open_count, at_proc, at_block, at_command, command, call, follow, leave, arrive, loops_of, tick, with_status}
use Rattle.hy_val.specs.Stores.{Store, write_all, holds}
use Rattle.src_run.specs.Sorted.{HaveSorts, HasVariables}
use Rattle.flat_prog.specs.Program as flat_program
use Rattle.flat_prog.specs.Caps.{kind_of, may_follow, times, CappedBelow}
use Rattle.flat_prog.specs.Local.{Result, Ended, Broken, Request, State, request, exit_value, can_come_back, begin_of, fill, fill_one, pass}
use Rattle.hy_val.specs.Stores.{env_with, have_sorts}
use Rattle.flat_prog.specs.Shape.{exit_sort}
use Rattle.flat_prog.specs.Trees.{node}
use Rattle.flat_prog.specs.declared.proc.FlatKind.TheVariants.{Source}
use Rattle.extract_law.proofs.Adding.{have_length}
use Rattle.extract_law.proofs.Arriving.{begin_at, Arrived, arrived, land_edge}
use Rattle.extract_def.proofs.Facts.{IsEdge, dest_of}
use Rattle.extract_law.proofs.Failing.{World, FailsFrom, FailsLater, going, wanting, after_tick, blocked, cut, is_over, has_failed, held, after_havoc, after_fill, after_target}
use Rattle.extract_law.proofs.Moving.{wide, widen, moved_holds, moved_values, moved_pairs_values, moved_targets, moved_writes, AreWithin, moved_havoc}
use Rattle.extract_def.proofs.Lookup.{get_left, get_right}
use Rattle.extract_def.proofs.Moved.{IsMoved, moved_target}
use Rattle.extract_law.proofs.RunsOn.{RunsOn, over_command, over_call, call_fails_here, fails_here, RunsBelow}
use Rattle.extract_law.proofs.Spots.{Setting, out_of, scope_at, many, passed_by, passed_at, here_at, IsStore, store_is, From, proceed, Outcome, outcome_map, outcome_fails, Spot, IsSpot, frame_at, config_at, one_further, code_of, spot_cmds, next_at, SpotRest, SpotClaim, variables_at, own_reaches, EdgeRest, EdgeClaim}
use Rattle.extract_def.specs.declared.edge.Dest.{Dest}
use Rattle.extract_def.specs.declared.edge.Dest.TheVariants.{Back, At}
use Rattle.extract_def.specs.Extraction.{number_of, proc_of, own_block, exit_locals}
use Rattle.extract_def.specs.Places.{kept_place, moved_by}
use Rattle.extract_def.specs.Renaming.{behind, moved, moved_cmd}
use Rattle.extract_def.specs.declared.scope.Scope.{Scope as Region}
use Rattle.extract_def.specs.declared.scope.Scope.TheVariants.{Whole, In}
use Rattle.extract_def.specs.Scopes.{reached_loops}

-- ---- the next command

pub drop_cons : {A : Type 0} (at : ℕ) (xs : List A) (y : A) (ys : List A) → drop at xs ≡ y ∷ ys → (slice_get xs at ≡ Some y) × (drop (at + 1) xs ≡ ys)
drop_cons zero [] y ys e = absurd cc
drop_cons zero (x ∷ xs) y ys e = (cc, cc)
drop_cons (suc at) [] y ys e = absurd cc
drop_cons (suc at) (x ∷ xs) y ys e =
    let i = drop_cons at xs y ys e in let p : suc at + 1 ≡ suc (at + 1) = omega arith in
    (i.0, ap (λ n. drop n (x ∷ xs)) p ∙ i.1)

pub drop_none : {A : Type 0} (at : ℕ) (xs : List A) → drop at xs ≡ [] → slice_get xs at ≡ None
drop_none zero [] e = refl
drop_none zero (x ∷ xs) e = absurd cc
drop_none (suc at) [] e = refl
drop_none (suc at) (x ∷ xs) e = drop_none at xs e

pub tick_at : (v : Setting) (consts : List Value) (s : Spot) (cmds : List Cmd) (store : Store) (o : Option Cmd) → IsSpot v s cmds → slice_get s.b.cmds s.at ≡ o →
    tick v.w.prog v.w.bound (config_at s consts store) ≡ at_command v.w.prog v.w.bound (config_at s consts store) s.q (frame_at s store.locals) s.frames s.b o
tick_at v consts s cmds store o i e =
    let c = config_at s consts store in let f = frame_at s store.locals in
    ap (at_proc v.w.prog v.w.bound c f s.frames) i.proc_is
    ∙ ap (at_block v.w.prog v.w.bound c s.q f s.frames) i.block_is
    ∙ ap (at_command v.w.prog v.w.bound c s.q f s.frames s.b) e

pub spot_on : (v : Setting) (s : Spot) (c : Cmd) (cmds : List Cmd) → IsSpot v s (c ∷ cmds) → IsSpot v (one_further s) cmds
spot_on v s c cmds i = record { proc_is = i.proc_is; block_is = i.block_is; left = (drop_cons s.at s.b.cmds c cmds i.left).1; inside = i.inside; around = i.around; before_is = i.before_is; others_is = i.others_is }

tick_on : (v : Setting) (turns : ℕ) (consts : List Value) (s : Spot) (c : Cmd) (cmds : List Cmd) (store : Store) → IsSpot v s (c ∷ cmds) → FailsFrom v.w turns (config_at s consts store) →
    FailsLater v.w turns (command v.w.prog v.w.bound (config_at s consts store) s.q (frame_at s store.locals) s.frames c)
tick_on v turns consts s c cmds store i r =
    after_tick v.w turns consts store.globals (frame_at s store.locals ∷ s.frames) (command v.w.prog v.w.bound (config_at s consts store) s.q (frame_at s store.locals) s.frames c) (tick_at v consts s (c ∷ cmds) store (Some c) i (drop_cons s.at s.b.cmds c cmds i.left).0) r

-- the command fits
pub fits_at : (v : Setting) (s : Spot) (c : Cmd) (cmds : List Cmd) → IsSpot v s (c ∷ cmds) → cmd_fits v.w.prog.procs (scope_of v.w.prog s.q) c ≡ true
fits_at v s c cmds i = cmd_fits_in v.w.prog s.proc s.number s.at s.q s.b c v.w.fits i.proc_is i.block_is (drop_cons s.at s.b.cmds c cmds i.left).0

-- ---- commands that take values alone

step_plain : (v : Setting) (m : ℕ) → SpotClaim v m → (turns less : ℕ) (consts : List Value) (s : Spot) (c : Cmd) (cmds : List Cmd) (store after : Store) (values : List Value) → less < turns → turns < suc m → IsSpot v s (c ∷ cmds) →
    ((vs : List Value) (rs : List Result) (cs : List Request) → pass (out_of v) (code_of v s.proc s.q s.laps) consts (moved_cmd s.proc (length s.before) c) (record { store = wide s.before s.others store; values = values ++ vs; results = rs; calls = cs })
    ≡ Some (record { store = wide s.before s.others after; values = vs; results = rs; calls = cs })) →
    FailsFrom v.w less (config_at (one_further s) consts after) → Outcome v (SpotRest v consts s (c ∷ cmds) store) turns consts s.proc s.q s.laps s.outs s.frames
step_plain v m ih turns less consts s c cmds store after values lt le i passes r =
    outcome_map v (SpotRest v consts (one_further s) cmds after) (SpotRest v consts s (c ∷ cmds) store) less turns consts s.proc s.q s.laps s.outs s.frames (omega arith)
    (λ result rest. over_command (out_of v) v.w.bound consts (code_of v s.proc s.q s.laps) (here_at v s.proc s.laps s.frames) (moved_cmd s.proc (length s.before) c) (spot_cmds v s cmds) (next_at s) (wide s.before s.others store) (wide s.before s.others after) values result passes rest)
    (ih less consts (one_further s) cmds after (omega arith) (spot_on v s c cmds i) r)

-- the locals of the flat procedure are those of the source procedure, that much further behind
pub scope_moved : (v : Setting) (p : ℕ) (q : SrcProc) (region : Region) (by : ℕ) → by ≡ moved_by q region → IsMoved by (scope_of v.w.prog q) (flat_program.scope_of (out_of v) (proc_of v.w.prog p q region))
scope_moved v p q Whole by e =
    record {
      consts = refl;
      globals = refl;
      locals = λ n s h.
          let z : by + n ≡ n = omega (arith, e) in
          let a = append_assoc (sorts_of q.outs) (sorts_of q.locals) (exit_locals (reached_loops q)) in
          let b = append_assoc (sorts_of q.ins) (sorts_of q.outs ++ sorts_of q.locals) (exit_locals (reached_loops q)) in
          let all : sorts_of q.ins ++ (sorts_of q.outs ++ (sorts_of q.locals ++ exit_locals (reached_loops q))) ≡ locals_of q ++ exit_locals (reached_loops q) = ap (λ ss. sorts_of q.ins ++ ss) (sym a) ∙ sym b in
          ap (slice_get (sorts_of q.ins ++ (sorts_of q.outs ++ (sorts_of q.locals ++ exit_locals (reached_loops q))))) z ∙ (ap (λ ss. slice_get ss n) all ∙ get_left (locals_of q) (exit_locals (reached_loops q)) n s h);
    }
scope_moved v p q (In head exit) by e =
    record {
      consts = refl;
      globals = refl;
      locals = λ n s h.
          ap (λ k. slice_get (locals_of q ++ ((locals_of q ++ exit_sort ∷ []) ++ [])) (k + n)) e
          ∙ (get_right (locals_of q) ((locals_of q ++ exit_sort ∷ []) ++ []) n
          ∙ get_left (locals_of q ++ exit_sort ∷ []) [] n s (get_left (locals_of q) (exit_sort ∷ []) n s h));
    }

pub targets_within : (scope new : Scope) (env : _) (has : HasVariables scope env) (by : ℕ) → IsMoved by scope new → (pairs : List (Var × List ExprNode)) → list_all (pair_fits scope) pairs ≡ true → AreWithin (length scope.locals) (map (λ (p : Var × List ExprNode). p.0) pairs)
targets_within scope new env has by m [] h = tt
targets_within scope new env has by m (p ∷ ps) h =
    let one = expr_sorted scope env has (sort_of_target scope p.0) p.1 (and-first (pair_fits scope p) _ h) in
    ((moved_target by scope new p.0 one.0 m one.1).1, targets_within scope new env has by m ps (and-second (pair_fits scope p) _ h))

step_assign : (v : Setting) (m : ℕ) → SpotClaim v m → (turns : ℕ) (consts : List Value) (s : Spot) (pairs : List (Var × List ExprNode)) (cmds : List Cmd) (store : Store) → turns < suc m → IsSpot v s (Assign pairs ∷ cmds) →
    FailsFrom v.w turns (config_at s consts store) → Outcome v (SpotRest v consts s (Assign pairs ∷ cmds) store) turns consts s.proc s.q s.laps s.outs s.frames
step_assign v m ih turns consts s pairs cmds store le i r =
    let l = tick_on v turns consts s (Assign pairs) cmds store i r in
    let has = variables_at v turns consts s (Assign pairs ∷ cmds) store i r in
    let scope = scope_of v.w.prog s.q in
    let fits = fits_at v s (Assign pairs) cmds i in
    let xs = map (λ (p : Var × List ExprNode). p.0) pairs in
    let vs0 = map (λ (p : Var × List ExprNode). eval (env_with consts store) p.1) pairs in
    let after = write_all store xs vs0 in
    let wider = wide s.before s.others store in
    let move = scope_moved v s.proc s.q (scope_at s.laps) (length s.before) i.before_is in
    let within = targets_within scope (flat_program.scope_of (out_of v) (code_of v s.proc s.q s.laps)) (env_with consts store) has (length s.before) move pairs fits in
    let long = have_length store.locals (locals_of s.q) (store_is v s.q consts store has).locals in
    let values_are = moved_pairs_values consts s.before s.others store pairs (assign_reads scope (env_with consts store) has v.w.prog.procs pairs fits) in
    let targets_are = moved_targets (length s.before) pairs in
    let after_is = moved_writes s.before s.others (length (locals_of s.q)) xs store vs0 long within in
    step_plain v m ih turns l.less consts s (Assign pairs) cmds store after [] l.smaller le i
    (λ vs rs cs.
    ap (λ (ws : List Value). Some (record { store = write_all wider (map (λ (p : Var × List ExprNode). p.0) (map (λ (p : Var × List ExprNode). (behind (length s.before) p.0, moved (length s.before) p.1)) pairs)) ws; values = vs; results = rs; calls = cs })) values_are
    ∙ (ap (λ (ys : List Var). Some (record { store = write_all wider ys vs0; values = vs; results = rs; calls = cs })) targets_are
    ∙ ap (λ (t : Store). Some (record { store = t; values = vs; results = rs; calls = cs })) after_is)) l.fails

step_havoc : (v : Setting) (m : ℕ) → SpotClaim v m → (turns : ℕ) (consts : List Value) (s : Spot) (xs : List Var) (cmds : List Cmd) (store : Store) → turns < suc m → IsSpot v s (Havoc xs ∷ cmds) →
    FailsFrom v.w turns (config_at s consts store) → Outcome v (SpotRest v consts s (Havoc xs ∷ cmds) store) turns consts s.proc s.q s.laps s.outs s.frames
step_havoc v m ih turns consts s xs cmds store le i r =
    let l = tick_on v turns consts s (Havoc xs) cmds store i r in
    let scope = scope_of v.w.prog s.q in
    let h = after_havoc v.w scope xs l.less consts store (frame_at (one_further s) store.locals) s.frames l.fails in
    let lt = l.smaller in let lh = h.smaller in
    let has = variables_at v turns consts s (Havoc xs ∷ cmds) store i r in
    let long = have_length store.locals (locals_of s.q) (store_is v s.q consts store has).locals in
    let move = scope_moved v s.proc s.q (scope_at s.laps) (length s.before) i.before_is in
    step_plain v m ih turns h.less consts s (Havoc xs) cmds store h.after h.values (omega arith) le i
    (λ vs rs cs.
    moved_havoc s.before s.others scope (flat_program.scope_of (out_of v) (code_of v s.proc s.q s.laps)) xs (record { store = store; values = h.values ++ vs; results = rs; calls = cs }) move (fits_at v s (Havoc xs) cmds i) long
    ∙ ap (option_map (widen s.before s.others)) (h.passes vs rs cs)) h.fails

step_assume : (v : Setting) (m : ℕ) → SpotClaim v m → (turns : ℕ) (consts : List Value) (s : Spot) (e : List ExprNode) (cmds : List Cmd) (store : Store) → turns < suc m → IsSpot v s (Assume e ∷ cmds) →
    FailsFrom v.w turns (config_at s consts store) → Outcome v (SpotRest v consts s (Assume e ∷ cmds) store) turns consts s.proc s.q s.laps s.outs s.frames
step_assume v m ih turns consts s e cmds store le i r =
    let l = tick_on v turns consts s (Assume e) cmds store i r in
    let h = held v.w l.less (config_at s consts store) (config_at (one_further s) consts store) Blocked blocked (holds (env_with consts store) e) l.fails in
    let has = variables_at v turns consts s (Assume e ∷ cmds) store i r in
    let same = moved_holds consts s.before s.others store e (assume_reads (scope_of v.w.prog s.q) (env_with consts store) has v.w.prog.procs e (fits_at v s (Assume e) cmds i)) in
    step_plain v m ih turns l.less consts s (Assume e) cmds store store [] l.smaller le i
    (λ vs rs cs. ap (λ b. if b then Some (record { store = wide s.before s.others store; values = vs; results = rs; calls = cs }) else None) (same ∙ h.0)) h.1

assert_if : (w : World) (turns : ℕ) (c d : Config) (p n : ℕ) (b : Bool) → FailsFrom w turns (if b then d else with_status c (Failed p n)) → ((b ≡ true) × FailsFrom w turns d) ⊎ ((b ≡ false) × (p ≡ w.proc) × (n ≡ w.number))
assert_if w turns c d p n true r = inl (refl, r)
assert_if w turns c d p n false r = let e = has_failed w turns c p n r in inr (refl, e.0, e.1)

assert_outcome : (v : Setting) (m : ℕ) → SpotClaim v m → (turns less : ℕ) (consts : List Value) (s : Spot) (n : ℕ) (e : List ExprNode) (cmds : List Cmd) (store : Store) → less < turns → turns < suc m → IsSpot v s (Assert n e ∷ cmds) →
    holds (env_with consts (wide s.before s.others store)) (moved (length s.before) e) ≡ holds (env_with consts store) e →
    ((holds (env_with consts store) e ≡ true) × FailsFrom v.w less (config_at (one_further s) consts store)) ⊎ ((holds (env_with consts store) e ≡ false) × (s.proc ≡ v.w.proc) × (n ≡ v.w.number)) →
    Outcome v (SpotRest v consts s (Assert n e ∷ cmds) store) turns consts s.proc s.q s.laps s.outs s.frames
assert_outcome v m ih turns less consts s n e cmds store lt le i same (inl (right, r)) =
    step_plain v m ih turns less consts s (Assert n e) cmds store store [] lt le i (λ vs rs cs. ap (λ b. if b then Some (record { store = wide s.before s.others store; values = vs; results = rs; calls = cs }) else None) (same ∙ right)) r
assert_outcome v m ih turns less consts s n e cmds store lt le i same (inr (wrong, p_is, n_is)) =
    outcome_fails v (SpotRest v consts s (Assert n e ∷ cmds) store) turns consts s.proc s.q s.laps s.outs s.frames
    (subst (λ x. SpotRest v consts s (Assert n e ∷ cmds) store (Broken x v.w.number)) p_is (subst (λ x. SpotRest v consts s (Assert n e ∷ cmds) store (Broken s.proc x)) n_is
    (fails_here (out_of v) v.w.bound consts (code_of v s.proc s.q s.laps) (here_at v s.proc s.laps s.frames) s.proc n (moved (length s.before) e) (spot_cmds v s cmds) (next_at s) (wide s.before s.others store) (same ∙ wrong))))

step_assert : (v : Setting) (m : ℕ) → SpotClaim v m → (turns : ℕ) (consts : List Value) (s : Spot) (n : ℕ) (e : List ExprNode) (cmds : List Cmd) (store : Store) → turns < suc m → IsSpot v s (Assert n e ∷ cmds) →
    FailsFrom v.w turns (config_at s consts store) → Outcome v (SpotRest v consts s (Assert n e ∷ cmds) store) turns consts s.proc s.q s.laps s.outs s.frames
step_assert v m ih turns consts s n e cmds store le i r =
    let l = tick_on v turns consts s (Assert n e) cmds store i r in
    let has = variables_at v turns consts s (Assert n e ∷ cmds) store i r in
    let same = moved_holds consts s.before s.others store e (assert_reads (scope_of v.w.prog s.q) (env_with consts store) has v.w.prog.procs n e (fits_at v s (Assert n e) cmds i)) in
    assert_outcome v m ih turns l.less consts s n e cmds store l.smaller le i same (assert_if v.w l.less (config_at s consts store) (config_at (one_further s) consts store) s.proc n (holds (env_with consts store) e) l.fails)

-- ---- calls

abbrev pub callee_frame : List Value → Store → ℕ → List (List ExprNode) → List Var → Frame
callee_frame consts store p args outs = record { proc = p; block = 0; at = 0; locals = map (eval (env_with consts store)) args; laps = []; outs = outs }

pub record Called (v : Setting) (turns : ℕ) (consts : List Value) (s : Spot) (store : Store) (p : ℕ) (args : List (List ExprNode)) (outs : List Var) : Type 0 where
  pub q : SrcProc
  pub proc_is : slice_get v.w.prog.procs p ≡ Some q
  pub seldom : nat_lt (open_count p (frame_at s store.locals ∷ s.frames)) v.w.bound ≡ true
  pub fails : FailsFrom v.w turns (wanting consts store.globals (locals_wanted (sorts_of q.outs ++ sorts_of q.locals)) (callee_frame consts store p args outs ∷ frame_at (one_further s) store.locals ∷ s.frames))

called : (v : Setting) (turns : ℕ) (consts : List Value) (s : Spot) (store : Store) (p : ℕ) (args : List (List ExprNode)) (outs : List Var) (o : Option SrcProc) → slice_get v.w.prog.procs p ≡ o →
    FailsFrom v.w turns (call v.w.bound (config_at s consts store) (frame_at s store.locals) s.frames p o args outs) → Called v turns consts s store p args outs
called v turns consts s store p args outs None e r = absurd (is_over v.w turns (config_at s consts store) Blocked blocked r)
called v turns consts s store p args outs (Some q) e r =
    let h = held v.w turns (config_at s consts store) (wanting consts store.globals (locals_wanted (sorts_of q.outs ++ sorts_of q.locals)) (callee_frame consts store p args outs ∷ frame_at (one_further s) store.locals ∷ s.frames)) Cut cut (nat_lt (open_count p (frame_at s store.locals ∷ s.frames)) v.w.bound) r in
    record { q = q; proc_is = e; seldom = h.0; fails = h.1 }

-- a source procedure stands on the way as often as frames of it are open
not_loop : (v : Setting) (p callee head exit : ℕ) (q : SrcProc) → slice_get v.w.prog.procs callee ≡ Some q → nat_eq (number_of v.w.prog p (In head exit)) callee ≡ false
not_loop v p callee head exit q e = at (nat_eq (number_of v.w.prog p (In head exit)) callee) refl
  where
    below : {A : Type 0} (xs : List A) (n : ℕ) (a : A) → slice_get xs n ≡ Some a → n < length xs
    below [] n a k = absurd cc
    below (x ∷ xs) zero a k = omega arith
    below (x ∷ xs) (suc n) a k = let j = below xs n a k in omega (arith, j)

    at : (b : Bool) → nat_eq (number_of v.w.prog p (In head exit)) callee ≡ b → b ≡ false
    at false k = refl
    at true k = let same = eqb-true (number_of v.w.prog p (In head exit)) callee k in let lt = below v.w.prog.procs callee q e in absurd (omega (arith, same, lt))

times_many : (callee c n : ℕ) (rest : List ℕ) → nat_eq c callee ≡ false → times callee (many n c rest) ≡ times callee rest
times_many callee c zero rest e = refl
times_many callee c (suc n) rest e = ap (λ b. if b then suc (times callee (many n c rest)) else times callee (many n c rest)) e ∙ times_many callee c n rest e

times_laps : (v : Setting) (callee p : ℕ) (q : SrcProc) (laps : List Lap) (rest : List ℕ) → slice_get v.w.prog.procs callee ≡ Some q → times callee (passed_by v.w.prog p laps rest) ≡ times callee (p ∷ rest)
times_laps v callee p q [] rest e = refl
times_laps v callee p q (t ∷ ts) rest e =
    let c = number_of v.w.prog p (In t.head t.exit) in
    times_many callee c (suc t.count) (passed_by v.w.prog p ts rest) (not_loop v p callee t.head t.exit q e) ∙ times_laps v callee p q ts rest e

pub times_open : (v : Setting) (callee : ℕ) (q : SrcProc) (frames : List Frame) → slice_get v.w.prog.procs callee ≡ Some q → times callee (passed_at v.w.prog frames) ≡ open_count callee frames
times_open v callee q [] e = refl
times_open v callee q (f ∷ fs) e =
    times_laps v callee f.proc q f.laps (passed_at v.w.prog fs) e
    ∙ (ap (λ n. if nat_eq f.proc callee then suc n else n) (times_open v callee q fs e) ∙ counted (nat_eq f.proc callee))
  where
    counted : (b : Bool) → (if b then suc (open_count callee fs) else open_count callee fs) ≡ length (cond b (f ∷ filter (λ (g : Frame). nat_eq g.proc callee) fs) (filter (λ (g : Frame). nat_eq g.proc callee) fs))
    counted true = refl
    counted false = refl

-- the values of the exit number's local
abbrev pub exit_zeros : List Sort → List Value
exit_zeros [] = []
exit_zeros (s ∷ ss) = exit_value 0 ∷ exit_zeros ss

pub fill_on : (xs ys : List Sort) (s t : State) → fill xs s ≡ Some t → fill (xs ++ ys) s ≡ fill ys t
fill_on [] ys s t e = let same : s ≡ t = cc in ap (fill ys) same
fill_on (x ∷ xs) ys s t e = at (fill_one x s s.values) e (λ u k. fill_on xs ys u t k)
  where
    at : (o : Option State) → option_and_then (fill xs) o ≡ Some t → ((u : State) → fill xs u ≡ Some t → fill (xs ++ ys) u ≡ fill ys t) → option_and_then (fill (xs ++ ys)) o ≡ fill ys t
    at None k ih = absurd cc
    at (Some u) k ih = ih u k

abbrev pub zeros_of : SrcProc → List Value
zeros_of q = exit_zeros (exit_locals (reached_loops q))

pub fill_exit : (ls : List _) (s : Store) (vs : List Value) (rs : List Result) (cs : List Request) →
    fill (exit_locals ls) (record { store = s; values = exit_zeros (exit_locals ls) ++ vs; results = rs; calls = cs }) ≡ Some (record { store = record { globals = s.globals; locals = s.locals ++ exit_zeros (exit_locals ls) }; values = vs; results = rs; calls = cs })
fill_exit [] s vs rs cs = ap (λ (ls : List Value). Some (record { store = record { globals = s.globals; locals = ls }; values = vs; results = rs; calls = cs })) (sym (append-nil s.locals))
fill_exit (l ∷ ls) s vs rs cs = refl

pub zeros_count : (ls : List _) → length (exit_zeros (exit_locals ls)) ≡ length (exit_locals ls)
zeros_count [] = refl
zeros_count (l ∷ ls) = refl

-- the flat procedure begins on the same values, and a zero for the exit number
pub flat_begin : (v : Setting) (p : ℕ) (q : SrcProc) (globals args values rest : List Value) →
    ((vs : List Value) (rs : List Result) (cs : List Request) → fill (sorts_of q.outs ++ sorts_of q.locals) (record { store = record { globals = globals; locals = args }; values = values ++ vs; results = rs; calls = cs }) ≡ Some (record { store = record { globals = globals; locals = args ++ values }; values = vs; results = rs; calls = cs })) →
    begin_of (proc_of v.w.prog p q Whole) (Source p) globals args ((values ++ zeros_of q) ++ rest) ≡ Some (record { store = record { globals = globals; locals = (args ++ values) ++ zeros_of q }; values = rest; results = []; calls = [] })
flat_begin v p q globals args values rest h =
    let zs = zeros_of q in
    ap (λ (ss : List Sort). fill ss (record { store = record { globals = globals; locals = args }; values = (values ++ zs) ++ rest; results = []; calls = [] })) (sym (append_assoc (sorts_of q.outs) (sorts_of q.locals) (exit_locals (reached_loops q))))
    ∙ (ap (λ (vs : List Value). fill ((sorts_of q.outs ++ sorts_of q.locals) ++ exit_locals (reached_loops q)) (record { store = record { globals = globals; locals = args }; values = vs; results = []; calls = [] })) (append_assoc values zs rest)
    ∙ (fill_on (sorts_of q.outs ++ sorts_of q.locals) (exit_locals (reached_loops q)) (record { store = record { globals = globals; locals = args }; values = values ++ (zs ++ rest); results = []; calls = [] }) (record { store = record { globals = globals; locals = args ++ values }; values = zs ++ rest; results = []; calls = [] }) (h (zs ++ rest) [] [])
    ∙ fill_exit (reached_loops q) (record { globals = globals; locals = args ++ values }) rest [] []))

-- the first values of a frame are those of the ins
pub front_sorts : (args values : List Value) (ins others : List Sort) → length args ≡ length ins → have_sorts (args ++ values) (ins ++ others) ≡ true → have_sorts args ins ≡ true
front_sorts [] values [] others e h = refl
front_sorts [] values (s ∷ ss) others e h = absurd (omega (arith, e))
front_sorts (a ∷ more) values [] others e h = absurd (omega (arith, e))
front_sorts (a ∷ more) values (s ∷ ss) others e h = and-both (has_sort a s) (have_sorts more ss) (and-first (has_sort a s) _ h) (front_sorts more values ss others (omega (arith, e)) (and-second (has_sort a s) _ h))

pub args_length : (scope : Scope) (names : List Named) (args : List (List ExprNode)) → args_fit scope names args ≡ true → length args ≡ length names
args_length scope [] [] h = refl
args_length scope [] (a ∷ more) h = absurd cc
args_length scope (n ∷ ns) [] h = absurd cc
args_length scope (n ∷ ns) (a ∷ more) h = ap suc (args_length scope ns more (and-second (expr_fits scope (Some n.sort) a) _ h))

pub outs_within : (scope new : Scope) (by : ℕ) → IsMoved by scope new → (names : List Named) (xs : List Var) → targets_fit scope names xs ≡ true → AreWithin (length scope.locals) xs
outs_within scope new by m [] [] h = tt
outs_within scope new by m [] (x ∷ xs) h = absurd cc
outs_within scope new by m (n ∷ ns) [] h = tt
outs_within scope new by m (n ∷ ns) (x ∷ xs) h =
    ((moved_target by scope new x n.sort m (is_sort_of_is (sort_of_target scope x) n.sort (and-first (is_sort_of (sort_of_target scope x) n.sort) _ h))).1, outs_within scope new by m ns xs (and-second (is_sort_of (sort_of_target scope x) n.sort) _ h))

-- a run of the flat procedure of a source procedure, below a call
source_below : (v : Setting) (consts : List Value) (passed : List ℕ) (p : ℕ) (q : SrcProc) (frames : List Frame) (b : SrcBlock) (globals args values : List Value) →
    slice_get v.w.prog.procs p ≡ Some q → slice_get (proc_of v.w.prog p q Whole).blocks (kept_place q Whole 0) ≡ Some (own_block v.w.prog p q Whole 0 b) → passed_at v.w.prog frames ≡ passed → nat_lt (times p passed) v.w.bound ≡ true →
    have_sorts globals (sorts_of v.w.prog.globals) ≡ true → have_sorts args (sorts_of q.ins) ≡ true →
    ((vs : List Value) (rs : List Result) (cs : List Request) → fill (sorts_of q.outs ++ sorts_of q.locals) (record { store = record { globals = globals; locals = args }; values = values ++ vs; results = rs; calls = cs }) ≡ Some (record { store = record { globals = globals; locals = args ++ values }; values = vs; results = rs; calls = cs })) →
    (r : Result) → RunsOn (out_of v) v.w.bound consts (proc_of v.w.prog p q Whole) (here_at v p [] frames) (own_block v.w.prog p q Whole 0 b).cmds (own_block v.w.prog p q Whole 0 b).next (wide [] (zeros_of q) (record { globals = globals; locals = args ++ values })) r →
    RunsBelow (out_of v) v.w.bound consts passed (record { proc = p; globals = globals; args = args }) r
source_below v consts passed p q frames b globals args values proc_is there passed_is seldom gs args_have h r k =
    let code = proc_of v.w.prog p q Whole in
    let is = v.x.whole_there p q proc_is in
    let kind : kind_of (slice_get (out_of v).procs p) ≡ Source p = ap kind_of is in
    record {
      run = node (record { proc = p; path = 0 ∷ k.path; places = k.places; values = (values ++ zeros_of q) ++ k.values }) k.below;
      is_call = (
        code,
        record { store = record { globals = globals; locals = (args ++ values) ++ zeros_of q }; values = k.values; results = []; calls = [] },
        record { same = refl; proc = is; globals = gs; args = args_have; begin_is = flat_begin v p q globals args values k.values h },
        (k.results, k.calls, (k.path, own_block v.w.prog p q Whole 0 b, refl, ap (slice_get code.blocks) (sym (v.x.first_whole p q proc_is)) ∙ there, k.tail []), k.answers),
      );
      may = subst (λ kd. IsTrue (may_follow v.w.bound kd p passed)) (sym kind) seldom;
      capped = subst (λ h. CappedBelow k.below (out_of v) v.w.bound (p ∷ h)) passed_is k.capped;
    }

call_outcome : (v : Setting) (m : ℕ) → SpotClaim v m → (turns less : ℕ) (consts : List Value) (s : Spot) (store : Store) (p : ℕ) (q : SrcProc) (args : List (List ExprNode)) (outs : List Var) (cmds : List Cmd) → less < turns → turns < suc m → IsSpot v s (Call p args outs ∷ cmds) →
    slice_get v.w.prog.procs p ≡ Some q → HasVariables (scope_of v.w.prog s.q) (env_with consts store) → targets_fit (scope_of v.w.prog s.q) q.outs outs ≡ true →
    Outcome v (λ r. RunsBelow (out_of v) v.w.bound consts (here_at v s.proc s.laps s.frames) (request consts store p args) r) less consts p q [] outs (frame_at (one_further s) store.locals ∷ s.frames) →
    Outcome v (SpotRest v consts s (Call p args outs ∷ cmds) store) turns consts s.proc s.q s.laps s.outs s.frames
call_outcome v m ih turns less consts s store p q args outs cmds lt le i proc_is has targets (inl k) =
    let by = length s.before in
    let fits = fits_at v s (Call p args outs) cmds i in
    let asks = moved_values consts s.before s.others store args (call_reads (scope_of v.w.prog s.q) (env_with consts store) has v.w.prog.procs p args outs fits) in
    let asked : request consts (wide s.before s.others store) p (map (moved by) args) ≡ request consts store p args = ap (λ (vs : List Value). record { proc = p; globals = store.globals; args = vs }) asks in
    outcome_fails v (SpotRest v consts s (Call p args outs ∷ cmds) store) turns consts s.proc s.q s.laps s.outs s.frames
    (call_fails_here (out_of v) v.w.bound consts (code_of v s.proc s.q s.laps) (here_at v s.proc s.laps s.frames) p (map (moved by) args) (map (behind by) outs) (spot_cmds v s cmds) (next_at s) (wide s.before s.others store) v.w.proc v.w.number
    (subst (λ req. RunsBelow (out_of v) v.w.bound consts (here_at v s.proc s.laps s.frames) req (Broken v.w.proc v.w.number)) (sym asked) k))
call_outcome v m ih turns less consts s store p q args outs cmds lt le i proc_is has targets (inr (os, gs, k, os_have, gs_have, l)) =
    let by = length s.before in
    let scope = scope_of v.w.prog s.q in
    let after = write_all (record { globals = gs; locals = store.locals }) outs os in
    let fits = fits_at v s (Call p args outs) cmds i in
    let asks = moved_values consts s.before s.others store args (call_reads scope (env_with consts store) has v.w.prog.procs p args outs fits) in
    let asked : request consts (wide s.before s.others store) p (map (moved by) args) ≡ request consts store p args = ap (λ (vs : List Value). record { proc = p; globals = store.globals; args = vs }) asks in
    let move = scope_moved v s.proc s.q (scope_at s.laps) by i.before_is in
    let within = outs_within scope (flat_program.scope_of (out_of v) (code_of v s.proc s.q s.laps)) by move q.outs outs targets in
    let long = have_length store.locals (locals_of s.q) (store_is v s.q consts store has).locals in
    let gets = moved_writes s.before s.others (length (locals_of s.q)) outs (record { globals = gs; locals = store.locals }) os long within in
    let can : can_come_back (out_of v) p os gs ≡ true =
    ap (λ o. have_sorts os (flat_program.outs_at o) && have_sorts gs (out_of v).globals) (v.x.whole_there p q proc_is) ∙ and-both (have_sorts os (sorts_of q.outs)) (have_sorts gs (sorts_of v.w.prog.globals)) os_have gs_have in
    let ll = l.smaller in
    outcome_map v (SpotRest v consts (one_further s) cmds after) (SpotRest v consts s (Call p args outs ∷ cmds) store) l.less turns consts s.proc s.q s.laps s.outs s.frames (omega arith)
    (λ result rest. over_call (out_of v) v.w.bound consts (code_of v s.proc s.q s.laps) (here_at v s.proc s.laps s.frames) p (map (moved by) args) (map (behind by) outs) (spot_cmds v s cmds) (next_at s) (wide s.before s.others store) (wide s.before s.others after) os gs result
    (subst (λ req. RunsBelow (out_of v) v.w.bound consts (here_at v s.proc s.laps s.frames) req (Ended os gs)) (sym asked) k) can gets rest)
    (ih l.less consts (one_further s) cmds after (omega arith) (spot_on v s (Call p args outs) cmds i) l.fails)

no_tail : (w : World) (turns : ℕ) (consts globals : List Value) (sorts : List Sort) (frames : List Frame) → FailsFrom w turns (wanting consts globals (locals_wanted sorts) frames) → FailsFrom w turns (wanting consts globals (locals_wanted sorts ++ []) frames)
no_tail w turns consts globals sorts frames r = subst (λ ws. FailsFrom w turns (wanting consts globals ws frames)) (sym (append-nil (locals_wanted sorts))) r

pub begin_variables : (v : Setting) (turns : ℕ) (consts : List Value) (p : ℕ) (q : SrcProc) (outs : List Var) (frames : List Frame) (store : Store) → slice_get v.w.prog.procs p ≡ Some q → FailsFrom v.w turns (begin_at consts store p outs frames 0 []) → HasVariables (scope_of v.w.prog q) (env_with consts store)
begin_variables v turns consts p q outs frames store proc_is r =
    has_variables v.w.prog (begin_at consts store p outs frames 0 []) (record { proc = p; block = 0; at = 0; locals = store.locals; laps = []; outs = outs }) frames q (complete v.w.prog (begin_at consts store p outs frames 0 []) r.sorted tt) refl proc_is

-- what is known of a procedure that is called
pub record Opened (v : Setting) (turns : ℕ) (consts : List Value) (p : ℕ) (q : SrcProc) (outs : List Var) (frames : List Frame) (globals args : List Value) : Type 0 where
  pub values : List Value
  pub less : ℕ
  pub smaller : less ≤ turns
  pub passes : (vs : List Value) (rs : List Result) (cs : List Request) → fill (sorts_of q.outs ++ sorts_of q.locals) (record { store = record { globals = globals; locals = args }; values = values ++ vs; results = rs; calls = cs }) ≡ Some (record { store = record { globals = globals; locals = args ++ values }; values = vs; results = rs; calls = cs })
  pub sorted : IsStore v.w.prog q (record { globals = globals; locals = args ++ values })
  pub consts_sorted : HaveSorts consts (sorts_of v.w.prog.consts) []
  pub arrives : Arrived v less consts p q [] outs frames [] (zeros_of q) 0 (record { globals = globals; locals = args ++ values })

pub opened : (v : Setting) (m : ℕ) → SpotClaim v m → (turns : ℕ) (consts : List Value) (p : ℕ) (q : SrcProc) (outs : List Var) (frames : List Frame) (globals args : List Value) → turns < m → slice_get v.w.prog.procs p ≡ Some q →
    FailsFrom v.w turns (wanting consts globals (locals_wanted (sorts_of q.outs ++ sorts_of q.locals)) (record { proc = p; block = 0; at = 0; locals = args; laps = []; outs = outs } ∷ frames)) → Opened v turns consts p q outs frames globals args
opened v m ih turns consts p q outs frames globals args lt proc_is r =
    let own = sorts_of q.outs ++ sorts_of q.locals in
    let f : Frame = record { proc = p; block = 0; at = 0; locals = args; laps = []; outs = outs } in
    let h = after_fill v.w own turns consts globals args [] f frames (no_tail v.w turns consts globals own (f ∷ frames) r) in
    let lh = h.smaller in
    let begin : Store = record { globals = globals; locals = args ++ h.values } in
    let has = begin_variables v h.less consts p q outs frames begin proc_is h.fails in
    record {
      values = h.values;
      less = h.less;
      smaller = h.smaller;
      passes = h.passes;
      sorted = store_is v q consts begin has;
      consts_sorted = has.consts;
      arrives = arrived v m ih h.less consts p q [] outs frames [] (zeros_of q) 0 begin (omega arith) proc_is (v.x.inside_first p q proc_is) tt refl (zeros_count (reached_loops q)) h.fails;
    }

step_call : (v : Setting) (m : ℕ) → SpotClaim v m → (turns : ℕ) (consts : List Value) (s : Spot) (p : ℕ) (args : List (List ExprNode)) (outs : List Var) (cmds : List Cmd) (store : Store) → turns < suc m → IsSpot v s (Call p args outs ∷ cmds) →
    FailsFrom v.w turns (config_at s consts store) → Outcome v (SpotRest v consts s (Call p args outs ∷ cmds) store) turns consts s.proc s.q s.laps s.outs s.frames
step_call v m ih turns consts s p args outs cmds store le i r =
    let l = tick_on v turns consts s (Call p args outs) cmds store i r in
    let c = called v l.less consts s store p args outs (slice_get v.w.prog.procs p) refl l.fails in
    let frames' = frame_at (one_further s) store.locals ∷ s.frames in
    let lt = l.smaller in
    let values0 = map (eval (env_with consts store)) args in
    let has = variables_at v turns consts s (Call p args outs ∷ cmds) store i r in
    let scope = scope_of v.w.prog s.q in
    let fits : call_fits scope (Some c.q) args outs ≡ true = ap (λ o. call_fits scope o args outs) (sym c.proc_is) ∙ fits_at v s (Call p args outs) cmds i in
    let targets = and-second (args_fit scope c.q.ins args) _ fits in
    let o = opened v m ih l.less consts p c.q outs frames' store.globals values0 (omega arith) c.proc_is c.fails in
    let long : length values0 ≡ length (sorts_of c.q.ins) = length-map args (eval (env_with consts store)) ∙ (args_length scope c.q.ins args (and-first (args_fit scope c.q.ins args) _ fits) ∙ sym (length-map c.q.ins (λ (n : Named). n.sort))) in
    let own_args = front_sorts values0 o.values (sorts_of c.q.ins) (sorts_of c.q.outs ++ sorts_of c.q.locals) long o.sorted.locals in
    let here = here_at v s.proc s.laps s.frames in
    let seldom : nat_lt (times p here) v.w.bound ≡ true = ap (λ n. nat_lt n v.w.bound) (times_open v p c.q (frame_at s store.locals ∷ s.frames) c.proc_is) ∙ c.seldom in
    call_outcome v m ih turns l.less consts s store p c.q args outs cmds l.smaller le i c.proc_is has targets
    (outcome_map v (λ r. RunsOn (out_of v) v.w.bound consts (code_of v p c.q []) (here_at v p [] frames') (own_block v.w.prog p c.q Whole 0 o.arrives.b).cmds (own_block v.w.prog p c.q Whole 0 o.arrives.b).next (wide [] (zeros_of c.q) (record { globals = store.globals; locals = values0 ++ o.values })) r)
    (λ r. RunsBelow (out_of v) v.w.bound consts here (request consts store p args) r) o.less l.less consts p c.q [] outs frames' o.smaller
    (source_below v consts here p c.q frames' o.arrives.b store.globals values0 o.values c.proc_is o.arrives.there refl seldom o.sorted.globals own_args o.passes) o.arrives.outcome)

-- ---- the end of a block

land_from : (v : Setting) (m : ℕ) → EdgeClaim v m → (turns less : ℕ) (from : From) (consts : List Value) (s : Spot) (store : Store) (place : ℕ) (dest : Dest) → less < turns → turns < suc m → IsSpot v s [] → IsStore v.w.prog s.q store → dest_of s.b.next place ≡ Some dest →
    FailsFrom v.w less (proceed v from consts s.proc s.q s.laps s.outs s.frames store dest) → Outcome v (SpotRest v consts s [] store) turns consts s.proc s.q s.laps s.outs s.frames
land_from v m ih turns less from consts s store place dest lt le i sorted dest_is r =
    let edge : IsEdge s.q s.number place dest = record { block = s.b; block_is = i.block_is; dest_is = dest_is } in
    outcome_map v (EdgeRest v consts s.proc s.q s.laps s.frames (next_at s) s.before s.others store) (SpotRest v consts s [] store) (suc less) turns consts s.proc s.q s.laps s.outs s.frames (omega arith) (λ result k. k)
    (ih less from consts s.proc s.q s.laps s.outs s.frames s.before s.others s.number place dest store (next_at s) place (omega arith)
    (record { proc_is = i.proc_is; edge = edge; seen = v.x.seen_own s.proc s.q (scope_at s.laps) s.number place dest i.proc_is i.inside edge; around = i.around; before_is = i.before_is; others_is = i.others_is; sorted = sorted })
    (own_reaches s.q (scope_at s.laps) s.number place s.b.next dest dest_is) r)

-- the loops of the frame's procedure
jump_is : (v : Setting) (turns : ℕ) (consts globals : List Value) (wants : List Want) (s : Spot) (store : Store) (to : ℕ) → slice_get v.w.prog.procs s.proc ≡ Some s.q →
    FailsFrom v.w turns (arrive (loops_of (slice_get v.w.prog.procs s.proc)) v.w.bound (wanting consts globals wants (frame_at s store.locals ∷ s.frames)) (frame_at s store.locals) s.frames to s.laps) →
    FailsFrom v.w turns (arrive s.q.loops v.w.bound (wanting consts globals wants (frame_at s store.locals ∷ s.frames)) (frame_at s store.locals) s.frames to s.laps)
jump_is v turns consts globals wants s store to e r = subst (λ o. FailsFrom v.w turns (arrive (loops_of o) v.w.bound (wanting consts globals wants (frame_at s store.locals ∷ s.frames)) (frame_at s store.locals) s.frames to s.laps)) e r

leave_is : (w : World) (turns : ℕ) (consts globals : List Value) (frames0 : List Frame) (outs : List Var) (values : List Value) (frames : List Frame) → FailsFrom w turns (leave (going consts globals frames0) outs values frames) → FailsFrom w turns (leave (going consts globals []) outs values frames)
leave_is w turns consts globals frames0 outs values [] r = r
leave_is w turns consts globals frames0 outs values (f ∷ fs) r = r

follow_outcome : (v : Setting) (m : ℕ) → EdgeClaim v m → (turns less : ℕ) (consts : List Value) (s : Spot) (store : Store) (next : Next) → less < turns → turns < suc m → IsSpot v s [] → IsStore v.w.prog s.q store → s.b.next ≡ next →
    FailsFrom v.w less (follow v.w.prog v.w.bound (config_at s consts store) s.q (frame_at s store.locals) s.frames next) → Outcome v (SpotRest v consts s [] store) turns consts s.proc s.q s.laps s.outs s.frames
follow_outcome v m ih turns less consts s store Return lt le i sorted e r =
    land_from v m ih turns less (record { wants = []; frames = []; block = 0; at = 0; laps = [] }) consts s store 0 Back lt le i sorted (ap (λ n. dest_of n 0) e) (leave_is v.w less consts store.globals (frame_at s store.locals ∷ s.frames) s.outs _ s.frames r)
follow_outcome v m ih turns less consts s store (Goto []) lt le i sorted e r = absurd (is_over v.w less (config_at s consts store) Blocked blocked r)
follow_outcome v m ih turns less consts s store (Goto (to ∷ [])) lt le i sorted e r =
    land_from v m ih turns less (record { wants = []; frames = frame_at s store.locals ∷ s.frames; block = s.number; at = s.at; laps = s.laps }) consts s store 0 (At to) lt le i sorted (ap (λ n. dest_of n 0) e) (jump_is v less consts store.globals [] s store to i.proc_is r)
follow_outcome v m ih turns less consts s store (Goto (a ∷ b ∷ targets)) lt le i sorted e r =
    let h = after_target v.w less consts store.globals (a ∷ b ∷ targets) (frame_at s store.locals) s.frames r in
    let hl = h.smaller in
    land_from v m ih turns h.less (record { wants = ATarget (a ∷ b ∷ targets) ∷ []; frames = frame_at s store.locals ∷ s.frames; block = s.number; at = s.at; laps = s.laps }) consts s store h.placed.place (At h.placed.to) (omega arith) le i sorted
    (ap (λ n. dest_of n h.placed.place) e ∙ ap (option_map At) h.placed.found) (jump_is v h.less consts store.globals (ATarget (a ∷ b ∷ targets) ∷ []) s store h.placed.to i.proc_is h.placed.fails)

step_end : (v : Setting) (m : ℕ) → EdgeClaim v m → (turns : ℕ) (consts : List Value) (s : Spot) (store : Store) → turns < suc m → IsSpot v s [] → FailsFrom v.w turns (config_at s consts store) → Outcome v (SpotRest v consts s [] store) turns consts s.proc s.q s.laps s.outs s.frames
step_end v m ih turns consts s store le i r =
    let l = after_tick v.w turns consts store.globals (frame_at s store.locals ∷ s.frames) (follow v.w.prog v.w.bound (config_at s consts store) s.q (frame_at s store.locals) s.frames s.b.next) (tick_at v consts s [] store None i (drop_none s.at s.b.cmds i.left)) r in
    follow_outcome v m ih turns l.less consts s store s.b.next l.smaller le i (store_is v s.q consts store (variables_at v turns consts s [] store i r)) refl l.fails

step : (v : Setting) (m : ℕ) → SpotClaim v m → EdgeClaim v m → SpotClaim v (suc m)
step v m ih land turns consts s [] store le i r = step_end v m land turns consts s store le i r
step v m ih land turns consts s (Assign pairs ∷ cmds) store le i r = step_assign v m ih turns consts s pairs cmds store le i r
step v m ih land turns consts s (Havoc xs ∷ cmds) store le i r = step_havoc v m ih turns consts s xs cmds store le i r
step v m ih land turns consts s (Assume e ∷ cmds) store le i r = step_assume v m ih turns consts s e cmds store le i r
step v m ih land turns consts s (Assert n e ∷ cmds) store le i r = step_assert v m ih turns consts s n e cmds store le i r
step v m ih land turns consts s (Call p args outs ∷ cmds) store le i r = step_call v m ih turns consts s p args outs cmds store le i r

-- both claims, by induction on the number of turns
pub both_claims : (v : Setting) (m : ℕ) → SpotClaim v m × EdgeClaim v m
both_claims v zero = (λ turns consts s cmds store le i r. absurd (omega arith), λ turns from consts p q laps outs frames before others b place dest store next at le l there r. absurd (omega arith))
both_claims v (suc m) = let k = both_claims v m in let s = step v m k.0 k.1 in (s, land_edge v m s k.1)
