-- Two runs that fail behind the same path, on fronts of the same values and with the same results, take the same values.
use Rattle.std.proofs.Common.{◌≡◌, ℕ, Bool, true, false, List, [], ◌∷◌, ◌++◌, map, sym, ◌∙◌, ap, refl, append-nil, append_assoc}
use Rattle.std.specs.Prelude.{Option, None, Some, if◌then◌else◌, slice_get}
use Rattle.std.specs.Option.{option_and_then}
use Rattle.hy_val.specs.declared.value.Value.{Value}
use Rattle.hy_val.specs.declared.expr.Env.{Env}
use Rattle.hy_val.specs.declared.expr.Var.{Var}
use Rattle.hy_val.specs.Stores.{holds, is_value_of}
use Rattle.flat_prog.specs.declared.block.FlatBlock.{FlatBlock}
use Rattle.flat_prog.specs.declared.block.FlatCmd.{FlatCmd}
use Rattle.flat_prog.specs.declared.block.FlatCmd.TheVariants.{Assign, Havoc, Assume, Assert, Call}
use Rattle.flat_prog.specs.declared.proc.FlatProc.{FlatProc}
use Rattle.flat_prog.specs.Local.{Result, Ended, Broken, Request}
use Rattle.flat_prog.specs.Shape.{place_at}
use Rattle.passive_form.specs.Limited.{Limited}
use Rattle.passive_form.specs.Local.{State, alone, request, sort_of, write, write_all, result_fits, after_call, havoc, havoc_with, come_back, pass, pass_all, cmds_of, fail, call_fails, over, walk, is_target}
use Rattle.vc_gen.specs.Passages.{blame}
use Rattle.vc_gen.specs.Taken.{taken_at, taken_behind, values_on}
use Rattle.vc_gen.proofs.Frames.{framed, and_then_some, pass_all_frame}
use Rattle.vc_gen.proofs.Complete.{some_pair, if_some}
use Rattle.vc_gen.proofs.Failures.{cancel_right}
use Rattle.vc_gen.proofs.Takes.{all_takes, values_then}

-- ---- what a run takes along a path, up to the command that stops it

abbrev pub walk_values : Limited → FlatProc → ℕ → List ℕ → State → List Value
walk_values flat q b [] s = values_on flat q (cmds_of (slice_get q.blocks b)) s
walk_values flat q b (c ∷ path) s = values_on flat q (cmds_of (slice_get q.blocks b)) s ++ taken_behind (walk_values flat q c path) (pass_all flat q (cmds_of (slice_get q.blocks b)) s)

-- a command that fails holds neither with more values to come, and takes none
call_stops : (flat : Limited) (s t : State) (call own : Request) (outs : List Var) (results : List Result) (r : Result × List Request) → call_fails s call results ≡ Some r → come_back flat t own outs (results ++ []) ≡ None
call_stops flat s t call own outs [] r h = cc
call_stops flat s t call own outs (Ended os gs ∷ rs) r h = cc
call_stops flat s t call own outs (Broken p n ∷ rs) r h = refl

stops : (flat : Limited) (q : FlatProc) (at : FlatCmd) (after : List FlatCmd) (s : State) (more : List Value) (r : Result × List Request) → fail at s ≡ Some r → values_on flat q (at ∷ after) (framed more [] [] s) ≡ []
stops flat q (Assign pairs) after s more r h = cc
stops flat q (Havoc xs) after s more r h = cc
stops flat q (Assume e) after s more r h = cc
stops flat q (Assert p n e) after s more r h = by (holds s.env e) h
  where
    by : (b : Bool) → (if b then None else over p n s.calls s.results) ≡ Some r → taken_behind (values_on flat q after) (if b then Some (framed more [] [] s) else None) ≡ []
    by true k = cc
    by false k = refl
stops flat q (Call p args outs) after s more r h = ap (taken_behind (values_on flat q after)) (call_stops flat s (framed more [] [] s) (request s p args) (request s p args) outs s.results r h)

stop_takes : (flat : Limited) (q : FlatProc) (before : List FlatCmd) (at : FlatCmd) (after : List FlatCmd) (s m : State) (more : List Value) (r : Result × List Request) →
    pass_all flat q before s ≡ Some m → fail at m ≡ Some r → m.values ≡ [] → values_on flat q (before ++ at ∷ after) (framed more [] [] s) ≡ s.values
stop_takes flat q before at after s m more r p f none =
    let fs = framed more [] [] s in
    let fm = framed more [] [] m in
    let go = pass_all_frame flat q before more [] [] s m p in
    let own = values_on flat q before fs in
    let all : own ++ more ≡ s.values ++ more = sym (all_takes flat q before fs fm go ∙ ap (λ x. own ++ (x ++ more)) none) in
    values_then flat q before (at ∷ after) fs fm go ∙ ap (λ x. own ++ x) (stops flat q at after m more r f) ∙ append-nil own ∙ cancel_right own s.values more all

-- a run that fails takes what it has
pub walk_takes : (flat : Limited) (q : FlatProc) (b : ℕ) (path places : List ℕ) (s t m : State) (last : FlatBlock) (before : List FlatCmd) (at : FlatCmd) (after : List FlatCmd) (more : List Value) (r : Result × List Request) →
    walk flat q (b ∷ path) places s ≡ Some (Some last, t) → last.cmds ≡ before ++ at ∷ after → pass_all flat q before t ≡ Some m → fail at m ≡ Some r → m.values ≡ [] → walk_values flat q b path (framed more [] [] s) ≡ s.values
walk_takes flat q b [] [] s t m last before at after more r h e p f none =
    let z = some_pair (slice_get q.blocks b) (Some last) s t h in
    let o : slice_get q.blocks b ≡ Some last = ap (λ x. x.0) z in
    let i : s ≡ t = ap (λ x. x.1) z in
    ap (λ x. values_on flat q (cmds_of x) (framed more [] [] s)) o ∙ ap (λ x. values_on flat q x (framed more [] [] s)) e ∙ ap (λ x. values_on flat q (before ++ at ∷ after) (framed more [] [] x)) i
    ∙ stop_takes flat q before at after t m more r p f none ∙ ap (λ (x : State). x.values) (sym i)
walk_takes flat q b [] (place ∷ places) s t m last before at after more r h e p f none = cc
walk_takes flat q b (c ∷ path) [] s t m last before at after more r h e p f none = cc
walk_takes flat q b (c ∷ path) (place ∷ places) s t m last before at after more r h e p f none =
    let cmds = cmds_of (slice_get q.blocks b) in
    let w = if_some (is_target (place_at (slice_get q.blocks b) place) c) (option_and_then (walk flat q (c ∷ path) places) (pass_all flat q cmds s)) (Some last, t) h in
    let n = and_then_some (walk flat q (c ∷ path) places) (pass_all flat q cmds s) (Some last, t) w.1 in
    let go = pass_all_frame flat q cmds more [] [] s n.0 n.1 in
    let own = values_on flat q cmds (framed more [] [] s) in
    let rest = walk_takes flat q c path places n.0 t m last before at after more r n.2 e p f none in
    whole own s.values (n.0).values more (all_takes flat q cmds (framed more [] [] s) (framed more [] [] n.0) go)
    (ap (λ o. own ++ taken_behind (walk_values flat q c path) o) go ∙ ap (λ x. own ++ x) rest)
  where
    whole : (own vs ws more : List Value) → vs ++ more ≡ own ++ (ws ++ more) → walk_values flat q b (c ∷ path) (framed more [] [] s) ≡ own ++ ws → walk_values flat q b (c ∷ path) (framed more [] [] s) ≡ vs
    whole own vs ws more e k = k ∙ cancel_right (own ++ ws) vs more (append_assoc own ws more ∙ sym e)

-- ---- which assert a callee fails in doesn't matter

abbrev blamed_state : State → State
blamed_state s = record { env = s.env; values = s.values; results = map blame s.results; calls = s.calls }

abbrev blamed_next : Option State → Option State
blamed_next None = None
blamed_next (Some s) = Some (blamed_state s)

test_blamed : (b : Bool) (s : State) → (if b then Some (blamed_state s) else None) ≡ blamed_next (if b then Some s else None)
test_blamed true s = refl
test_blamed false s = refl

next_blamed : (f : State → Option State) → ((m : State) → f (blamed_state m) ≡ blamed_next (f m)) → (b : Bool) (m : State) →
    option_and_then f (if b then Some (blamed_state m) else None) ≡ blamed_next (option_and_then f (if b then Some m else None))
next_blamed f h true m = h m
next_blamed f h false m = refl

then_blamed : (f : State → Option State) → ((m : State) → f (blamed_state m) ≡ blamed_next (f m)) → (o : Option State) → option_and_then f (blamed_next o) ≡ blamed_next (option_and_then f o)
then_blamed f h None = refl
then_blamed f h (Some m) = h m

havoc_blamed : (flat : Limited) (q : FlatProc) (xs : List Var) (s : State) → havoc flat q xs (blamed_state s) ≡ blamed_next (havoc flat q xs s)
havoc_blamed flat q [] s = refl
havoc_blamed flat q (x ∷ xs) s = by s.values
    (λ vs v. next_blamed (havoc flat q xs) (havoc_blamed flat q xs) (is_value_of (sort_of flat q x) v) (alone (write s.env x v) vs s.results s.calls))
  where
    by : (vs : List Value) → ((ws : List Value) (v : Value) → option_and_then (havoc flat q xs) (if is_value_of (sort_of flat q x) v then Some (blamed_state (alone (write s.env x v) ws s.results s.calls)) else None)
        ≡ blamed_next (option_and_then (havoc flat q xs) (if is_value_of (sort_of flat q x) v then Some (alone (write s.env x v) ws s.results s.calls) else None))) →
        option_and_then (havoc flat q xs) (havoc_with flat q x (blamed_state s) vs) ≡ blamed_next (option_and_then (havoc flat q xs) (havoc_with flat q x s vs))
    by [] h = refl
    by (v ∷ vs) h = h vs v

call_blamed : (flat : Limited) (s : State) (call : Request) (outs : List Var) (results : List Result) → come_back flat (blamed_state s) call outs (map blame results) ≡ blamed_next (come_back flat s call outs results)
call_blamed flat s call outs [] = refl
call_blamed flat s call outs (Broken p n ∷ rs) = refl
call_blamed flat s call outs (Ended os gs ∷ rs) =
    test_blamed (result_fits flat call.proc os gs) (alone (write_all (after_call flat call.proc s.env gs) outs os) s.values rs (s.calls ++ call ∷ []))

pass_blamed : (flat : Limited) (q : FlatProc) (c : FlatCmd) (s : State) → pass flat q c (blamed_state s) ≡ blamed_next (pass flat q c s)
pass_blamed flat q (Assign pairs) s = refl
pass_blamed flat q (Havoc xs) s = havoc_blamed flat q xs s
pass_blamed flat q (Assume e) s = test_blamed (holds s.env e) s
pass_blamed flat q (Assert p n e) s = test_blamed (holds s.env e) s
pass_blamed flat q (Call p args outs) s = call_blamed flat s (request s p args) outs s.results

all_blamed : (flat : Limited) (q : FlatProc) (cmds : List FlatCmd) (s : State) → pass_all flat q cmds (blamed_state s) ≡ blamed_next (pass_all flat q cmds s)
all_blamed flat q [] s = refl
all_blamed flat q (c ∷ cs) s = ap (option_and_then (pass_all flat q cs)) (pass_blamed flat q c s) ∙ then_blamed (pass_all flat q cs) (all_blamed flat q cs) (pass flat q c s)

at_blamed : (c : FlatCmd) (s : State) → taken_at c (blamed_state s) ≡ taken_at c s
at_blamed (Assign pairs) s = refl
at_blamed (Havoc xs) s = refl
at_blamed (Assume e) s = refl
at_blamed (Assert p n e) s = refl
at_blamed (Call p args outs) s = refl

behind_blamed : (f : State → List Value) → ((m : State) → f (blamed_state m) ≡ f m) → (o : Option State) → taken_behind f (blamed_next o) ≡ taken_behind f o
behind_blamed f h None = refl
behind_blamed f h (Some m) = h m

values_blamed : (flat : Limited) (q : FlatProc) (cmds : List FlatCmd) (s : State) → values_on flat q cmds (blamed_state s) ≡ values_on flat q cmds s
values_blamed flat q [] s = refl
values_blamed flat q (c ∷ cs) s =
    ap (λ x. x ++ taken_behind (values_on flat q cs) (pass flat q c (blamed_state s))) (at_blamed c s)
    ∙ ap (λ x. taken_at c s ++ x) (ap (taken_behind (values_on flat q cs)) (pass_blamed flat q c s) ∙ behind_blamed (values_on flat q cs) (values_blamed flat q cs) (pass flat q c s))

walk_blamed : (flat : Limited) (q : FlatProc) (b : ℕ) (path : List ℕ) (s : State) → walk_values flat q b path (blamed_state s) ≡ walk_values flat q b path s
walk_blamed flat q b [] s = values_blamed flat q (cmds_of (slice_get q.blocks b)) s
walk_blamed flat q b (c ∷ path) s =
    let cmds = cmds_of (slice_get q.blocks b) in
    ap (λ x. x ++ taken_behind (walk_values flat q c path) (pass_all flat q cmds (blamed_state s))) (values_blamed flat q cmds s)
    ∙ ap (λ x. values_on flat q cmds s ++ x) (ap (taken_behind (walk_values flat q c path)) (all_blamed flat q cmds s) ∙ behind_blamed (walk_values flat q c path) (walk_blamed flat q c path) (pass_all flat q cmds s))

-- the same values from results that are the same but for asserts of callees
pub walk_alike : (flat : Limited) (q : FlatProc) (b : ℕ) (path : List ℕ) (env : Env) (vs : List Value) (rs rs' : List Result) (cs : List Request) → map blame rs ≡ map blame rs' →
    walk_values flat q b path (alone env vs rs cs) ≡ walk_values flat q b path (alone env vs rs' cs)
walk_alike flat q b path env vs rs rs' cs h =
    sym (walk_blamed flat q b path (alone env vs rs cs)) ∙ ap (λ x. walk_values flat q b path (alone env vs x cs)) h ∙ walk_blamed flat q b path (alone env vs rs' cs)
