-- A run that fails in a callee may fail there with any assert.
use Rattle.std.proofs.Common.{◌≡◌, ℕ, Bool, true, false, List, [], ◌∷◌, ◌++◌, map, ◌∙◌, ap}
use Rattle.std.specs.Prelude.{Option, None, Some, if◌then◌else◌, slice_get}
use Rattle.std.specs.Option.{option_and_then}
use Rattle.hy_val.specs.declared.value.Value.{Value}
use Rattle.hy_val.specs.declared.expr.Var.{Var}
use Rattle.flat_prog.specs.declared.block.FlatCmd.{FlatCmd}
use Rattle.flat_prog.specs.declared.block.FlatCmd.TheVariants.{Assign, Havoc, Assume, Assert, Call}
use Rattle.flat_prog.specs.declared.block.FlatBlock.{FlatBlock}
use Rattle.flat_prog.specs.declared.proc.FlatProc.{FlatProc}
use Rattle.passive_form.specs.Limited.{Limited}
use Rattle.passive_form.specs.Local.{State, alone, request, sort_of, result_fits, after_call, write, write_all, targets_of, assigned, havoc, havoc_with, come_back, pass, pass_all, call_fails, over, fail, cmds_of, is_target, walk, LocalFails}
use Rattle.flat_prog.specs.Local.{Request, Result, Ended, Broken, Track}
use Rattle.hy_val.specs.Stores.{holds, is_value_of}
use Rattle.flat_prog.specs.Shape.{place_at}
use Rattle.vc_gen.specs.BlockPlans.{recast}
use Rattle.vc_gen.proofs.Frames.{and_then_some}
use Rattle.vc_gen.proofs.Complete.{if_some, some_pair}

abbrev re : ℕ → ℕ → State → State
re a b s = record s { results = map (recast a b) s.results }

test_re : (a b : ℕ) (t : Bool) (s m : State) → (if t then Some s else None) ≡ Some m → (if t then Some (re a b s) else None) ≡ Some (re a b m)
test_re a b true s m h = let e : s ≡ m = cc in ap (λ x. Some (re a b x)) e
test_re a b false s m h = cc

havoc_re : (flat : Limited) (q : FlatProc) (a b : ℕ) (xs : List Var) (s m : State) → havoc flat q xs s ≡ Some m → havoc flat q xs (re a b s) ≡ Some (re a b m)
havoc_re flat q a b [] s m h = let e : s ≡ m = cc in ap (λ x. Some (re a b x)) e
havoc_re flat q a b (x ∷ xs) s m h =
    let t = and_then_some (havoc flat q xs) (havoc_with flat q x s s.values) m h in
    ap (option_and_then (havoc flat q xs)) (one s.values t.0 t.1) ∙ havoc_re flat q a b xs t.0 m t.2
  where
    one : (vs : List Value) (t : State) → havoc_with flat q x s vs ≡ Some t → havoc_with flat q x (re a b s) vs ≡ Some (re a b t)
    one [] t h = cc
    one (v ∷ vs) t h = test_re a b (is_value_of (sort_of flat q x) v) (alone (write s.env x v) vs s.results s.calls) t h

call_re : (flat : Limited) (a b : ℕ) (s : State) (call : Request) (outs : List Var) (results : List Result) (m : State) → come_back flat s call outs results ≡ Some m → come_back flat (re a b s) call outs (map (recast a b) results) ≡ Some (re a b m)
call_re flat a b s call outs [] m h = cc
call_re flat a b s call outs (Broken p n ∷ rs) m h = cc
call_re flat a b s call outs (Ended os gs ∷ rs) m h =
    test_re a b (result_fits flat call.proc os gs) (alone (write_all (after_call flat call.proc s.env gs) outs os) s.values rs (s.calls ++ call ∷ [])) m h

pass_re : (flat : Limited) (q : FlatProc) (a b : ℕ) (c : FlatCmd) (s m : State) → pass flat q c s ≡ Some m → pass flat q c (re a b s) ≡ Some (re a b m)
pass_re flat q a b (Assign pairs) s m h =
    let e : ◌≡◌ {A = State} (alone (write_all s.env (targets_of pairs) (assigned s.env pairs)) s.values s.results s.calls) m = cc in
    ap (λ x. Some (re a b x)) e
pass_re flat q a b (Havoc xs) s m h = havoc_re flat q a b xs s m h
pass_re flat q a b (Assume e) s m h = test_re a b (holds s.env e) s m h
pass_re flat q a b (Assert p n e) s m h = test_re a b (holds s.env e) s m h
pass_re flat q a b (Call p args outs) s m h = call_re flat a b s (request s p args) outs s.results m h

all_re : (flat : Limited) (q : FlatProc) (a b : ℕ) (cmds : List FlatCmd) (s m : State) → pass_all flat q cmds s ≡ Some m → pass_all flat q cmds (re a b s) ≡ Some (re a b m)
all_re flat q a b [] s m h = let e : s ≡ m = cc in ap (λ x. Some (re a b x)) e
all_re flat q a b (c ∷ cs) s m h =
    let t = and_then_some (pass_all flat q cs) (pass flat q c s) m h in
    ap (option_and_then (pass_all flat q cs)) (pass_re flat q a b c s t.0 t.1) ∙ all_re flat q a b cs t.0 m t.2

walk_re : (flat : Limited) (q : FlatProc) (a b : ℕ) (path places : List ℕ) (s : State) (o : Option FlatBlock) (m : State) → walk flat q path places s ≡ Some (o, m) → walk flat q path places (re a b s) ≡ Some (o, re a b m)
walk_re flat q a b [] places s o m h = cc
walk_re flat q a b (n ∷ []) [] s o m h =
    let e = some_pair (slice_get q.blocks n) o s m h in
    ap {B = Option (Option FlatBlock × State)} (λ x. Some (x, re a b s)) (ap (λ (z : Option FlatBlock × State). z.0) e) ∙ ap {B = Option (Option FlatBlock × State)} (λ x. Some (o, re a b x)) (ap (λ (z : Option FlatBlock × State). z.1) e)
walk_re flat q a b (n ∷ []) (place ∷ places) s o m h = cc
walk_re flat q a b (n ∷ t ∷ path) [] s o m h = cc
walk_re flat q a b (n ∷ t ∷ path) (place ∷ places) s o m h =
    let w = if_some (is_target (place_at (slice_get q.blocks n) place) t) (option_and_then (walk flat q (t ∷ path) places) (pass_all flat q (cmds_of (slice_get q.blocks n)) s)) (o, m) h in
    let k = and_then_some (walk flat q (t ∷ path) places) (pass_all flat q (cmds_of (slice_get q.blocks n)) s) (o, m) w.1 in
    ap (λ x. if x then option_and_then (walk flat q (t ∷ path) places) (pass_all flat q (cmds_of (slice_get q.blocks n)) (re a b s)) else None) w.0
    ∙ ap (option_and_then (walk flat q (t ∷ path) places)) (all_re flat q a b (cmds_of (slice_get q.blocks n)) s k.0 k.1)
    ∙ walk_re flat q a b (t ∷ path) places k.0 o m k.2

-- how it fails then
record Fails (c : FlatCmd) (s : State) (calls : List Request) : Type 0 where
  pub proc : ℕ
  pub number : ℕ
  pub is : fail c s ≡ Some (Broken proc number, calls)

fail_re : (a b : ℕ) (c : FlatCmd) (s : State) (p n : ℕ) (calls : List Request) → fail c s ≡ Some (Broken p n, calls) → Fails c (re a b s) calls
fail_re a b (Assign pairs) s p n calls h = cc
fail_re a b (Havoc xs) s p n calls h = cc
fail_re a b (Assume e) s p n calls h = cc
fail_re a b (Assert x y e) s p n calls h = record { proc = p; number = n; is = by (holds s.env e) s.results h }
  where
    by : (t : Bool) (rs : List Result) → (if t then None else over x y s.calls rs) ≡ Some (Broken p n, calls) → (if t then None else over x y s.calls (map (recast a b) rs)) ≡ Some (Broken p n, calls)
    by true rs h = cc
    by false [] h = h
    by false (r ∷ rs) h = cc
fail_re a b (Call x args outs) s p n calls h =
    let z = by s.results h in
    record { proc = z.0; number = z.1; is = z.2 }
  where
    made_is : (u v : Result × List Request) → Some u ≡ Some v → u.1 ≡ v.1
    made_is u v h = let e : u ≡ v = cc in ap (λ (w : Result × List Request). w.1) e

    by : (rs : List Result) → call_fails s (request s x args) rs ≡ Some (Broken p n, calls) → (proc number : ℕ) × (call_fails s (request s x args) (map (recast a b) rs) ≡ Some (Broken proc number, calls))
    by [] h = cc
    by (Ended os gs ∷ rs) h = cc
    by (Broken u v ∷ []) h = (a, b, ap {B = Option (Result × List Request)} (λ cs. Some (Broken a b, cs)) (made_is (Broken u v, s.calls ++ request s x args ∷ []) (Broken p n, calls) h))
    by (Broken u v ∷ r ∷ rs) h = cc

-- whatever a failing callee fails with
pub fails_again : (flat : Limited) (q : FlatProc) (track : Track) (begin : State) (results : List Result) (calls : List Request) (proc number : ℕ) (a b : ℕ) → LocalFails flat q track begin results calls proc number →
    (p n : ℕ) × LocalFails flat q track begin (map (recast a b) results) calls p n
fails_again flat q track begin results calls proc number a b h =
    let z = fail_re a b h.at h.over proc number calls h.fails in (
      z.proc,
      z.number,
      record {
        last = h.last;
        arrived = re a b h.arrived;
        before = h.before;
        at = h.at;
        after = h.after;
        over = re a b h.over;
        walks = walk_re flat q a b track.path track.places (record begin { results = results }) (Some h.last) h.arrived h.walks;
        splits = h.splits;
        passes = all_re flat q a b h.before h.arrived h.over h.passes;
        fails = z.is;
        taken = h.taken;
      },
    )
