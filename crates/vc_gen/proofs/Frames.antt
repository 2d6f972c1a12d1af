-- Commands leave what they do not take: values and results that come after, and calls that came before.
use Rattle.std.proofs.Common.{◌≡◌, ℕ, Bool, true, false, if◌then◌else◌, List, [], ◌∷◌, ◌++◌, ◌∙◌, ap, refl, append_assoc}
use Rattle.std.specs.Prelude.{Option, None, Some, option_and_then, slice_get}
use Rattle.flat_prog.specs.declared.block.FlatBlock.{FlatBlock}
use Rattle.hy_val.specs.declared.value.Value.{Value}
use Rattle.hy_val.specs.declared.expr.Var.{Var}
use Rattle.flat_prog.specs.declared.block.FlatCmd.{FlatCmd}
use Rattle.flat_prog.specs.declared.block.FlatCmd.TheVariants.{Assign, Havoc, Assume, Assert, Call}
use Rattle.flat_prog.specs.declared.proc.FlatProc.{FlatProc}
use Rattle.passive_form.specs.Limited.{Limited}
use Rattle.passive_form.specs.Local.{State, alone, havoc, havoc_with, pass, pass_all, come_back, request, sort_of, result_fits, after_call, write, write_all, targets_of, assigned, walk, is_target, cmds_of}
use Rattle.flat_prog.specs.Local.{Request, Result, Ended, Broken}
use Rattle.hy_val.specs.Stores.{holds, is_value_of}
use Rattle.flat_prog.specs.Shape.{place_at}

-- the same state with more to come and more behind
abbrev pub framed : List Value → List Result → List Request → State → State
framed values results calls s = record { env = s.env; values = s.values ++ values; results = s.results ++ results; calls = calls ++ s.calls }

pub choose_some : (b : Bool) (s t : State) → (if b then Some s else None) ≡ Some t → (b ≡ true) × (s ≡ t)
choose_some true s t h = (refl, cc)
choose_some false s t h = cc

test_frame : (b : Bool) (vs : List Value) (rs : List Result) (cs : List Request) (s t : State) → (if b then Some s else None) ≡ Some t → (if b then Some (framed vs rs cs s) else None) ≡ Some (framed vs rs cs t)
test_frame true vs rs cs s t h = let e : s ≡ t = cc in ap (λ x. Some (framed vs rs cs x)) e
test_frame false vs rs cs s t h = cc

pub havoc_one_frame : (flat : Limited) (q : FlatProc) (x : Var) (vs : List Value) (rs : List Result) (cs : List Request) (s : State) (values : List Value) (t : State) →
    havoc_with flat q x s values ≡ Some t → havoc_with flat q x (framed vs rs cs s) (values ++ vs) ≡ Some (framed vs rs cs t)
havoc_one_frame flat q x vs rs cs s [] t h = cc
havoc_one_frame flat q x vs rs cs s (v ∷ values) t h =
    test_frame (is_value_of (sort_of flat q x) v) vs rs cs (record { env = write s.env x v; values = values; results = s.results; calls = s.calls }) t h

pub and_then_some : {A B : Type 0} (f : A → Option B) (o : Option A) (b : B) → option_and_then f o ≡ Some b → (a : A) × (o ≡ Some a) × (f a ≡ Some b)
and_then_some f None b h = cc
and_then_some f (Some a) b h = (a, refl, h)

pub havoc_frame : (flat : Limited) (q : FlatProc) (xs : List Var) (vs : List Value) (rs : List Result) (cs : List Request) (s t : State) →
    havoc flat q xs s ≡ Some t → havoc flat q xs (framed vs rs cs s) ≡ Some (framed vs rs cs t)
havoc_frame flat q [] vs rs cs s t h = let e : s ≡ t = cc in ap (λ x. Some (framed vs rs cs x)) e
havoc_frame flat q (x ∷ xs) vs rs cs s t h =
    let m = and_then_some (havoc flat q xs) (havoc_with flat q x s s.values) t h in
    ap (option_and_then (havoc flat q xs)) (havoc_one_frame flat q x vs rs cs s s.values m.0 m.1) ∙ havoc_frame flat q xs vs rs cs m.0 t m.2

call_frame : (flat : Limited) (s : State) (call : Request) (outs : List Var) (results : List Result) (vs : List Value) (rs : List Result) (cs : List Request) (t : State) →
    come_back flat s call outs results ≡ Some t → come_back flat (framed vs rs cs s) call outs (results ++ rs) ≡ Some (framed vs rs cs t)
call_frame flat s call outs [] vs rs cs t h = cc
call_frame flat s call outs (Broken p n ∷ results) vs rs cs t h = cc
call_frame flat s call outs (Ended os gs ∷ results) vs rs cs t h =
    let env = write_all (after_call flat call.proc s.env gs) outs os in
    ap (λ (calls : List Request). if result_fits flat call.proc os gs then Some (alone env (s.values ++ vs) (results ++ rs) calls) else None) (append_assoc cs s.calls (call ∷ []))
    ∙ test_frame (result_fits flat call.proc os gs) vs rs cs (alone env s.values results (s.calls ++ call ∷ [])) t h

pub pass_frame : (flat : Limited) (q : FlatProc) (c : FlatCmd) (vs : List Value) (rs : List Result) (cs : List Request) (s t : State) →
    pass flat q c s ≡ Some t → pass flat q c (framed vs rs cs s) ≡ Some (framed vs rs cs t)
pass_frame flat q (Assign pairs) vs rs cs s t h =
    let e : record { env = write_all s.env (targets_of pairs) (assigned s.env pairs); values = s.values; results = s.results; calls = s.calls } ≡ t = cc in
    ap (λ x. Some (framed vs rs cs x)) e
pass_frame flat q (Havoc xs) vs rs cs s t h = havoc_frame flat q xs vs rs cs s t h
pass_frame flat q (Assume e) vs rs cs s t h = test_frame (holds s.env e) vs rs cs s t h
pass_frame flat q (Assert p n e) vs rs cs s t h = test_frame (holds s.env e) vs rs cs s t h
pass_frame flat q (Call p args outs) vs rs cs s t h = call_frame flat s (request s p args) outs s.results vs rs cs t h

pub pass_all_frame : (flat : Limited) (q : FlatProc) (cmds : List FlatCmd) (vs : List Value) (rs : List Result) (cs : List Request) (s t : State) →
    pass_all flat q cmds s ≡ Some t → pass_all flat q cmds (framed vs rs cs s) ≡ Some (framed vs rs cs t)
pass_all_frame flat q [] vs rs cs s t h = let e : s ≡ t = cc in ap (λ x. Some (framed vs rs cs x)) e
pass_all_frame flat q (c ∷ cmds) vs rs cs s t h =
    let m = and_then_some (pass_all flat q cmds) (pass flat q c s) t h in
    ap (option_and_then (pass_all flat q cmds)) (pass_frame flat q c vs rs cs s m.0 m.1) ∙ pass_all_frame flat q cmds vs rs cs m.0 t m.2

on_edge : (flat : Limited) (q : FlatProc) (n : ℕ) (vs : List Value) (rs : List Result) (cs : List Request) (s t : State) (go : Bool) (rest : State → Option (Option FlatBlock × State)) (b : Option FlatBlock) →
    ((m : State) → rest m ≡ Some (b, t) → rest (framed vs rs cs m) ≡ Some (b, framed vs rs cs t)) →
    (if go then option_and_then rest (pass_all flat q (cmds_of (slice_get q.blocks n)) s) else None) ≡ Some (b, t) →
    (if go then option_and_then rest (pass_all flat q (cmds_of (slice_get q.blocks n)) (framed vs rs cs s)) else None) ≡ Some (b, framed vs rs cs t)
on_edge flat q n vs rs cs s t false rest b f h = cc
on_edge flat q n vs rs cs s t true rest b f h =
    let m = and_then_some rest (pass_all flat q (cmds_of (slice_get q.blocks n)) s) (b, t) h in
    ap (option_and_then rest) (pass_all_frame flat q (cmds_of (slice_get q.blocks n)) vs rs cs s m.0 m.1)
    ∙ f m.0 m.2

some_pair : (a b : Option FlatBlock) (s t : State) → ◌≡◌ {A = Option (Option FlatBlock × State)} (Some (a, s)) (Some (b, t)) → ◌≡◌ {A = Option FlatBlock × State} (a, s) (b, t)
some_pair a b s t h = cc

pub walk_frame : (flat : Limited) (q : FlatProc) (path places : List ℕ) (vs : List Value) (rs : List Result) (cs : List Request) (s t : State) (b : Option FlatBlock) →
    walk flat q path places s ≡ Some (b, t) → walk flat q path places (framed vs rs cs s) ≡ Some (b, framed vs rs cs t)
walk_frame flat q [] places vs rs cs s t b h = cc
walk_frame flat q (n ∷ []) [] vs rs cs s t b h =
    let p = some_pair (slice_get q.blocks n) b s t h in
    let e : s ≡ t = ap (λ x. x.1) p in let f : slice_get q.blocks n ≡ b = ap (λ x. x.0) p in
    ap (λ x. Some (slice_get q.blocks n, framed vs rs cs x)) e ∙ ap (λ x. Some (x, framed vs rs cs t)) f
walk_frame flat q (n ∷ []) (place ∷ places) vs rs cs s t b h = cc
walk_frame flat q (n ∷ next ∷ path) [] vs rs cs s t b h = cc
walk_frame flat q (n ∷ next ∷ path) (place ∷ places) vs rs cs s t b h =
    on_edge flat q n vs rs cs s t (is_target (place_at (slice_get q.blocks n) place) next) (λ x. walk flat q (next ∷ path) places x) b (λ m k. walk_frame flat q (next ∷ path) places vs rs cs m t b k) h
