-- The values that commands take are those that are gone behind them.
use Rattle.std.proofs.Common.{◌≡◌, ℕ, zero, suc, true, false, List, [], ◌∷◌, ◌++◌, length, take, sym, ◌∙◌, ap, refl, subst, append-nil, append_assoc}
use Rattle.std.specs.Prelude.{None, Some, if◌then◌else◌, slice_get}
use Rattle.hy_val.specs.declared.value.Value.{Value}
use Rattle.hy_val.specs.declared.expr.Env.{Env}
use Rattle.hy_val.specs.declared.expr.Var.{Var}
use Rattle.hy_val.specs.Stores.{holds, is_value_of}
use Rattle.flat_prog.specs.declared.block.FlatCmd.{FlatCmd}
use Rattle.flat_prog.specs.declared.block.FlatCmd.TheVariants.{Assign, Havoc, Assume, Assert, Call}
use Rattle.flat_prog.specs.declared.proc.FlatProc.{FlatProc}
use Rattle.flat_prog.specs.Local.{Result, Ended, Broken, Request}
use Rattle.passive_form.specs.Limited.{Limited}
use Rattle.passive_form.specs.Local.{State, alone, request, sort_of, write, write_all, result_fits, after_call, targets_of, assigned, havoc, havoc_with, come_back, pass, pass_all, cmds_of}
use Rattle.vc_gen.specs.Fold.{Edge, Given, Seen, seen, seen_at, reached, entered, closed, step, Dead, One}
use Rattle.vc_gen.specs.Breaking.{breaks_at}
use Rattle.vc_gen.specs.Taken.{taken_at, taken_behind, values_on, values_seen, all_values}
use Rattle.vc_gen.proofs.Frames.{choose_some, and_then_some}
use Rattle.vc_gen.proofs.Edges.{dead_reached, dead_step, one_unreached, end_step}
use Rattle.vc_gen.proofs.Sound.{closed_is}

one_taken : (flat : Limited) (q : FlatProc) (x : Var) (s t : State) (values : List Value) → havoc_with flat q x s values ≡ Some t → values ≡ take 1 values ++ t.values
one_taken flat q x s t [] h = cc
one_taken flat q x s t (v ∷ vs) h =
    let c = choose_some (is_value_of (sort_of flat q x) v) (alone (write s.env x v) vs s.results s.calls) t h in
    ap (λ (y : State). v ∷ y.values) c.1

havoc_taken : (flat : Limited) (q : FlatProc) (xs : List Var) (s m : State) → havoc flat q xs s ≡ Some m → s.values ≡ take (length xs) s.values ++ m.values
havoc_taken flat q [] s m h = let e : s ≡ m = cc in ap (λ (x : State). x.values) e
havoc_taken flat q (x ∷ xs) s m h =
    let t = and_then_some (havoc flat q xs) (havoc_with flat q x s s.values) m h in
    by s.values (t.0).values m.values (one_taken flat q x s t.0 s.values t.1) (havoc_taken flat q xs t.0 m t.2)
  where
    by : (vs ts ms : List Value) → vs ≡ take 1 vs ++ ts → ts ≡ take (length xs) ts ++ ms → vs ≡ take (suc (length xs)) vs ++ ms
    by [] [] [] e k = refl
    by [] [] (m ∷ ms) e k = let w : [] ≡ take (length xs) [] ++ m ∷ ms = k in none (length xs) w
      where
        none : (n : ℕ) → [] ≡ take n [] ++ m ∷ ms → [] ≡ m ∷ ms
        none zero z = z
        none (suc n) z = z
    by [] (t ∷ ts) ms e k = cc
    by (v ∷ vs) ts ms e k = let z : vs ≡ ts = cc in ap (λ r. v ∷ r) (subst (λ (w : List Value). w ≡ take (length xs) w ++ ms) (sym z) k)

call_takes : (flat : Limited) (s m : State) (call : Request) (outs : List Var) (results : List Result) → come_back flat s call outs results ≡ Some m → s.values ≡ m.values
call_takes flat s m call outs [] h = cc
call_takes flat s m call outs (Broken a b ∷ rs) h = cc
call_takes flat s m call outs (Ended os gs ∷ rs) h =
    let c = choose_some (result_fits flat call.proc os gs) (alone (write_all (after_call flat call.proc s.env gs) outs os) s.values rs (s.calls ++ call ∷ [])) m h in
    ap (λ (y : State). y.values) c.1

one_takes : (flat : Limited) (q : FlatProc) (c : FlatCmd) (s m : State) → pass flat q c s ≡ Some m → s.values ≡ taken_at c s ++ m.values
one_takes flat q (Assign pairs) s m h =
    let e : ◌≡◌ {A = State} (alone (write_all s.env (targets_of pairs) (assigned s.env pairs)) s.values s.results s.calls) m = cc in
    ap (λ (x : State). x.values) e
one_takes flat q (Havoc xs) s m h = havoc_taken flat q xs s m h
one_takes flat q (Assume e) s m h = ap (λ (x : State). x.values) (choose_some (holds s.env e) s m h).1
one_takes flat q (Assert p n e) s m h = ap (λ (x : State). x.values) (choose_some (holds s.env e) s m h).1
one_takes flat q (Call p args outs) s m h = call_takes flat s m (request s p args) outs s.results h

pub all_takes : (flat : Limited) (q : FlatProc) (cmds : List FlatCmd) (s m : State) → pass_all flat q cmds s ≡ Some m → s.values ≡ values_on flat q cmds s ++ m.values
all_takes flat q [] s m h = let e : s ≡ m = cc in ap (λ (x : State). x.values) e
all_takes flat q (c ∷ cs) s m h =
    let t = and_then_some (pass_all flat q cs) (pass flat q c s) m h in
    one_takes flat q c s t.0 t.1 ∙ ap (λ r. taken_at c s ++ r) (all_takes flat q cs t.0 m t.2) ∙ sym (append_assoc (taken_at c s) (values_on flat q cs t.0) m.values)
    ∙ ap (λ o. (taken_at c s ++ taken_behind (values_on flat q cs) o) ++ m.values) (sym t.1)

-- those of some commands, and of the ones behind them
pub values_then : (flat : Limited) (q : FlatProc) (xs ys : List FlatCmd) (s m : State) → pass_all flat q xs s ≡ Some m → values_on flat q (xs ++ ys) s ≡ values_on flat q xs s ++ values_on flat q ys m
values_then flat q [] ys s m p = let e : s ≡ m = cc in ap (values_on flat q ys) e
values_then flat q (x ∷ xs) ys s m p =
    let t = and_then_some (pass_all flat q xs) (pass flat q x s) m p in
    ap (λ o. taken_at x s ++ taken_behind (values_on flat q (xs ++ ys)) o) t.1
    ∙ ap (λ r. taken_at x s ++ r) (values_then flat q xs ys t.0 m t.2)
    ∙ sym (append_assoc (taken_at x s) (values_on flat q xs t.0) (values_on flat q ys m))
    ∙ ap (λ r. r ++ values_on flat q ys m) (sym (ap (λ o. taken_at x s ++ taken_behind (values_on flat q xs) o) t.1))

-- a block that is passed, and leaves nothing, takes all that it is given
pub closed_takes : (flat : Limited) (q : FlatProc) (cmds : List FlatCmd) (env : Env) (vs : List Value) (rs : List Result) (s : State) → closed (pass_all flat q cmds (alone env vs rs [])) ≡ Some s → vs ≡ values_on flat q cmds (alone env vs rs [])
closed_takes flat q cmds env vs rs s h =
    let r = closed_is (pass_all flat q cmds (alone env vs rs [])) s h in
    all_takes flat q cmds (alone env vs rs []) s r.0 ∙ ap (λ x. values_on flat q cmds (alone env vs rs []) ++ x) r.1 ∙ append-nil (values_on flat q cmds (alone env vs rs []))

-- nothing is taken at a command that fails, nor behind it
pub none_at : (c : FlatCmd) (s t : State) → breaks_at c s ≡ true → taken_at c t ≡ []
none_at (Assign pairs) s t h = cc
none_at (Havoc xs) s t h = cc
none_at (Assume e) s t h = cc
none_at (Assert p n e) s t h = refl
none_at (Call p args outs) s t h = refl

-- ---- where the run isn't

pub off_takes : (flat : Limited) (q : FlatProc) (d : Env) (g : Given) (es : List Edge) → reached g.number es ≡ false → values_seen flat q (seen_at d g es) ≡ []
off_takes flat q d g es off = ap (λ b. if b then values_on flat q (cmds_of (slice_get q.blocks g.number)) (alone (entered g.number d es) g.values g.results []) else []) off

pub past_takes : (flat : Limited) (q : FlatProc) (d : Env) (g : Given) (gs : List Given) (es : List Edge) → reached g.number es ≡ false → all_values flat q (seen flat q d (g ∷ gs) es) ≡ all_values flat q (seen flat q d gs (step flat q d g es))
past_takes flat q d g gs es off = ap (λ r. r ++ all_values flat q (seen flat q d gs (step flat q d g es))) (off_takes flat q d g es off)

pub dead_takes : (flat : Limited) (q : FlatProc) (d : Env) (gs : List Given) (es : List Edge) → Dead es → all_values flat q (seen flat q d gs es) ≡ []
dead_takes flat q d [] es k = refl
dead_takes flat q d (g ∷ gs) es k = past_takes flat q d g gs es (dead_reached g.number es k) ∙ dead_takes flat q d gs (step flat q d g es) (dead_step flat q d g es k)

pub end_takes : (flat : Limited) (q : FlatProc) (d : Env) (gs : List Given) (es : List Edge) (env : Env) → One es None env → all_values flat q (seen flat q d gs es) ≡ []
end_takes flat q d [] es env one = refl
end_takes flat q d (g ∷ gs) es env one =
    past_takes flat q d g gs es (one_unreached g.number es None env refl one) ∙ end_takes flat q d gs (step flat q d g es) env (end_step flat q d g es None env refl one)

-- one block more
pub takes_push : (flat : Limited) (q : FlatProc) (xs : List Seen) (x : Seen) → all_values flat q (xs ++ x ∷ []) ≡ all_values flat q xs ++ values_seen flat q x
takes_push flat q [] x = append-nil (values_seen flat q x)
takes_push flat q (y ∷ xs) x = ap (λ r. values_seen flat q y ++ r) (takes_push flat q xs x) ∙ sym (append_assoc (values_seen flat q y) (all_values flat q xs) (values_seen flat q x))
