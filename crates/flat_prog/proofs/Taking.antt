-- Commands take values and results from the front, leave the others, and do the same with what they take alone.
use Rattle.std.proofs.Common.{◌≡◌, ℕ, Bool, true, false, if◌then◌else◌, List, [], ◌∷◌, ◌++◌, map, Option, None, Some, refl, sym, ap, ◌∙◌, subst, append_assoc, append-nil, option_and_then}
use Rattle.hy_val.specs.Exprs.{eval}
use Rattle.hy_val.specs.Values.{has_sort}
use Rattle.hy_val.specs.declared.expr.ExprNode.{ExprNode}
use Rattle.hy_val.specs.declared.expr.Var.{Var}
use Rattle.hy_val.specs.declared.sort.Sort.{Sort}
use Rattle.hy_val.specs.declared.value.Value.{Value}
use Rattle.hy_val.specs.Scope.{Scope, sort_of_target}
use Rattle.hy_val.specs.Stores.{Store, write, write_all, holds, env_with, is_value_of}
use Rattle.flat_prog.specs.Program.{FlatProgram, scope_of}
use Rattle.flat_prog.specs.declared.block.FlatCmd.{FlatCmd}
use Rattle.flat_prog.specs.declared.block.FlatCmd.TheVariants.{Assign, Havoc, Assume, Assert, Call}
use Rattle.flat_prog.specs.declared.block.FlatNext.{FlatNext}
use Rattle.flat_prog.specs.declared.proc.FlatProc.{FlatProc}
use Rattle.flat_prog.specs.Local.{Result, Ended, Broken, Request, State, havoc_one, havoc, request, can_come_back, come_back, pass, pass_all, assert_fails, call_fails, fail, Tail, fill_one, fill}
use Rattle.flat_prog.specs.Passing.{stated, Took, CommandsTakeAFront, Called}
use Rattle.flat_prog.specs.Laws.{RunsAddTheirCalls}
use Rattle.flat_prog.proofs.Steps.{and_then_some, if_some}

-- ---- steps

took_as : (f g : State → Option State) (s t : State) → ((u : State) → f u ≡ g u) → Took f s t → Took g s t
took_as f g s t same k = record {
  values = k.values;
  results = k.results;
  calls = k.calls;
  values_are = k.values_are;
  results_are = k.results_are;
  calls_are = k.calls_are;
  alone = λ vs rs cs. sym (same (stated s.store (k.values ++ vs) (k.results ++ rs) cs)) ∙ k.alone vs rs cs;
}

-- nothing is taken
took_none : (step : State → Option State) (s t : State) → s.values ≡ t.values → s.results ≡ t.results → t.calls ≡ s.calls → ((vs : List Value) (rs : List Result) (cs : List Request) → step (stated s.store vs rs cs) ≡ Some (stated t.store vs rs cs)) → Took step s t
took_none step s t values results calls same = record {
  values = [];
  results = [];
  calls = [];
  values_are = values;
  results_are = results;
  calls_are = calls ∙ sym (append-nil s.calls);
  alone = λ vs rs cs. same vs rs cs ∙ ap (λ xs. Some (stated t.store vs rs xs)) (sym (append-nil cs));
}

-- one step after another
pub took_then : (f g : State → Option State) (s m t : State) → Took f s m → Took g m t → Took (λ u. option_and_then g (f u)) s t
took_then f g s m t a b = record {
  values = a.values ++ b.values;
  results = a.results ++ b.results;
  calls = a.calls ++ b.calls;
  values_are = a.values_are ∙ ap (λ xs. a.values ++ xs) b.values_are ∙ sym (append_assoc a.values b.values t.values);
  results_are = a.results_are ∙ ap (λ xs. a.results ++ xs) b.results_are ∙ sym (append_assoc a.results b.results t.results);
  calls_are = b.calls_are ∙ ap (λ xs. xs ++ b.calls) a.calls_are ∙ append_assoc s.calls a.calls b.calls;
  alone = λ vs rs cs.
      ap (λ xs. option_and_then g (f (stated s.store xs ((a.results ++ b.results) ++ rs) cs))) (append_assoc a.values b.values vs)
      ∙ ap (λ xs. option_and_then g (f (stated s.store (a.values ++ (b.values ++ vs)) xs cs))) (append_assoc a.results b.results rs)
      ∙ ap (option_and_then g) (a.alone (b.values ++ vs) (b.results ++ rs) cs)
      ∙ b.alone vs rs (cs ++ a.calls)
      ∙ ap (λ xs. Some (stated t.store vs rs xs)) (append_assoc cs a.calls b.calls);
}

-- ---- commands

havoc_one_took : (scope : Scope) (x : Var) (s t : State) (values : List Value) → s.values ≡ values → havoc_one scope x s values ≡ Some t → Took (λ u. havoc_one scope x u u.values) s t
havoc_one_took scope x s t [] are h = cc
havoc_one_took scope x s t (v ∷ rest) are h =
    let m : State = record s { store = write s.store x v; values = rest } in
    let c = if_some (is_value_of (sort_of_target scope x) v) m t h in
    record {
      values = v ∷ [];
      results = [];
      calls = [];
      values_are = are ∙ ap (λ (u : State). v ∷ u.values) c.1;
      results_are = ap (λ (u : State). u.results) c.1;
      calls_are = ap (λ (u : State). u.calls) (sym c.1) ∙ sym (append-nil s.calls);
      alone = λ vs rs cs.
          ap (λ b. if b then Some (stated (write s.store x v) vs rs cs) else None) c.0
          ∙ ap (λ (u : State). Some (stated u.store vs rs cs)) c.1
          ∙ ap (λ xs. Some (stated t.store vs rs xs)) (sym (append-nil cs));
    }

havoc_took : (scope : Scope) (xs : List Var) (s t : State) → havoc scope xs s ≡ Some t → Took (havoc scope xs) s t
havoc_took scope [] s t h =
    let e : s ≡ t = cc in
    took_none (havoc scope []) s t (ap (λ (u : State). u.values) e) (ap (λ (u : State). u.results) e) (ap (λ (u : State). u.calls) (sym e)) (λ vs rs cs. ap (λ (u : State). Some (stated u.store vs rs cs)) e)
havoc_took scope (x ∷ xs) s t h =
    let m = and_then_some (havoc scope xs) (havoc_one scope x s s.values) t h in
    took_as (λ u. option_and_then (havoc scope xs) (havoc_one scope x u u.values)) (havoc scope (x ∷ xs)) s t (λ u. refl)
    (took_then (λ u. havoc_one scope x u u.values) (havoc scope xs) s m.0 t (havoc_one_took scope x s m.0 s.values refl m.1) (havoc_took scope xs m.0 t m.2))

call_took : (flat : FlatProgram) (consts : List Value) (p : ℕ) (args : List (List ExprNode)) (outs : List Var) (s t : State) (results : List Result) → s.results ≡ results →
    come_back flat s (request consts s.store p args) outs results ≡ Some t → Took (λ u. come_back flat u (request consts u.store p args) outs u.results) s t
call_took flat consts p args outs s t [] are h = cc
call_took flat consts p args outs s t (Broken x n ∷ rest) are h = cc
call_took flat consts p args outs s t (Ended os gs ∷ rest) are h =
    let call = request consts s.store p args in
    let store : Store = write_all (record { globals = gs; locals = s.store.locals }) outs os in
    let m : State = record { store = store; values = s.values; results = rest; calls = s.calls ++ call ∷ [] } in
    let c = if_some (can_come_back flat call.proc os gs) m t h in
    record {
      values = [];
      results = Ended os gs ∷ [];
      calls = call ∷ [];
      values_are = ap (λ (u : State). u.values) c.1;
      results_are = are ∙ ap (λ (u : State). Ended os gs ∷ u.results) c.1;
      calls_are = ap (λ (u : State). u.calls) (sym c.1);
      alone = λ vs rs cs.
          ap (λ b. if b then Some (stated store vs rs (cs ++ call ∷ [])) else None) c.0
          ∙ ap (λ (u : State). Some (stated u.store vs rs (cs ++ call ∷ []))) c.1;
    }

test_took : (test : Store → Bool) (s t : State) → (if test s.store then Some s else None) ≡ Some t → Took (λ u. if test u.store then Some u else None) s t
test_took test s t h =
    let c = if_some (test s.store) s t h in
    took_none (λ u. if test u.store then Some u else None) s t (ap (λ (u : State). u.values) c.1) (ap (λ (u : State). u.results) c.1) (ap (λ (u : State). u.calls) (sym c.1))
    (λ vs rs cs. ap (λ b. if b then Some (stated s.store vs rs cs) else None) c.0 ∙ ap (λ (u : State). Some (stated u.store vs rs cs)) c.1)

pub pass_took : (flat : FlatProgram) (q : FlatProc) (consts : List Value) (c : FlatCmd) (s t : State) → pass flat q consts c s ≡ Some t → Took (pass flat q consts c) s t
pass_took flat q consts (Assign pairs) s t h =
    let m : State = record s { store = write_all s.store (map (λ (p : Var × List ExprNode). p.0) pairs) (map (λ (p : Var × List ExprNode). eval (env_with consts s.store) p.1) pairs) } in
    let e : m ≡ t = cc in
    took_none (pass flat q consts (Assign pairs)) s t (ap (λ (u : State). u.values) e) (ap (λ (u : State). u.results) e) (ap (λ (u : State). u.calls) (sym e))
    (λ vs rs cs. ap (λ (u : State). Some (stated u.store vs rs cs)) e)
pass_took flat q consts (Havoc xs) s t h = took_as (havoc (scope_of flat q) xs) (pass flat q consts (Havoc xs)) s t (λ u. refl) (havoc_took (scope_of flat q) xs s t h)
pass_took flat q consts (Assume expr) s t h =
    took_as (λ u. if holds (env_with consts u.store) expr then Some u else None) (pass flat q consts (Assume expr)) s t (λ u. refl) (test_took (λ store. holds (env_with consts store) expr) s t h)
pass_took flat q consts (Assert p n expr) s t h =
    took_as (λ u. if holds (env_with consts u.store) expr then Some u else None) (pass flat q consts (Assert p n expr)) s t (λ u. refl) (test_took (λ store. holds (env_with consts store) expr) s t h)
pass_took flat q consts (Call p args outs) s t h =
    took_as (λ u. come_back flat u (request consts u.store p args) outs u.results) (pass flat q consts (Call p args outs)) s t (λ u. refl) (call_took flat consts p args outs s t s.results refl h)

pub pass_all_took : (flat : FlatProgram) (q : FlatProc) (consts : List Value) (cmds : List FlatCmd) (s t : State) → pass_all flat q consts cmds s ≡ Some t → Took (pass_all flat q consts cmds) s t
pass_all_took flat q consts [] s t h =
    let e : s ≡ t = cc in
    took_none (pass_all flat q consts []) s t (ap (λ (u : State). u.values) e) (ap (λ (u : State). u.results) e) (ap (λ (u : State). u.calls) (sym e)) (λ vs rs cs. ap (λ (u : State). Some (stated u.store vs rs cs)) e)
pass_all_took flat q consts (c ∷ cmds) s t h =
    let m = and_then_some (pass_all flat q consts cmds) (pass flat q consts c s) t h in
    took_as (λ u. option_and_then (pass_all flat q consts cmds) (pass flat q consts c u)) (pass_all flat q consts (c ∷ cmds)) s t (λ u. refl)
    (took_then (pass flat q consts c) (pass_all flat q consts cmds) s m.0 t (pass_took flat q consts c s m.0 m.1) (pass_all_took flat q consts cmds m.0 t m.2))

-- ---- begins

fill_one_took : (sort : Sort) (s t : State) (values : List Value) → s.values ≡ values → fill_one sort s values ≡ Some t → Took (λ u. fill_one sort u u.values) s t
fill_one_took sort s t [] are h = cc
fill_one_took sort s t (v ∷ rest) are h =
    let store : Store = record { globals = s.store.globals; locals = s.store.locals ++ v ∷ [] } in
    let m : State = record s { store = store; values = rest } in
    let c = if_some (has_sort v sort) m t h in
    record {
      values = v ∷ [];
      results = [];
      calls = [];
      values_are = are ∙ ap (λ (u : State). v ∷ u.values) c.1;
      results_are = ap (λ (u : State). u.results) c.1;
      calls_are = ap (λ (u : State). u.calls) (sym c.1) ∙ sym (append-nil s.calls);
      alone = λ vs rs cs.
          ap (λ b. if b then Some (stated store vs rs cs) else None) c.0
          ∙ ap (λ (u : State). Some (stated u.store vs rs cs)) c.1
          ∙ ap (λ xs. Some (stated t.store vs rs xs)) (sym (append-nil cs));
    }

pub fill_took : (sorts : List Sort) (s t : State) → fill sorts s ≡ Some t → Took (fill sorts) s t
fill_took [] s t h =
    let e : s ≡ t = cc in
    took_none (fill []) s t (ap (λ (u : State). u.values) e) (ap (λ (u : State). u.results) e) (ap (λ (u : State). u.calls) (sym e)) (λ vs rs cs. ap (λ (u : State). Some (stated u.store vs rs cs)) e)
fill_took (sort ∷ sorts) s t h =
    let m = and_then_some (fill sorts) (fill_one sort s s.values) t h in
    took_as (λ u. option_and_then (fill sorts) (fill_one sort u u.values)) (fill (sort ∷ sorts)) s t (λ u. refl)
    (took_then (λ u. fill_one sort u u.values) (fill sorts) s m.0 t (fill_one_took sort s m.0 s.values refl m.1) (fill_took sorts m.0 t m.2))

pub commands_take : CommandsTakeAFront
commands_take = record { one = pass_took; all = pass_all_took; begins = fill_took }

-- ---- runs

-- the same step from a state with other calls before
other_calls : (flat : FlatProgram) (q : FlatProc) (consts : List Value) (cmds : List FlatCmd) (s t : State) (k : Took (pass_all flat q consts cmds) s t) (before : List Request) →
    pass_all flat q consts cmds (stated s.store s.values s.results before) ≡ Some (stated t.store t.values t.results (before ++ k.calls))
other_calls flat q consts cmds s t k before =
    ap (λ vs. pass_all flat q consts cmds (stated s.store vs s.results before)) k.values_are
    ∙ ap (λ rs. pass_all flat q consts cmds (stated s.store (k.values ++ t.values) rs before)) k.results_are
    ∙ k.alone t.values t.results before

some_over : (a b : Result) (xs ys : List Request) → ◌≡◌ {A = Option (Result × List Request)} (Some (a, xs)) (Some (b, ys)) → ◌≡◌ {A = Result × List Request} (a, xs) (b, ys)
some_over a b xs ys h = cc

-- a command that fails adds its call, if it is one
record FailCalled (consts : List Value) (c : FlatCmd) (s : State) (result : Result) (total : List Request) : Type 0 where
  pub made : List Request
  pub total_is : total ≡ s.calls ++ made
  pub again : (before : List Request) → fail consts c (stated s.store s.values s.results before) ≡ Some (result, before ++ made)

assert_called : (p n : ℕ) (calls : List Request) (results : List Result) (result : Result) (total : List Request) → assert_fails p n calls results ≡ Some (result, total) →
    (total ≡ calls) × ((before : List Request) → assert_fails p n before results ≡ Some (result, before))
assert_called p n calls [] result total h = let k = some_over (Broken p n) result calls total h in (ap (λ x. x.1) (sym k), λ before. ap (λ x. Some (x, before)) (ap (λ (x : Result × List Request). x.0) k))
assert_called p n calls (r ∷ results) result total h = cc

call_called : (s : State) (call : Request) (results : List Result) (result : Result) (total : List Request) → call_fails s call results ≡ Some (result, total) →
    (total ≡ s.calls ++ call ∷ []) × ((before : List Request) → call_fails (stated s.store s.values s.results before) call results ≡ Some (result, before ++ call ∷ []))
call_called s call [] result total h = cc
call_called s call (Ended os gs ∷ results) result total h = cc
call_called s call (Broken p n ∷ []) result total h =
    let k = some_over (Broken p n) result (s.calls ++ call ∷ []) total h in (ap (λ x. x.1) (sym k), λ before. ap (λ x. Some (x, before ++ call ∷ [])) (ap (λ (x : Result × List Request). x.0) k))
call_called s call (Broken p n ∷ r ∷ results) result total h = cc

fail_called : (consts : List Value) (c : FlatCmd) (s : State) (result : Result) (total : List Request) → fail consts c s ≡ Some (result, total) → FailCalled consts c s result total
fail_called consts (Assign pairs) s result total h = cc
fail_called consts (Havoc xs) s result total h = cc
fail_called consts (Assume expr) s result total h = cc
fail_called consts (Assert p n expr) s result total h = by (holds (env_with consts s.store) expr) refl h
  where
    by : (b : Bool) → holds (env_with consts s.store) expr ≡ b → (if b then None else assert_fails p n s.calls s.results) ≡ Some (result, total) → FailCalled consts (Assert p n expr) s result total
    by true is k = cc
    by false is k =
        let r = assert_called p n s.calls s.results result total k in
        record {
          made = [];
          total_is = r.0 ∙ sym (append-nil s.calls);
          again = λ before. ap (λ b. if b then None else assert_fails p n before s.results) is ∙ r.1 before ∙ ap (λ xs. Some (result, xs)) (sym (append-nil before));
        }
fail_called consts (Call p args outs) s result total h =
    let call = request consts s.store p args in
    let r = call_called s call s.results result total h in
    record { made = call ∷ []; total_is = r.0; again = r.1 }

pub tail_called : (flat : FlatProgram) (q : FlatProc) (consts : List Value) (path places : List ℕ) (cmds : List FlatCmd) (next : FlatNext) (s : State) (calls : List Request) (result : Result) → Tail flat q consts path places cmds next s calls result →
    Called flat q consts path places cmds next s calls result
tail_called flat q consts [] [] cmds next s calls (Ended outs globals) k =
    let t = pass_all_took flat q consts cmds s k.over k.passes in
    record {
      made = t.calls;
      calls_are = k.calls_are ∙ t.calls_are;
      again = λ before. record {
        over = stated k.over.store k.over.values k.over.results (before ++ t.calls);
        passes = other_calls flat q consts cmds s k.over t before;
        returns = k.returns;
        values = k.values;
        results = k.results;
        calls_are = refl;
        outs_are = k.outs_are;
        globals_are = k.globals_are;
      };
    }
tail_called flat q consts [] [] cmds next s calls (Broken proc number) k =
    let t = pass_all_took flat q consts k.before s k.over k.passes in
    let f = fail_called consts k.at k.over (Broken proc number) calls k.fails in
    record {
      made = t.calls ++ f.made;
      calls_are = f.total_is ∙ ap (λ xs. xs ++ f.made) t.calls_are ∙ append_assoc s.calls t.calls f.made;
      again = λ before. record {
        before = k.before;
        at = k.at;
        behind = k.behind;
        over = stated k.over.store k.over.values k.over.results (before ++ t.calls);
        splits = k.splits;
        passes = other_calls flat q consts k.before s k.over t before;
        fails = f.again (before ++ t.calls) ∙ ap (λ xs. Some (Broken proc number, xs)) (append_assoc before t.calls f.made);
        values = k.values;
      };
    }
tail_called flat q consts [] (place ∷ places) cmds next s calls result k = absurd k
tail_called flat q consts (b ∷ path) [] cmds next s calls result k = absurd k
tail_called flat q consts (b ∷ path) (place ∷ places) cmds next s calls result (block, t, passes, placed, there, more) =
    let u = pass_all_took flat q consts cmds s t passes in
    let n = tail_called flat q consts path places block.cmds block.next t calls result more in
    record {
      made = u.calls ++ n.made;
      calls_are = n.calls_are ∙ ap (λ xs. xs ++ n.made) u.calls_are ∙ append_assoc s.calls u.calls n.made;
      again = λ before. (
        block,
        stated t.store t.values t.results (before ++ u.calls),
        other_calls flat q consts cmds s t u before,
        placed,
        there,
        subst (λ xs. Tail flat q consts path places block.cmds block.next (stated t.store t.values t.results (before ++ u.calls)) xs result) (append_assoc before u.calls n.made) (n.again (before ++ u.calls)),
      );
    }

pub runs_add : RunsAddTheirCalls
runs_add flat q consts path places cmds next s calls result h = tail_called flat q consts path places cmds next s calls result h
