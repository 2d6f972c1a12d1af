-- A run of a flat procedure, command by command, where results name the globals alone that the callees may change.
use Rattle.std.proofs.Common.{◌≡◌, ℕ, zero, suc, ◌+◌, ◌<◌, Bool, true, false, ◌&&◌, List, [], ◌∷◌, ◌++◌, map, length, take, drop, arith, sym, ◌∙◌, ap, refl, subst, append-nil, append_assoc, length-append}
use Rattle.std.specs.Prelude.{Option, None, Some, slice_get, slice_index_or, if◌then◌else◌}
use Rattle.std.specs.Option.{option_and_then}
use Rattle.std.proofs.lemmas.Bool.{eq-eqb}
use Rattle.hy_val.specs.Exprs.{eval}
use Rattle.hy_val.specs.Scope.{sort_of_target}
use Rattle.hy_val.specs.Stores.{Store, env_with, have_sorts, holds, is_value_of, write as store_write, write_all as store_write_all}
use Rattle.hy_val.specs.Values.{has_sort, zero_of}
use Rattle.hy_val.specs.declared.sort.Sort.{Sort}
use Rattle.hy_val.specs.declared.value.Value.{Value}
use Rattle.hy_val.specs.declared.expr.Env.{Env}
use Rattle.hy_val.specs.declared.expr.Var.{Var}
use Rattle.hy_val.specs.declared.expr.Var.TheVariants.{Const, Global, Local}
use Rattle.hy_val.specs.declared.expr.ExprNode.{ExprNode}
use Rattle.hy_val.proofs.Booleans.{and-first, and-second, and-both}
use Rattle.flat_prog.specs.Program.{FlatProgram, scope_of, outs_at}
use Rattle.flat_prog.specs.Shape.{place_of, place_at, exit_sort}
use Rattle.flat_prog.specs.declared.block.FlatCmd.{FlatCmd}
use Rattle.flat_prog.specs.declared.block.FlatCmd.TheVariants.{Assign, Havoc, Assume, Assert, Call}
use Rattle.flat_prog.specs.declared.block.FlatNext.{FlatNext}
use Rattle.flat_prog.specs.declared.block.FlatBlock.{FlatBlock}
use Rattle.flat_prog.specs.declared.proc.FlatKind.{FlatKind}
use Rattle.flat_prog.specs.declared.proc.FlatKind.TheVariants.{Source, Loop}
use Rattle.flat_prog.specs.declared.proc.FlatProc.{FlatProc}
use Rattle.flat_prog.specs.Local.{Result, Ended, Broken, Request, Track, StopEnds, StopFails, Stop, Tail, Begins, fill_one, fill, begin_of, exit_value, assert_fails, State as FlatState, LocalRun as FlatRun}
use Rattle.flat_prog.specs.Local as flats
use Rattle.flat_prog.specs.Changes.{MayChange, Unchanged, Keeps, AllKeep}
use Rattle.flat_prog.specs.Limits.{row, AreLimits}
use Rattle.passive_form.specs.Limited.{Limited, limited}
use Rattle.passive_form.specs.Local.{State, alone, sorted_as, write, write_all, sort_of, havoc_with, havoc, picked, replaced, result_fits, after_call, come_back, assigned, targets_of, pass, pass_all, over, fail, cmds_of, is_target, walk, start, LocalEnds, LocalFails, LocalRun}
use Rattle.passive_form.specs.SameRuns.{slim, slims, in_env, StartIs, LimitedRun}

-- ---- options and tests

pub and_then : {A B : Type 0} (f : A → Option B) (o : Option A) (b : B) → option_and_then f o ≡ Some b → (a : A) × (o ≡ Some a) × (f a ≡ Some b)
and_then f None b h = cc
and_then f (Some a) b h = (a, refl, h)

pub choose : {A : Type 0} (b : Bool) (s t : A) → (if b then Some s else None) ≡ Some t → (b ≡ true) × (s ≡ t)
choose true s t h = (refl, cc)
choose false s t h = cc

pub some_same : {A : Type 0} (s t : A) → Some s ≡ Some t → s ≡ t
some_same s t h = cc

-- ---- sorts

pub sorted_is : (vs : List Value) (ss : List Sort) → have_sorts vs ss ≡ sorted_as ss vs
sorted_is [] [] = refl
sorted_is [] (s ∷ ss) = refl
sorted_is (v ∷ vs) [] = refl
sorted_is (v ∷ vs) (s ∷ ss) = ap (λ b. has_sort v s && b) (sorted_is vs ss)

picked_sorted : (ms : List Bool) (ss : List Sort) (vs : List Value) → sorted_as ss vs ≡ true → sorted_as (picked ms ss) (picked ms vs) ≡ true
picked_sorted [] ss vs h = refl
picked_sorted (m ∷ ms) [] [] h = refl
picked_sorted (m ∷ ms) [] (v ∷ vs) h = cc
picked_sorted (m ∷ ms) (s ∷ ss) [] h = cc
picked_sorted (true ∷ ms) (s ∷ ss) (v ∷ vs) h = and-both (has_sort v s) (sorted_as (picked ms ss) (picked ms vs)) (and-first (has_sort v s) (sorted_as ss vs) h) (picked_sorted ms ss vs (and-second (has_sort v s) (sorted_as ss vs) h))
picked_sorted (false ∷ ms) (s ∷ ss) (v ∷ vs) h = picked_sorted ms ss vs (and-second (has_sort v s) (sorted_as ss vs) h)

-- ---- the globals behind a call

same_lists : (xs ys : List Value) → length ys ≡ length xs → ((g : ℕ) → slice_get ys g ≡ slice_get xs g) → xs ≡ ys
same_lists [] [] n h = refl
same_lists [] (y ∷ ys) n h = absurd (omega (arith, n))
same_lists (x ∷ xs) [] n h = absurd (omega (arith, n))
same_lists (x ∷ xs) (y ∷ ys) n h =
    let e : x ≡ y = some_same x y (sym (h 0)) in
    ap (λ z. z ∷ xs) e ∙ ap (λ zs. y ∷ zs) (same_lists xs ys (omega (arith, n)) (λ g. h (suc g)))

replaced_picked : (ms : List Bool) (old new : List Value) → length new ≡ length old → ((g : ℕ) → slice_index_or ms g false ≡ false → slice_get new g ≡ slice_get old g) → replaced ms old (picked ms new) ≡ new
replaced_picked [] old new n h = same_lists old new n (λ g. h g refl)
replaced_picked (m ∷ ms) [] [] n h = refl
replaced_picked (m ∷ ms) [] (y ∷ ys) n h = absurd (omega (arith, n))
replaced_picked (m ∷ ms) (x ∷ xs) [] n h = absurd (omega (arith, n))
replaced_picked (true ∷ ms) (x ∷ xs) (y ∷ ys) n h = ap (λ zs. y ∷ zs) (replaced_picked ms xs ys (omega (arith, n)) (λ g. h (suc g)))
replaced_picked (false ∷ ms) (x ∷ xs) (y ∷ ys) n h =
    let e : x ≡ y = some_same x y (sym (h 0 refl)) in
    ap (λ z. z ∷ replaced ms xs (picked ms ys)) e ∙ ap (λ zs. y ∷ zs) (replaced_picked ms xs ys (omega (arith, n)) (λ g. h (suc g)))

pub unmarked : (flat : FlatProgram) (limits : List (List Bool)) (p g : ℕ) → AreLimits flat limits → slice_index_or (row limits p) g false ≡ false → MayChange flat g p → ⊥
unmarked flat limits p g are off may = let on = (are.exact p g).1 may in let clash : true ≡ false = sym on ∙ off in cc

kept_globals : (flat : FlatProgram) (limits : List (List Bool)) (call : Request) (outs globals : List Value) → AreLimits flat limits → Keeps flat call (Ended outs globals) →
    replaced (row limits call.proc) call.globals (picked (row limits call.proc) globals) ≡ globals
kept_globals flat limits call outs globals are keeps =
    replaced_picked (row limits call.proc) call.globals globals keeps.count (λ g off. keeps.others g (unmarked flat limits call.proc g are off))

-- ---- writing

pub write_is : (consts : List Value) (s : Store) (x : Var) (v : Value) → env_with consts (store_write s x v) ≡ write (env_with consts s) x v
write_is consts s (Const n) v = refl
write_is consts s (Global n) v = refl
write_is consts s (Local n) v = refl

pub writes_are : (consts : List Value) (s : Store) (xs : List Var) (vs : List Value) → env_with consts (store_write_all s xs vs) ≡ write_all (env_with consts s) xs vs
writes_are consts s [] vs = refl
writes_are consts s (x ∷ xs) [] = refl
writes_are consts s (x ∷ xs) (v ∷ vs) = writes_are consts (store_write s x v) xs vs ∙ ap (λ (e : Env). write_all e xs vs) (write_is consts s x v)

pub targets_are : (pairs : List (Var × List ExprNode)) → map (λ (p : Var × List ExprNode). p.0) pairs ≡ targets_of pairs
targets_are [] = refl
targets_are (p ∷ pairs) = ap (λ xs. p.0 ∷ xs) (targets_are pairs)

pub assigned_is : (env : Env) (pairs : List (Var × List ExprNode)) → map (λ (p : Var × List ExprNode). eval env p.1) pairs ≡ assigned env pairs
assigned_is env [] = refl
assigned_is env (p ∷ pairs) = ap (λ vs. eval env p.1 ∷ vs) (assigned_is env pairs)

pub sort_is : (flat : FlatProgram) (limits : List (List Bool)) (q : FlatProc) (x : Var) → sort_of (limited flat limits) q x ≡ sort_of_target (scope_of flat q) x
sort_is flat limits q (Const n) = refl
sort_is flat limits q (Global n) = refl
sort_is flat limits q (Local n) = ap (λ (ls : List Sort). slice_get ls n) (append_assoc q.ins q.outs q.locals)

-- ---- results, call by call

slims_append : (limits : List (List Bool)) (cs ds : List Request) (rs ts : List Result) → length rs ≡ length cs → slims limits (cs ++ ds) (rs ++ ts) ≡ slims limits cs rs ++ slims limits ds ts
slims_append limits [] ds [] ts n = refl
slims_append limits [] ds (r ∷ rs) ts n = absurd (omega (arith, n))
slims_append limits (c ∷ cs) ds [] ts n = absurd (omega (arith, n))
slims_append limits (c ∷ cs) ds (r ∷ rs) ts n = ap (λ x. slim limits c r ∷ x) (slims_append limits cs ds rs ts (omega (arith, n)))

keep_both : (flat : FlatProgram) (cs ds : List Request) (rs ts : List Result) → length rs ≡ length cs → AllKeep flat (cs ++ ds) (rs ++ ts) → AllKeep flat cs rs × AllKeep flat ds ts
keep_both flat [] ds [] ts n h = (tt, h)
keep_both flat [] ds (r ∷ rs) ts n h = absurd (omega (arith, n))
keep_both flat (c ∷ cs) ds [] ts n h = absurd (omega (arith, n))
keep_both flat (c ∷ cs) ds (r ∷ rs) ts n (h, hs) = let k = keep_both flat cs ds rs ts (omega (arith, n)) hs in ((h, k.0), k.1)

-- ---- what commands do

-- the state with these results
abbrev pub given : List Value → FlatState → List Result → State
given consts s rs = alone (env_with consts s.store) s.values rs s.calls

-- from s to t these calls are made and their results taken; so it is with the slim results
record Slim (flat : FlatProgram) (limits : List (List Bool)) (consts : List Value) (f : State → Option State) (s t : FlatState) : Type 0 where
  pub calls : List Request
  pub results : List Result
  pub results_are : s.results ≡ results ++ t.results
  pub calls_are : t.calls ≡ s.calls ++ calls
  pub one_each : length results ≡ length calls
  pub passes : AllKeep flat calls results → (rest : List Result) → f (given consts s (slims limits calls results ++ rest)) ≡ Some (given consts t rest)

module _ (flat : FlatProgram) (limits : List (List Bool)) (q : FlatProc) (consts : List Value) (are : AreLimits flat limits) where
  quiet : (f : State → Option State) (s t : FlatState) → s.results ≡ t.results → s.calls ≡ t.calls → ((rest : List Result) → f (given consts s rest) ≡ Some (given consts t rest)) → Slim flat limits consts f s t
  quiet f s t r c p = record { calls = []; results = []; results_are = r; calls_are = sym c ∙ sym (append-nil s.calls); one_each = refl; passes = λ k rest. p rest }

  slim_then : (f g : State → Option State) (s m t : FlatState) → Slim flat limits consts f s m → Slim flat limits consts g m t → Slim flat limits consts (λ x. option_and_then g (f x)) s t
  slim_then f g s m t a b = record {
    calls = a.calls ++ b.calls;
    results = a.results ++ b.results;
    results_are = a.results_are ∙ ap (λ x. a.results ++ x) b.results_are ∙ sym (append_assoc a.results b.results t.results);
    calls_are = b.calls_are ∙ ap (λ x. x ++ b.calls) a.calls_are ∙ append_assoc s.calls a.calls b.calls;
    one_each = omega (arith, a.one_each, b.one_each, length-append a.results b.results, length-append a.calls b.calls);
    passes = λ k rest.
        let kk = keep_both flat a.calls b.calls a.results b.results a.one_each k in
        let xs = slims limits a.calls a.results in
        let ys = slims limits b.calls b.results in
        ap (λ x. option_and_then g (f (given consts s (x ++ rest)))) (slims_append limits a.calls b.calls a.results b.results a.one_each)
        ∙ ap (λ x. option_and_then g (f (given consts s x))) (append_assoc xs ys rest)
        ∙ ap (option_and_then g) (a.passes kk.0 (ys ++ rest)) ∙ b.passes kk.1 rest;
  }

  havoc_one_slim : (x : Var) (s m : FlatState) (values : List Value) → s.values ≡ values → flats.havoc_one (scope_of flat q) x s values ≡ Some m →
      (s.results ≡ m.results) × (s.calls ≡ m.calls) × ((rest : List Result) → havoc_with (limited flat limits) q x (given consts s rest) s.values ≡ Some (given consts m rest))
  havoc_one_slim x s m [] e h = cc
  havoc_one_slim x s m (v ∷ vs) e h =
      let c = choose (is_value_of (sort_of_target (scope_of flat q) x) v) (record s { store = store_write s.store x v; values = vs }) m h in
      let test : is_value_of (sort_of (limited flat limits) q x) v ≡ true = ap (λ o. is_value_of o v) (sort_is flat limits q x) ∙ c.0 in (
        ap (λ (y : FlatState). y.results) c.1,
        ap (λ (y : FlatState). y.calls) c.1,
        λ rest. ap (havoc_with (limited flat limits) q x (given consts s rest)) e
            ∙ ap (λ b. if b then Some (alone (write (env_with consts s.store) x v) vs rest s.calls) else None) test
            ∙ ap (λ (y : Env). Some (alone y vs rest s.calls)) (sym (write_is consts s.store x v))
            ∙ ap (λ (y : FlatState). Some (given consts y rest)) c.1,
      )

  havoc_slim : (xs : List Var) (s t : FlatState) → flats.havoc (scope_of flat q) xs s ≡ Some t →
      (s.results ≡ t.results) × (s.calls ≡ t.calls) × ((rest : List Result) → havoc (limited flat limits) q xs (given consts s rest) ≡ Some (given consts t rest))
  havoc_slim [] s t h = let e = some_same s t h in (ap (λ (y : FlatState). y.results) e, ap (λ (y : FlatState). y.calls) e, λ rest. ap (λ (y : FlatState). Some (given consts y rest)) e)
  havoc_slim (x ∷ xs) s t h =
      let m = and_then (flats.havoc (scope_of flat q) xs) (flats.havoc_one (scope_of flat q) x s s.values) t h in
      let one = havoc_one_slim x s m.0 s.values refl m.1 in
      let more = havoc_slim xs m.0 t m.2 in
      (one.0 ∙ more.0, one.1 ∙ more.1, λ rest. ap (option_and_then (havoc (limited flat limits) q xs)) (one.2 rest) ∙ more.2 rest)

  test_slim : (b : Bool) (s t : FlatState) → (if b then Some s else None) ≡ Some t → Slim flat limits consts (λ x. if b then Some x else None) s t
  test_slim b s t h =
      let c = choose b s t h in
      quiet (λ x. if b then Some x else None) s t (ap (λ (y : FlatState). y.results) c.1) (ap (λ (y : FlatState). y.calls) c.1)
      (λ rest. ap (λ x. if x then Some (given consts s rest) else None) c.0 ∙ ap (λ (y : FlatState). Some (given consts y rest)) c.1)

  call_slim : (p : ℕ) (args : List (List ExprNode)) (outs : List Var) (s t : FlatState) (results : List Result) → s.results ≡ results → flats.come_back flat s (flats.request consts s.store p args) outs results ≡ Some t →
      Slim flat limits consts (pass (limited flat limits) q (Call p args outs)) s t
  call_slim p args outs s t [] is h = cc
  call_slim p args outs s t (Broken a b ∷ rs) is h = cc
  call_slim p args outs s t (Ended os gs ∷ rs) is h =
      let call = flats.request consts s.store p args in
      let behind : FlatState = record { store = store_write_all (record { globals = gs; locals = s.store.locals }) outs os; values = s.values; results = rs; calls = s.calls ++ call ∷ [] } in
      let c = choose (flats.can_come_back flat p os gs) behind t h in
      let marks = row limits p in
      let o_fit : sorted_as (outs_at (slice_get flat.procs p)) os ≡ true = sym (sorted_is os (outs_at (slice_get flat.procs p))) ∙ and-first (have_sorts os (outs_at (slice_get flat.procs p))) (have_sorts gs flat.globals) c.0 in
      let g_fit : sorted_as flat.globals gs ≡ true = sym (sorted_is gs flat.globals) ∙ and-second (have_sorts os (outs_at (slice_get flat.procs p))) (have_sorts gs flat.globals) c.0 in
      let fits : result_fits (limited flat limits) p os (picked marks gs) ≡ true =
      and-both (sorted_as (outs_at (slice_get flat.procs p)) os) (sorted_as (picked marks flat.globals) (picked marks gs)) o_fit (picked_sorted marks flat.globals gs g_fit) in
      record {
        calls = call ∷ [];
        results = Ended os gs ∷ [];
        results_are = is ∙ ap (λ (y : FlatState). Ended os gs ∷ y.results) c.1;
        calls_are = sym (ap (λ (y : FlatState). y.calls) c.1);
        one_each = refl;
        passes = λ k rest.
            let env = env_with consts s.store in
            ap (λ b. if b then Some (alone (write_all (after_call (limited flat limits) p env (picked marks gs)) outs os) s.values rest (s.calls ++ call ∷ [])) else None) fits
            ∙ ap (λ (xs : List Value). Some (alone (write_all (record { consts = consts; globals = xs; locals = s.store.locals }) outs os) s.values rest (s.calls ++ call ∷ []))) (kept_globals flat limits call os gs are k.0)
            ∙ ap (λ (y : Env). Some (alone y s.values rest (s.calls ++ call ∷ []))) (sym (writes_are consts (record { globals = gs; locals = s.store.locals }) outs os))
            ∙ ap (λ (y : FlatState). Some (given consts y rest)) c.1;
      }

  pass_slim : (c : FlatCmd) (s t : FlatState) → flats.pass flat q consts c s ≡ Some t → Slim flat limits consts (pass (limited flat limits) q c) s t
  pass_slim (Assign pairs) s t h =
      let env = env_with consts s.store in
      let behind : FlatState = record s { store = store_write_all s.store (map (λ p. p.0) pairs) (map (λ p. eval env p.1) pairs) } in
      let e : behind ≡ t = some_same behind t h in
      let written : env_with consts behind.store ≡ write_all env (targets_of pairs) (assigned env pairs) =
      writes_are consts s.store (map (λ p. p.0) pairs) (map (λ p. eval env p.1) pairs)
      ∙ ap (λ xs. write_all env xs (map (λ p. eval env p.1) pairs)) (targets_are pairs) ∙ ap (write_all env (targets_of pairs)) (assigned_is env pairs) in
      quiet (pass (limited flat limits) q (Assign pairs)) s t (ap (λ (y : FlatState). y.results) e) (ap (λ (y : FlatState). y.calls) e)
      (λ rest. ap (λ (y : Env). Some (alone y s.values rest s.calls)) (sym written) ∙ ap (λ (y : FlatState). Some (given consts y rest)) e)
  pass_slim (Havoc xs) s t h = let r = havoc_slim xs s t h in quiet (pass (limited flat limits) q (Havoc xs)) s t r.0 r.1 r.2
  pass_slim (Assume expr) s t h =
      let c = choose (holds (env_with consts s.store) expr) s t h in
      quiet (pass (limited flat limits) q (Assume expr)) s t (ap (λ (y : FlatState). y.results) c.1) (ap (λ (y : FlatState). y.calls) c.1)
      (λ rest. ap (λ x. if x then Some (given consts s rest) else None) c.0 ∙ ap (λ (y : FlatState). Some (given consts y rest)) c.1)
  pass_slim (Assert p n expr) s t h =
      let c = choose (holds (env_with consts s.store) expr) s t h in
      quiet (pass (limited flat limits) q (Assert p n expr)) s t (ap (λ (y : FlatState). y.results) c.1) (ap (λ (y : FlatState). y.calls) c.1)
      (λ rest. ap (λ x. if x then Some (given consts s rest) else None) c.0 ∙ ap (λ (y : FlatState). Some (given consts y rest)) c.1)
  pass_slim (Call p args outs) s t h = call_slim p args outs s t s.results refl h

  all_slim : (cs : List FlatCmd) (s t : FlatState) → flats.pass_all flat q consts cs s ≡ Some t → Slim flat limits consts (pass_all (limited flat limits) q cs) s t
  all_slim [] s t h =
      let e = some_same s t h in
      quiet (pass_all (limited flat limits) q []) s t (ap (λ (y : FlatState). y.results) e) (ap (λ (y : FlatState). y.calls) e) (λ rest. ap (λ (y : FlatState). Some (given consts y rest)) e)
  all_slim (c ∷ cs) s t h =
      let m = and_then (flats.pass_all flat q consts cs) (flats.pass flat q consts c s) t h in
      slim_then (pass (limited flat limits) q c) (pass_all (limited flat limits) q cs) s m.0 t (pass_slim c s m.0 m.1) (all_slim cs m.0 t m.2)

  -- ---- commands that fail

  record Slain (c : FlatCmd) (s : FlatState) (proc number : ℕ) (calls : List Request) : Type 0 where
    pub more : List Request
    pub results : List Result
    pub results_are : s.results ≡ results
    pub calls_are : calls ≡ s.calls ++ more
    pub one_each : length results ≡ length more
    pub fails : fail c (given consts s (slims limits more results)) ≡ Some (Broken proc number, calls)

  fail_slim : (c : FlatCmd) (s : FlatState) (proc number : ℕ) (calls : List Request) → flats.fail consts c s ≡ Some (Broken proc number, calls) → Slain c s proc number calls
  fail_slim (Assign pairs) s proc number calls h = cc
  fail_slim (Havoc xs) s proc number calls h = cc
  fail_slim (Assume expr) s proc number calls h = cc
  fail_slim (Assert p n expr) s proc number calls h = by (holds (env_with consts s.store) expr) s.results refl refl h
    where
      by : (b : Bool) (results : List Result) → holds (env_with consts s.store) expr ≡ b → s.results ≡ results → (if b then None else assert_fails p n s.calls results) ≡ Some (Broken proc number, calls) → Slain (Assert p n expr) s proc number calls
      by true results e is k = cc
      by false (r ∷ rs) e is k = cc
      by false [] e is k =
          let same : ◌≡◌ {A = Result × List Request} (Broken p n, s.calls) (Broken proc number, calls) = some_same (Broken p n, s.calls) (Broken proc number, calls) k in
          record {
            more = [];
            results = [];
            results_are = is;
            calls_are = sym (ap (λ (x : Result × List Request). x.1) same) ∙ sym (append-nil s.calls);
            one_each = refl;
            fails = ap (λ b. if b then None else over p n s.calls []) e ∙ k;
          }
  fail_slim (Call p args outs) s proc number calls h = by s.results refl h
    where
      by : (results : List Result) → s.results ≡ results → flats.call_fails s (flats.request consts s.store p args) results ≡ Some (Broken proc number, calls) → Slain (Call p args outs) s proc number calls
      by [] is k = cc
      by (Ended os gs ∷ rs) is k = cc
      by (Broken a b ∷ r ∷ rs) is k = cc
      by (Broken a b ∷ []) is k =
          let call = flats.request consts s.store p args in
          let same : ◌≡◌ {A = Result × List Request} (Broken a b, s.calls ++ call ∷ []) (Broken proc number, calls) = some_same (Broken a b, s.calls ++ call ∷ []) (Broken proc number, calls) k in
          record { more = call ∷ []; results = Broken a b ∷ []; results_are = is; calls_are = sym (ap (λ (x : Result × List Request). x.1) same); one_each = refl; fails = k }

  -- ---- a run from a block on

  record Walked (b : ℕ) (path places : List ℕ) (s : FlatState) (calls : List Request) (result : Result) : Type 0 where
    pub more : List Request
    pub results : List Result
    pub results_are : s.results ≡ results
    pub calls_are : calls ≡ s.calls ++ more
    pub runs : AllKeep flat more results → (proc : ℕ) (values : List Value) →
        LocalRun (limited flat limits) q (record { proc = proc; path = b ∷ path; places = places; values = values }) (given consts s []) (slims limits more results) calls result

  stop_slim : (b : ℕ) (block : FlatBlock) (s : FlatState) (calls : List Request) (result : Result) → slice_get q.blocks b ≡ Some block → Stop flat q consts block.cmds block.next s calls result → Walked b [] [] s calls result
  stop_slim b block s calls (Ended os gs) at h =
      let a = all_slim block.cmds s h.over h.passes in
      let rs = slims limits a.calls a.results in
      record {
        more = a.calls;
        results = a.results;
        results_are = a.results_are ∙ ap (λ x. a.results ++ x) h.results ∙ append-nil a.results;
        calls_are = h.calls_are ∙ a.calls_are;
        runs = λ k proc values. record {
          last = block;
          arrived = given consts s rs;
          over = given consts h.over [];
          walks = ap (λ x. Some (x, given consts s rs)) at;
          passes = ap (λ x. pass_all (limited flat limits) q block.cmds (given consts s x)) (sym (append-nil rs)) ∙ a.passes k [];
          returns = h.returns;
          taken = (h.values, refl);
          calls_are = h.calls_are;
          outs_are = h.outs_are;
          globals_are = h.globals_are;
        };
      }
  stop_slim b block s calls (Broken proc number) at h =
      let a = all_slim h.before s h.over h.passes in
      let f = fail_slim h.at h.over proc number calls h.fails in
      let rs = slims limits (a.calls ++ f.more) (a.results ++ f.results) in
      record {
        more = a.calls ++ f.more;
        results = a.results ++ f.results;
        results_are = a.results_are ∙ ap (λ x. a.results ++ x) f.results_are;
        calls_are = f.calls_are ∙ ap (λ x. x ++ f.more) a.calls_are ∙ append_assoc s.calls a.calls f.more;
        runs = λ k p values. record {
          last = block;
          arrived = given consts s rs;
          before = h.before;
          at = h.at;
          after = h.behind;
          over = given consts h.over (slims limits f.more f.results);
          walks = ap (λ x. Some (x, given consts s rs)) at;
          splits = h.splits;
          passes = ap (λ x. pass_all (limited flat limits) q h.before (given consts s x)) (slims_append limits a.calls f.more a.results f.results a.one_each)
              ∙ a.passes (keep_both flat a.calls f.more a.results f.results a.one_each k).0 (slims limits f.more f.results);
          fails = f.fails;
          taken = h.values;
        };
      }

  -- one block more in front
  step_slim : (b c : ℕ) (block : FlatBlock) (place : ℕ) (path places : List ℕ) (s t : FlatState) (rs us : List Result) (calls : List Request) (result : Result) (proc : ℕ) (values : List Value) →
      slice_get q.blocks b ≡ Some block → place_of block.next place ≡ Some c → pass_all (limited flat limits) q block.cmds (given consts s rs) ≡ Some (given consts t us) →
      LocalRun (limited flat limits) q (record { proc = proc; path = c ∷ path; places = places; values = values }) (given consts t []) us calls result →
      LocalRun (limited flat limits) q (record { proc = proc; path = b ∷ c ∷ path; places = place ∷ places; values = values }) (given consts s []) rs calls result
  step_slim b c block place path places s t rs us calls result proc values at edge passes run = by result run
    where
      walks : (o : Option FlatBlock × State) → walk (limited flat limits) q (c ∷ path) places (given consts t us) ≡ Some o → walk (limited flat limits) q (b ∷ c ∷ path) (place ∷ places) (given consts s rs) ≡ Some o
      walks o h =
          let go : State → Option (Option FlatBlock × State) = walk (limited flat limits) q (c ∷ path) places in
          let target : is_target (place_at (slice_get q.blocks b) place) c ≡ true = ap (λ x. is_target (place_at x place) c) at ∙ ap (λ x. is_target x c) edge ∙ eq-eqb c c refl in
          ap (λ x. if x then option_and_then go (pass_all (limited flat limits) q (cmds_of (slice_get q.blocks b)) (given consts s rs)) else None) target
          ∙ ap (λ x. option_and_then go (pass_all (limited flat limits) q (cmds_of x) (given consts s rs))) at
          ∙ ap (option_and_then go) passes ∙ h

      by : (r : Result) → LocalRun (limited flat limits) q (record { proc = proc; path = c ∷ path; places = places; values = values }) (given consts t []) us calls r →
          LocalRun (limited flat limits) q (record { proc = proc; path = b ∷ c ∷ path; places = place ∷ places; values = values }) (given consts s []) rs calls r
      by (Ended os gs) r = record {
        last = r.last;
        arrived = r.arrived;
        over = r.over;
        walks = walks (Some r.last, r.arrived) r.walks;
        passes = r.passes;
        returns = r.returns;
        taken = r.taken;
        calls_are = r.calls_are;
        outs_are = r.outs_are;
        globals_are = r.globals_are;
      }
      by (Broken p n) r = record {
        last = r.last;
        arrived = r.arrived;
        before = r.before;
        at = r.at;
        after = r.after;
        over = r.over;
        walks = walks (Some r.last, r.arrived) r.walks;
        splits = r.splits;
        passes = r.passes;
        fails = r.fails;
        taken = r.taken;
      }

  tail_slim : (path places : List ℕ) (b : ℕ) (block : FlatBlock) (s : FlatState) (calls : List Request) (result : Result) → slice_get q.blocks b ≡ Some block →
      Tail flat q consts path places block.cmds block.next s calls result → Walked b path places s calls result
  tail_slim [] [] b block s calls result at h = stop_slim b block s calls result at h
  tail_slim [] (place ∷ places) b block s calls result at h = absurd h
  tail_slim (c ∷ path) [] b block s calls result at h = absurd h
  tail_slim (c ∷ path) (place ∷ places) b block s calls result at h =
      let t = h.1 in
      let a = all_slim block.cmds s t h.2 in
      let w = tail_slim path places c h.0 t calls result h.4 h.5 in
      record {
        more = a.calls ++ w.more;
        results = a.results ++ w.results;
        results_are = a.results_are ∙ ap (λ x. a.results ++ x) w.results_are;
        calls_are = w.calls_are ∙ ap (λ x. x ++ w.more) a.calls_are ∙ append_assoc s.calls a.calls w.more;
        runs = λ k proc values.
            let kk = keep_both flat a.calls w.more a.results w.results a.one_each k in
            step_slim b c block place path places s t (slims limits (a.calls ++ w.more) (a.results ++ w.results)) (slims limits w.more w.results) calls result proc values at h.3
            (ap (λ x. pass_all (limited flat limits) q block.cmds (given consts s x)) (slims_append limits a.calls w.more a.results w.results a.one_each) ∙ a.passes kk.0 (slims limits w.more w.results))
            (w.runs kk.1 proc values);
      }

-- ---- the start

-- a state in which the sorts' values have been taken
abbrev filled : List Sort → FlatState → FlatState
filled ss s = record s { store = record { globals = s.store.globals; locals = s.store.locals ++ take (length ss) s.values }; values = drop (length ss) s.values }

fill_one_is : (sort : Sort) (s m : FlatState) (values : List Value) → s.values ≡ values → fill_one sort s values ≡ Some m →
    (v : Value) × (vs : List Value) × (values ≡ v ∷ vs) × (has_sort v sort ≡ true) × (record s { store = record { globals = s.store.globals; locals = s.store.locals ++ v ∷ [] }; values = vs } ≡ m)
fill_one_is sort s m [] e h = cc
fill_one_is sort s m (v ∷ vs) e h =
    let c = choose (has_sort v sort) (record s { store = record { globals = s.store.globals; locals = s.store.locals ++ v ∷ [] }; values = vs }) m h in
    (v, vs, refl, c.0, c.1)

fill_is : (ss : List Sort) (s t : FlatState) → fill ss s ≡ Some t → (sorted_as ss (take (length ss) s.values) ≡ true) × (t ≡ filled ss s)
fill_is [] s t h =
    (refl, sym (some_same s t h) ∙ ap (λ (ls : List Value). record s { store = record { globals = s.store.globals; locals = ls }; values = s.values }) (sym (append-nil s.store.locals)))
fill_is (x ∷ ss) s t h =
    let m = and_then (fill ss) (fill_one x s s.values) t h in
    let one = fill_one_is x s m.0 s.values refl m.1 in
    let v = one.0 in
    let vs = one.1 in
    let next : FlatState = record s { store = record { globals = s.store.globals; locals = s.store.locals ++ v ∷ [] }; values = vs } in
    let rest = fill_is ss m.0 t m.2 in
    let vs_are : (m.0).values ≡ vs = sym (ap (λ (y : FlatState). y.values) one.4) in (
      ap (λ ws. sorted_as (x ∷ ss) (take (suc (length ss)) ws)) one.2 ∙ and-both (has_sort v x) (sorted_as ss (take (length ss) vs)) one.3 (ap (λ ws. sorted_as ss (take (length ss) ws)) (sym vs_are) ∙ rest.0),
      rest.1 ∙ ap (filled ss) (sym one.4)
          ∙ ap (λ (ls : List Value). record s { store = record { globals = s.store.globals; locals = ls }; values = drop (length ss) vs }) (append_assoc s.store.locals (v ∷ []) (take (length ss) vs))
          ∙ ap (λ (ws : List Value). record s { store = record { globals = s.store.globals; locals = s.store.locals ++ take (suc (length ss)) ws }; values = drop (suc (length ss)) ws }) (sym one.2),
    )

pub begin_is : (q : FlatProc) (kind : FlatKind) (consts globals args values : List Value) (begin : FlatState) → begin_of q kind globals args values ≡ Some begin →
    (start q kind consts globals args values ≡ Some (in_env consts begin)) × (begin.results ≡ []) × (begin.calls ≡ [])
begin_is q (Source p) consts globals args values begin h =
    let ss = q.outs ++ q.locals in
    let f = fill_is ss (record { store = record { globals = globals; locals = args }; values = values; results = []; calls = [] }) begin h in (
      ap (λ b. if b then Some (alone (record { consts = consts; globals = globals; locals = args ++ take (length ss) values }) (drop (length ss) values) [] []) else None) f.0
          ∙ ap (λ (y : FlatState). Some (in_env consts y)) (sym f.1),
      ap (λ (y : FlatState). y.results) f.1,
      ap (λ (y : FlatState). y.calls) f.1,
    )
begin_is q (Loop p head) consts globals args values begin h =
    let first : FlatState = record { store = record { globals = globals; locals = args ++ (args ++ (exit_value 0 ∷ map zero_of q.locals)) }; values = values; results = []; calls = [] } in
    let e : first ≡ begin = some_same first begin h in
    (ap (λ (y : FlatState). Some (in_env consts y)) e, sym (ap (λ (y : FlatState). y.results) e), sym (ap (λ (y : FlatState). y.calls) e))

pub start_is : StartIs
start_is = λ flat track call q begin consts b. (begin_is q q.kind consts call.globals call.args track.values begin b.begin_is).0

pub limited_run : LimitedRun
limited_run = λ flat limits q consts track call begin results calls result are b run keep.
    let bare = begin_is q q.kind consts call.globals call.args track.values begin b.begin_is in
    let path = run.0 in
    let s : FlatState = record begin { results = results; calls = [] } in
    let w = tail_slim flat limits q consts are path track.places 0 run.1 s calls result run.3 run.4 in
    let keep2 : AllKeep flat w.more w.results = subst (λ (rs : List Result). AllKeep flat w.more rs) w.results_are (subst (λ (cs : List Request). AllKeep flat cs results) w.calls_are keep) in
    let r = w.runs keep2 track.proc track.values in
    let same : given consts s [] ≡ in_env consts begin =
    ap (λ (rs : List Result). alone (env_with consts begin.store) begin.values rs []) (sym bare.1) ∙ ap (λ (cs : List Request). alone (env_with consts begin.store) begin.values begin.results cs) (sym bare.2) in
    let tracks : ◌≡◌ {A = Track} (record { proc = track.proc; path = 0 ∷ path; places = track.places; values = track.values }) track =
    ap {B = Track} (λ (p : List ℕ). record { proc = track.proc; path = p; places = track.places; values = track.values }) (sym run.2) in
    subst (λ (x : Track). LocalRun (limited flat limits) q x (in_env consts begin) (slims limits calls results) calls result) tracks
    (subst (λ (x : State). LocalRun (limited flat limits) q (record { proc = track.proc; path = 0 ∷ path; places = track.places; values = track.values }) x (slims limits calls results) calls result) same
    (subst (λ (rs : List Result). LocalRun (limited flat limits) q (record { proc = track.proc; path = 0 ∷ path; places = track.places; values = track.values }) (given consts s []) (slims limits calls rs) calls result) (sym w.results_are)
    (subst (λ (cs : List Request). LocalRun (limited flat limits) q (record { proc = track.proc; path = 0 ∷ path; places = track.places; values = track.values }) (given consts s []) (slims limits cs w.results) calls result) (sym w.calls_are) r)))
