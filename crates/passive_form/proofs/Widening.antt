-- A run whose results name the globals alone that the callees may change, command by command, with all globals.
use Rattle.std.proofs.Common.{◌≡◌, ℕ, zero, suc, ◌+◌, ◌<◌, Bool, true, false, ◌&&◌, List, [], ◌∷◌, ◌++◌, map, length, arith, sym, ◌∙◌, ap, refl, subst, append-nil, append_assoc, length-append}
use Rattle.std.specs.Prelude.{Option, None, Some, slice_get, slice_index_or, if◌then◌else◌, All}
use Rattle.std.specs.List.{list_all}
use Rattle.std.specs.Option.{option_and_then}
use Rattle.std.proofs.lemmas.Bool.Decides.{nat_tests}
use Rattle.hy_val.specs.Exprs.{eval}
use Rattle.hy_val.specs.Scope.{sort_of_target}
use Rattle.hy_val.specs.Stores.{Store, env_with, have_sorts, holds, is_value_of, write as store_write, write_all as store_write_all}
use Rattle.hy_val.specs.Values.{has_sort}
use Rattle.hy_val.specs.declared.sort.Sort.{Sort}
use Rattle.hy_val.specs.declared.value.Value.{Value}
use Rattle.hy_val.specs.declared.expr.Env.{Env}
use Rattle.hy_val.specs.declared.expr.Var.{Var}
use Rattle.hy_val.specs.declared.expr.ExprNode.{ExprNode}
use Rattle.hy_val.proofs.Booleans.{and-first, and-second, and-both, all-at}
use Rattle.flat_prog.specs.Program.{FlatProgram, scope_of, variables_of, outs_at}
use Rattle.flat_prog.specs.Shape.{place_of, place_at, cmd_fits, next_fits, block_fits, IsFlatProc, IsFlat}
use Rattle.flat_prog.specs.declared.block.FlatCmd.{FlatCmd}
use Rattle.flat_prog.specs.declared.block.FlatCmd.TheVariants.{Assign, Havoc, Assume, Assert, Call}
use Rattle.flat_prog.specs.declared.block.FlatBlock.{FlatBlock}
use Rattle.flat_prog.specs.declared.proc.FlatProc.{FlatProc}
use Rattle.flat_prog.specs.Local.{Result, Ended, Broken, Request, Track, Tail, Begins, State as FlatState, LocalRun as FlatRun}
use Rattle.flat_prog.specs.Local as flats
use Rattle.flat_prog.specs.Changes.{MayChange, Unchanged, Keeps, AllKeep}
use Rattle.flat_prog.specs.Limits.{row, AreLimits}
use Rattle.flat_prog.specs.Sorted.{IsStoreOf, RunsKeepSorts}
use Rattle.passive_form.specs.Limited.{Limited, limited}
use Rattle.passive_form.specs.Local.{State, alone, sorted_as, write, write_all, sort_of, havoc_with, havoc, picked, replaced, result_fits, after_call, come_back, assigned, targets_of, pass, pass_all, over, fail, cmds_of, is_target, walk, LocalEnds, LocalFails, LocalRun}
use Rattle.passive_form.specs.SameRuns.{in_env, wide, wides, PlainRun}
use Rattle.passive_form.proofs.Slimming.{and_then, choose, some_same, sorted_is, write_is, writes_are, targets_are, assigned_is, sort_is, given, begin_is}
use Rattle.passive_form.proofs.Sorting.{proc_at}

-- ---- the globals behind a call

replaced_sorted : (ms : List Bool) (ss : List Sort) (old new : List Value) → sorted_as ss old ≡ true → sorted_as (picked ms ss) new ≡ true → sorted_as ss (replaced ms old new) ≡ true
replaced_sorted [] ss old new h k = h
replaced_sorted (m ∷ ms) [] [] new h k = refl
replaced_sorted (m ∷ ms) [] (x ∷ xs) new h k = cc
replaced_sorted (m ∷ ms) (s ∷ ss) [] new h k = cc
replaced_sorted (true ∷ ms) (s ∷ ss) (x ∷ xs) [] h k = cc
replaced_sorted (true ∷ ms) (s ∷ ss) (x ∷ xs) (y ∷ ys) h k =
    and-both (has_sort y s) (sorted_as ss (replaced ms xs ys)) (and-first (has_sort y s) (sorted_as (picked ms ss) ys) k)
    (replaced_sorted ms ss xs ys (and-second (has_sort x s) (sorted_as ss xs) h) (and-second (has_sort y s) (sorted_as (picked ms ss) ys) k))
replaced_sorted (false ∷ ms) (s ∷ ss) (x ∷ xs) ys h k =
    and-both (has_sort x s) (sorted_as ss (replaced ms xs ys)) (and-first (has_sort x s) (sorted_as ss xs) h) (replaced_sorted ms ss xs ys (and-second (has_sort x s) (sorted_as ss xs) h) k)

replaced_count : (ms : List Bool) (old new : List Value) → length (replaced ms old new) ≡ length old
replaced_count [] old new = refl
replaced_count (m ∷ ms) [] new = refl
replaced_count (true ∷ ms) (x ∷ xs) [] = refl
replaced_count (true ∷ ms) (x ∷ xs) (y ∷ ys) = ap suc (replaced_count ms xs ys)
replaced_count (false ∷ ms) (x ∷ xs) ys = ap suc (replaced_count ms xs ys)

replaced_other : (ms : List Bool) (old new : List Value) (g : ℕ) → slice_index_or ms g false ≡ false → slice_get (replaced ms old new) g ≡ slice_get old g
replaced_other [] old new g h = refl
replaced_other (m ∷ ms) [] new g h = refl
replaced_other (true ∷ ms) (x ∷ xs) [] g h = refl
replaced_other (true ∷ ms) (x ∷ xs) (y ∷ ys) zero h = cc
replaced_other (true ∷ ms) (x ∷ xs) (y ∷ ys) (suc g) h = replaced_other ms xs ys g h
replaced_other (false ∷ ms) (x ∷ xs) ys zero h = refl
replaced_other (false ∷ ms) (x ∷ xs) ys (suc g) h = replaced_other ms xs ys g h

off_where : (b : Bool) → (b ≡ true → ⊥) → b ≡ false
off_where true h = absurd (h refl)
off_where false h = refl

replaced_keeps : (flat : FlatProgram) (limits : List (List Bool)) (p : ℕ) (old new : List Value) → AreLimits flat limits → Unchanged (λ g. MayChange flat g p) old (replaced (row limits p) old new)
replaced_keeps flat limits p old new are = record {
  count = replaced_count (row limits p) old new;
  others = λ g out. replaced_other (row limits p) old new g (off_where (slice_index_or (row limits p) g false) (λ on. out ((are.exact p g).0 on)));
}

-- ---- results, call by call

wides_append : (limits : List (List Bool)) (cs ds : List Request) (rs ts : List Result) → length rs ≡ length cs → wides limits (cs ++ ds) (rs ++ ts) ≡ wides limits cs rs ++ wides limits ds ts
wides_append limits [] ds [] ts n = refl
wides_append limits [] ds (r ∷ rs) ts n = absurd (omega (arith, n))
wides_append limits (c ∷ cs) ds [] ts n = absurd (omega (arith, n))
wides_append limits (c ∷ cs) ds (r ∷ rs) ts n = ap (λ x. wide limits c r ∷ x) (wides_append limits cs ds rs ts (omega (arith, n)))

wides_count : (limits : List (List Bool)) (cs : List Request) (rs : List Result) → length rs ≡ length cs → length (wides limits cs rs) ≡ length cs
wides_count limits [] rs n = n
wides_count limits (c ∷ cs) [] n = absurd (omega (arith, n))
wides_count limits (c ∷ cs) (r ∷ rs) n = ap suc (wides_count limits cs rs (omega (arith, n)))

keep_append : (flat : FlatProgram) (cs ds : List Request) (rs ts : List Result) → length rs ≡ length cs → AllKeep flat cs rs → AllKeep flat ds ts → AllKeep flat (cs ++ ds) (rs ++ ts)
keep_append flat [] ds [] ts n h k = k
keep_append flat [] ds (r ∷ rs) ts n h k = absurd (omega (arith, n))
keep_append flat (c ∷ cs) ds [] ts n h k = absurd (omega (arith, n))
keep_append flat (c ∷ cs) ds (r ∷ rs) ts n (h, hs) k = (h, keep_append flat cs ds rs ts (omega (arith, n)) hs k)

-- ---- what commands do

-- from s, with these results, to u these calls are made and their results taken; so it is with the wide results
record Wide (flat : FlatProgram) (limits : List (List Bool)) (q : FlatProc) (consts : List Value) (f : FlatState → Option FlatState) (s : FlatState) (rs : List Result) (u : State) : Type 0 where
  pub t : FlatState
  pub calls : List Request
  pub results : List Result
  pub results_are : rs ≡ results ++ u.results
  pub is : u ≡ given consts t u.results
  pub calls_are : t.calls ≡ s.calls ++ calls
  pub one_each : length results ≡ length calls
  pub keeps : AllKeep flat calls (wides limits calls results)
  pub passes : (rest : List Result) → f (record s { results = wides limits calls results ++ rest }) ≡ Some (record t { results = rest })
  pub sorted : IsStoreOf flat q t.store

module _ (flat : FlatProgram) (limits : List (List Bool)) (q : FlatProc) (consts : List Value) (are : AreLimits flat limits) (sorts : RunsKeepSorts) (c_sorted : have_sorts consts flat.consts ≡ true) where
  wide_then : (f g : FlatState → Option FlatState) (s : FlatState) (rs : List Result) (m u : State) → (a : Wide flat limits q consts f s rs m) → Wide flat limits q consts g a.t m.results u →
      Wide flat limits q consts (λ x. option_and_then g (f x)) s rs u
  wide_then f g s rs m u a b =
      let xs = wides limits a.calls a.results in
      let ys = wides limits b.calls b.results in
      let both : wides limits (a.calls ++ b.calls) (a.results ++ b.results) ≡ xs ++ ys = wides_append limits a.calls b.calls a.results b.results a.one_each in
      record {
        t = b.t;
        calls = a.calls ++ b.calls;
        results = a.results ++ b.results;
        results_are = a.results_are ∙ ap (λ x. a.results ++ x) b.results_are ∙ sym (append_assoc a.results b.results u.results);
        is = b.is;
        calls_are = b.calls_are ∙ ap (λ x. x ++ b.calls) a.calls_are ∙ append_assoc s.calls a.calls b.calls;
        one_each = omega (arith, a.one_each, b.one_each, length-append a.results b.results, length-append a.calls b.calls);
        keeps = subst (λ (x : List Result). AllKeep flat (a.calls ++ b.calls) x) (sym both) (keep_append flat a.calls b.calls xs ys (wides_count limits a.calls a.results a.one_each) a.keeps b.keeps);
        passes = λ rest.
            ap (λ (x : List Result). option_and_then g (f (record s { results = x ++ rest }))) both
            ∙ ap (λ (x : List Result). option_and_then g (f (record s { results = x }))) (append_assoc xs ys rest)
            ∙ ap (option_and_then g) (a.passes (ys ++ rest)) ∙ b.passes rest;
        sorted = b.sorted;
      }

  -- a command that takes no result
  still : (c : FlatCmd) (s : FlatState) (rs : List Result) (u : State) (t : FlatState) → cmd_fits flat.procs (scope_of flat q) c ≡ true → IsStoreOf flat q s.store → u ≡ given consts t rs → t.calls ≡ s.calls →
      ((rest : List Result) → flats.pass flat q consts c (record s { results = rest }) ≡ Some (record t { results = rest })) → Wide flat limits q consts (flats.pass flat q consts c) s rs u
  still c s rs u t fits here is calls p = record {
    t = t;
    calls = [];
    results = [];
    results_are = sym (ap (λ (x : State). x.results) is);
    is = is ∙ ap (given consts t) (sym (ap (λ (x : State). x.results) is));
    calls_are = calls ∙ sym (append-nil s.calls);
    one_each = refl;
    keeps = tt;
    passes = p;
    sorted = sorts.commands flat q consts c (record s { results = [] }) (record t { results = [] }) c_sorted fits here (p []);
  }

  havoc_one_wide : (x : Var) (s : FlatState) (rs : List Result) (m : State) (values : List Value) → s.values ≡ values → havoc_with (limited flat limits) q x (given consts s rs) values ≡ Some m →
      (t : FlatState) × (m ≡ given consts t rs) × (t.calls ≡ s.calls) × ((rest : List Result) → flats.havoc_one (scope_of flat q) x (record s { results = rest }) s.values ≡ Some (record t { results = rest }))
  havoc_one_wide x s rs m [] e h = cc
  havoc_one_wide x s rs m (v ∷ vs) e h =
      let c = choose (is_value_of (sort_of (limited flat limits) q x) v) (alone (write (env_with consts s.store) x v) vs rs s.calls) m h in
      let test : is_value_of (sort_of_target (scope_of flat q) x) v ≡ true = ap (λ o. is_value_of o v) (sym (sort_is flat limits q x)) ∙ c.0 in
      let t : FlatState = record s { store = store_write s.store x v; values = vs } in (
        t,
        sym c.1 ∙ ap (λ (y : Env). alone y vs rs s.calls) (sym (write_is consts s.store x v)),
        refl,
        λ rest. ap (flats.havoc_one (scope_of flat q) x (record s { results = rest })) e ∙ ap (λ b. if b then Some (record t { results = rest }) else None) test,
      )

  havoc_wide : (xs : List Var) (s : FlatState) (rs : List Result) (u : State) → havoc (limited flat limits) q xs (given consts s rs) ≡ Some u →
      (t : FlatState) × (u ≡ given consts t rs) × (t.calls ≡ s.calls) × ((rest : List Result) → flats.havoc (scope_of flat q) xs (record s { results = rest }) ≡ Some (record t { results = rest }))
  havoc_wide [] s rs u h = (s, sym (some_same (given consts s rs) u h), refl, λ rest. refl)
  havoc_wide (x ∷ xs) s rs u h =
      let m = and_then (havoc (limited flat limits) q xs) (havoc_with (limited flat limits) q x (given consts s rs) s.values) u h in
      let one = havoc_one_wide x s rs m.0 s.values refl m.1 in
      let more = havoc_wide xs one.0 rs u (ap (havoc (limited flat limits) q xs) (sym one.1) ∙ m.2) in
      (more.0, more.1, more.2 ∙ one.2, λ rest. ap (option_and_then (flats.havoc (scope_of flat q) xs)) (one.3 rest) ∙ more.3 rest)

  call_wide : (p : ℕ) (args : List (List ExprNode)) (outs : List Var) (s : FlatState) (rs : List Result) (u : State) → cmd_fits flat.procs (scope_of flat q) (Call p args outs) ≡ true → IsStoreOf flat q s.store →
      come_back (limited flat limits) (given consts s rs) (flats.request consts s.store p args) outs rs ≡ Some u → Wide flat limits q consts (flats.pass flat q consts (Call p args outs)) s rs u
  call_wide p args outs s [] u fits here h = cc
  call_wide p args outs s (Broken a b ∷ rs) u fits here h = cc
  call_wide p args outs s (Ended os gs ∷ rs) u fits here h =
      let call = flats.request consts s.store p args in
      let marks = row limits p in
      let env = env_with consts s.store in
      let c = choose (result_fits (limited flat limits) p os gs) (alone (write_all (after_call (limited flat limits) p env gs) outs os) s.values rs (s.calls ++ call ∷ [])) u h in
      let all = replaced marks s.store.globals gs in
      let osorts = outs_at (slice_get flat.procs p) in
      let t : FlatState = record { store = store_write_all (record { globals = all; locals = s.store.locals }) outs os; values = s.values; results = []; calls = s.calls ++ call ∷ [] } in
      let o_fit : have_sorts os osorts ≡ true = sorted_is os osorts ∙ and-first (sorted_as osorts os) (sorted_as (picked marks flat.globals) gs) c.0 in
      let g_fit : have_sorts all flat.globals ≡ true =
      sorted_is all flat.globals ∙ replaced_sorted marks flat.globals s.store.globals gs (sym (sorted_is s.store.globals flat.globals) ∙ here.globals) (and-second (sorted_as osorts os) (sorted_as (picked marks flat.globals) gs) c.0) in
      let can : flats.can_come_back flat p os all ≡ true = and-both (have_sorts os osorts) (have_sorts all flat.globals) o_fit g_fit in
      let is : u ≡ given consts t rs =
      sym c.1 ∙ ap (λ (y : Env). alone y s.values rs (s.calls ++ call ∷ [])) (sym (writes_are consts (record { globals = all; locals = s.store.locals }) outs os)) in
      let go : (rest : List Result) → flats.pass flat q consts (Call p args outs) (record s { results = Ended os all ∷ rest }) ≡ Some (record t { results = rest }) = λ rest.
      ap (λ b. if b then Some (record t { results = rest }) else None) can in
      record {
        t = t;
        calls = call ∷ [];
        results = Ended os gs ∷ [];
        results_are = ap (λ (x : List Result). Ended os gs ∷ x) (sym (ap (λ (x : State). x.results) is));
        is = is ∙ ap (given consts t) (sym (ap (λ (x : State). x.results) is));
        calls_are = refl;
        one_each = refl;
        keeps = (replaced_keeps flat limits p s.store.globals gs are, tt);
        passes = go;
        sorted = sorts.commands flat q consts (Call p args outs) (record s { results = Ended os all ∷ [] }) (record t { results = [] }) c_sorted fits here (go []);
      }

  pass_wide : (c : FlatCmd) (s : FlatState) (rs : List Result) (u : State) → cmd_fits flat.procs (scope_of flat q) c ≡ true → IsStoreOf flat q s.store → pass (limited flat limits) q c (given consts s rs) ≡ Some u →
      Wide flat limits q consts (flats.pass flat q consts c) s rs u
  pass_wide (Assign pairs) s rs u fits here h =
      let env = env_with consts s.store in
      let t : FlatState = record s { store = store_write_all s.store (map (λ p. p.0) pairs) (map (λ p. eval env p.1) pairs) } in
      let written : env_with consts t.store ≡ write_all env (targets_of pairs) (assigned env pairs) =
      writes_are consts s.store (map (λ p. p.0) pairs) (map (λ p. eval env p.1) pairs)
      ∙ ap (λ xs. write_all env xs (map (λ p. eval env p.1) pairs)) (targets_are pairs) ∙ ap (write_all env (targets_of pairs)) (assigned_is env pairs) in
      still (Assign pairs) s rs u t fits here
      (sym (some_same (alone (write_all env (targets_of pairs) (assigned env pairs)) s.values rs s.calls) u h) ∙ ap (λ (y : Env). alone y s.values rs s.calls) (sym written)) refl (λ rest. refl)
  pass_wide (Havoc xs) s rs u fits here h = let r = havoc_wide xs s rs u h in still (Havoc xs) s rs u r.0 fits here r.1 r.2 r.3
  pass_wide (Assume expr) s rs u fits here h =
      let c = choose (holds (env_with consts s.store) expr) (given consts s rs) u h in
      still (Assume expr) s rs u s fits here (sym c.1) refl (λ rest. ap (λ b. if b then Some (record s { results = rest }) else None) c.0)
  pass_wide (Assert p n expr) s rs u fits here h =
      let c = choose (holds (env_with consts s.store) expr) (given consts s rs) u h in
      still (Assert p n expr) s rs u s fits here (sym c.1) refl (λ rest. ap (λ b. if b then Some (record s { results = rest }) else None) c.0)
  pass_wide (Call p args outs) s rs u fits here h = call_wide p args outs s rs u fits here h

  all_wide : (cs : List FlatCmd) (s : FlatState) (rs : List Result) (u : State) → list_all (cmd_fits flat.procs (scope_of flat q)) cs ≡ true → IsStoreOf flat q s.store → pass_all (limited flat limits) q cs (given consts s rs) ≡ Some u →
      Wide flat limits q consts (flats.pass_all flat q consts cs) s rs u
  all_wide [] s rs u fits here h =
      let is = some_same (given consts s rs) u h in
      record {
        t = s;
        calls = [];
        results = [];
        results_are = ap (λ (x : State). x.results) is;
        is = sym is ∙ ap (given consts s) (ap (λ (x : State). x.results) is);
        calls_are = sym (append-nil s.calls);
        one_each = refl;
        keeps = tt;
        passes = λ rest. refl;
        sorted = here;
      }
  all_wide (c ∷ cs) s rs u fits here h =
      let m = and_then (pass_all (limited flat limits) q cs) (pass (limited flat limits) q c (given consts s rs)) u h in
      let a = pass_wide c s rs m.0 (and-first (cmd_fits flat.procs (scope_of flat q) c) (list_all (cmd_fits flat.procs (scope_of flat q)) cs) fits) here m.1 in
      let b = all_wide cs a.t (m.0).results u (and-second (cmd_fits flat.procs (scope_of flat q) c) (list_all (cmd_fits flat.procs (scope_of flat q)) cs) fits) a.sorted
      (ap (pass_all (limited flat limits) q cs) (sym a.is) ∙ m.2) in
      wide_then (flats.pass flat q consts c) (flats.pass_all flat q consts cs) s rs m.0 u a b

  -- ---- commands that fail

  record Widened (c : FlatCmd) (s : FlatState) (rs : List Result) (proc number : ℕ) (calls : List Request) : Type 0 where
    pub more : List Request
    pub calls_are : calls ≡ s.calls ++ more
    pub one_each : length rs ≡ length more
    pub keeps : AllKeep flat more (wides limits more rs)
    pub fails : flats.fail consts c (record s { results = wides limits more rs }) ≡ Some (Broken proc number, calls)

  fail_wide : (c : FlatCmd) (s : FlatState) (rs : List Result) (proc number : ℕ) (calls : List Request) → fail c (given consts s rs) ≡ Some (Broken proc number, calls) → Widened c s rs proc number calls
  fail_wide (Assign pairs) s rs proc number calls h = cc
  fail_wide (Havoc xs) s rs proc number calls h = cc
  fail_wide (Assume expr) s rs proc number calls h = cc
  fail_wide (Assert p n expr) s rs proc number calls h = by (holds (env_with consts s.store) expr) rs refl h
    where
      by : (b : Bool) (rs : List Result) → holds (env_with consts s.store) expr ≡ b → (if b then None else over p n s.calls rs) ≡ Some (Broken proc number, calls) → Widened (Assert p n expr) s rs proc number calls
      by true rs e k = cc
      by false (r ∷ rs) e k = cc
      by false [] e k =
          let same : ◌≡◌ {A = Result × List Request} (Broken p n, s.calls) (Broken proc number, calls) = some_same (Broken p n, s.calls) (Broken proc number, calls) k in
          record {
            more = [];
            calls_are = sym (ap (λ (x : Result × List Request). x.1) same) ∙ sym (append-nil s.calls);
            one_each = refl;
            keeps = tt;
            fails = ap (λ b. if b then None else Some (Broken p n, s.calls)) e ∙ k;
          }
  fail_wide (Call p args outs) s [] proc number calls h = cc
  fail_wide (Call p args outs) s (Ended os gs ∷ rs) proc number calls h = cc
  fail_wide (Call p args outs) s (Broken a b ∷ r ∷ rs) proc number calls h = cc
  fail_wide (Call p args outs) s (Broken a b ∷ []) proc number calls h =
      let call = flats.request consts s.store p args in
      let same : ◌≡◌ {A = Result × List Request} (Broken a b, s.calls ++ call ∷ []) (Broken proc number, calls) = some_same (Broken a b, s.calls ++ call ∷ []) (Broken proc number, calls) h in
      record { more = call ∷ []; calls_are = sym (ap (λ (x : Result × List Request). x.1) same); one_each = refl; keeps = (tt, tt); fails = h }

  -- ---- a run from a block on

  record Plain (b : ℕ) (path places : List ℕ) (s : FlatState) (rs : List Result) (calls : List Request) (result : Result) : Type 0 where
    pub more : List Request
    pub calls_are : calls ≡ s.calls ++ more
    pub one_each : length rs ≡ length more
    pub keeps : AllKeep flat more (wides limits more rs)
    pub block : FlatBlock
    pub at : slice_get q.blocks b ≡ Some block
    pub tail : Tail flat q consts path places block.cmds block.next (record s { results = wides limits more rs }) calls result

  -- what a walk leads to
  abbrev Leads : ℕ → List ℕ → List ℕ → State → List Request → Result → Type 0
  Leads b path places u calls result = LocalRun (limited flat limits) q (record { proc = 0; path = b ∷ path; places = places; values = [] }) u u.results calls result

  module _ (fits : (n : ℕ) (b : FlatBlock) → slice_get q.blocks n ≡ Some b → list_all (cmd_fits flat.procs (scope_of flat q)) b.cmds ≡ true) where
    pair_same : (o p : Option FlatBlock) (u v : State) → ◌≡◌ {A = Option (Option FlatBlock × State)} (Some (o, u)) (Some (p, v)) → (o ≡ p) × (u ≡ v)
    pair_same o p u v h =
        let e : ◌≡◌ {A = Option FlatBlock × State} (o, u) (p, v) = some_same (o, u) (p, v) h in
        (ap (λ (x : Option FlatBlock × State). x.0) e, ap (λ (x : Option FlatBlock × State). x.1) e)

    stop_wide : (b : ℕ) (s : FlatState) (rs : List Result) (calls : List Request) (result : Result) → IsStoreOf flat q s.store → Leads b [] [] (given consts s rs) calls result → Plain b [] [] s rs calls result
    stop_wide b s rs calls (Ended os gs) here r =
        let e = pair_same (slice_get q.blocks b) (Some r.last) (given consts s rs) r.arrived r.walks in
        let w = all_wide r.last.cmds s rs r.over (fits b r.last e.0) here (ap (pass_all (limited flat limits) q r.last.cmds) e.1 ∙ r.passes) in
        let all : rs ≡ w.results = w.results_are ∙ ap (λ x. w.results ++ x) r.taken.1 ∙ append-nil w.results in
        record {
          more = w.calls;
          calls_are = r.calls_are ∙ ap (λ (x : State). x.calls) w.is ∙ w.calls_are;
          one_each = ap length all ∙ w.one_each;
          keeps = subst (λ (x : List Result). AllKeep flat w.calls (wides limits w.calls x)) (sym all) w.keeps;
          block = r.last;
          at = e.0;
          tail = record {
            over = record w.t { results = [] };
            passes = ap (λ (x : List Result). flats.pass_all flat q consts r.last.cmds (record s { results = wides limits w.calls x })) all
                ∙ ap (λ (x : List Result). flats.pass_all flat q consts r.last.cmds (record s { results = x })) (sym (append-nil (wides limits w.calls w.results))) ∙ w.passes [];
            returns = r.returns;
            values = sym (ap (λ (x : State). x.values) w.is) ∙ r.taken.0;
            results = refl;
            calls_are = r.calls_are ∙ ap (λ (x : State). x.calls) w.is;
            outs_are = r.outs_are ∙ ap (λ (x : State). flats.outs_of q x.env.locals) w.is;
            globals_are = r.globals_are ∙ ap (λ (x : State). x.env.globals) w.is;
          };
        }
    stop_wide b s rs calls (Broken proc number) here r =
        let e = pair_same (slice_get q.blocks b) (Some r.last) (given consts s rs) r.arrived r.walks in
        let front : list_all (cmd_fits flat.procs (scope_of flat q)) r.before ≡ true =
        first_of_all (cmd_fits flat.procs (scope_of flat q)) r.before (r.at ∷ r.after) (ap (list_all (cmd_fits flat.procs (scope_of flat q))) (sym r.splits) ∙ fits b r.last e.0) in
        let w = all_wide r.before s rs r.over front here (ap (pass_all (limited flat limits) q r.before) e.1 ∙ r.passes) in
        let us = (r.over).results in
        let f = fail_wide r.at w.t us proc number calls (ap (fail r.at) (sym w.is) ∙ r.fails) in
        let xs = wides limits w.calls w.results in
        let both : wides limits (w.calls ++ f.more) rs ≡ xs ++ wides limits f.more us = ap (wides limits (w.calls ++ f.more)) w.results_are ∙ wides_append limits w.calls f.more w.results us w.one_each in
        record {
          more = w.calls ++ f.more;
          calls_are = f.calls_are ∙ ap (λ x. x ++ f.more) w.calls_are ∙ append_assoc s.calls w.calls f.more;
          one_each = omega (arith, ap length w.results_are, length-append w.results us, w.one_each, f.one_each, length-append w.calls f.more);
          keeps = subst (λ (x : List Result). AllKeep flat (w.calls ++ f.more) x) (sym both) (keep_append flat w.calls f.more xs (wides limits f.more us) (wides_count limits w.calls w.results w.one_each) w.keeps f.keeps);
          block = r.last;
          at = e.0;
          tail = record {
            before = r.before;
            at = r.at;
            behind = r.after;
            over = record w.t { results = wides limits f.more us };
            splits = r.splits;
            passes = ap (λ (x : List Result). flats.pass_all flat q consts r.before (record s { results = x })) both ∙ w.passes (wides limits f.more us);
            fails = f.fails;
            values = sym (ap (λ (x : State). x.values) w.is) ∙ r.taken;
          };
        }
      where
        first_of_all : (f : FlatCmd → Bool) (xs ys : List FlatCmd) → list_all f (xs ++ ys) ≡ true → list_all f xs ≡ true
        first_of_all f [] ys h = refl
        first_of_all f (x ∷ xs) ys h = and-both (f x) (list_all f xs) (and-first (f x) (list_all f (xs ++ ys)) h) (first_of_all f xs ys (and-second (f x) (list_all f (xs ++ ys)) h))

    -- a walk on from the block that an edge leads to
    record Moved (b c place : ℕ) (path places : List ℕ) (u : State) (o : Option FlatBlock × State) : Type 0 where
      pub block : FlatBlock
      pub at : slice_get q.blocks b ≡ Some block
      pub edge : place_of block.next place ≡ Some c
      pub m : State
      pub passes : pass_all (limited flat limits) q block.cmds u ≡ Some m
      pub walks : walk (limited flat limits) q (c ∷ path) places m ≡ Some o

    moved : (b c place : ℕ) (path places : List ℕ) (u : State) (o : Option FlatBlock × State) → walk (limited flat limits) q (b ∷ c ∷ path) (place ∷ places) u ≡ Some o → Moved b c place path places u o
    moved b c place path places u o h = by (slice_get q.blocks b) refl h
      where
        goes : (x : Bool) (r : Option (Option FlatBlock × State)) → (if x then r else None) ≡ Some o → (x ≡ true) × (r ≡ Some o)
        goes true r k = (refl, k)
        goes false r k = cc

        to_is : (x : Option ℕ) → is_target x c ≡ true → x ≡ Some c
        to_is None k = cc
        to_is (Some n) k = ap Some (grind (arith, nat_tests, k))

        by : (x : Option FlatBlock) → slice_get q.blocks b ≡ x →
            (if is_target (place_at x place) c then option_and_then (walk (limited flat limits) q (c ∷ path) places) (pass_all (limited flat limits) q (cmds_of x) u) else None) ≡ Some o → Moved b c place path places u o
        by None at k = cc
        by (Some block) at k =
            let g = goes (is_target (place_of block.next place) c) (option_and_then (walk (limited flat limits) q (c ∷ path) places) (pass_all (limited flat limits) q block.cmds u)) k in
            let m = and_then (walk (limited flat limits) q (c ∷ path) places) (pass_all (limited flat limits) q block.cmds u) o g.1 in
            record { block = block; at = at; edge = to_is (place_of block.next place) g.0; m = m.0; passes = m.1; walks = m.2 }

    step_wide : (b c place : ℕ) (path places : List ℕ) (s : FlatState) (rs : List Result) (calls : List Request) (result : Result) (o : Option FlatBlock × State) → IsStoreOf flat q s.store →
        (v : Moved b c place path places (given consts s rs) o) → ((t : FlatState) (us : List Result) → IsStoreOf flat q t.store → walk (limited flat limits) q (c ∷ path) places (given consts t us) ≡ Some o → Plain c path places t us calls result) →
        Plain b (c ∷ path) (place ∷ places) s rs calls result
    step_wide b c place path places s rs calls result o here v go =
        let w = all_wide v.block.cmds s rs v.m (fits b v.block v.at) here v.passes in
        let us = (v.m).results in
        let p = go w.t us w.sorted (ap (walk (limited flat limits) q (c ∷ path) places) (sym w.is) ∙ v.walks) in
        let xs = wides limits w.calls w.results in
        let both : wides limits (w.calls ++ p.more) rs ≡ xs ++ wides limits p.more us = ap (wides limits (w.calls ++ p.more)) w.results_are ∙ wides_append limits w.calls p.more w.results us w.one_each in
        record {
          more = w.calls ++ p.more;
          calls_are = p.calls_are ∙ ap (λ x. x ++ p.more) w.calls_are ∙ append_assoc s.calls w.calls p.more;
          one_each = omega (arith, ap length w.results_are, length-append w.results us, w.one_each, p.one_each, length-append w.calls p.more);
          keeps = subst (λ (x : List Result). AllKeep flat (w.calls ++ p.more) x) (sym both) (keep_append flat w.calls p.more xs (wides limits p.more us) (wides_count limits w.calls w.results w.one_each) w.keeps p.keeps);
          block = v.block;
          at = v.at;
          tail = (
            p.block,
            record w.t { results = wides limits p.more us },
            ap (λ (x : List Result). flats.pass_all flat q consts v.block.cmds (record s { results = x })) both ∙ w.passes (wides limits p.more us),
            v.edge,
            p.at,
            p.tail,
          );
        }

    tail_wide : (path places : List ℕ) (b : ℕ) (s : FlatState) (rs : List Result) (calls : List Request) (result : Result) → IsStoreOf flat q s.store → Leads b path places (given consts s rs) calls result → Plain b path places s rs calls result
    tail_wide [] [] b s rs calls result here r = stop_wide b s rs calls result here r
    tail_wide [] (place ∷ places) b s rs calls (Ended os gs) here r = let w = r.walks in cc
    tail_wide [] (place ∷ places) b s rs calls (Broken p n) here r = let w = r.walks in cc
    tail_wide (c ∷ path) [] b s rs calls (Ended os gs) here r = let w = r.walks in cc
    tail_wide (c ∷ path) [] b s rs calls (Broken p n) here r = let w = r.walks in cc
    tail_wide (c ∷ path) (place ∷ places) b s rs calls (Ended os gs) here r =
        step_wide b c place path places s rs calls (Ended os gs) (Some r.last, r.arrived) here (moved b c place path places (given consts s rs) (Some r.last, r.arrived) r.walks)
        (λ t us sorted w. tail_wide path places c t us calls (Ended os gs) sorted (record {
          last = r.last;
          arrived = r.arrived;
          over = r.over;
          walks = w;
          passes = r.passes;
          returns = r.returns;
          taken = r.taken;
          calls_are = r.calls_are;
          outs_are = r.outs_are;
          globals_are = r.globals_are;
        }))
    tail_wide (c ∷ path) (place ∷ places) b s rs calls (Broken p n) here r =
        step_wide b c place path places s rs calls (Broken p n) (Some r.last, r.arrived) here (moved b c place path places (given consts s rs) (Some r.last, r.arrived) r.walks)
        (λ t us sorted w. tail_wide path places c t us calls (Broken p n) sorted (record {
          last = r.last;
          arrived = r.arrived;
          before = r.before;
          at = r.at;
          after = r.after;
          over = r.over;
          walks = w;
          splits = r.splits;
          passes = r.passes;
          fails = r.fails;
          taken = r.taken;
        }))

-- ---- from the begin

pub plain_run : RunsKeepSorts → PlainRun
plain_run sorts = λ flat limits q consts track path call begin results calls result is are c_sorted b from run.
    let proc = proc_at (IsFlatProc flat) flat.procs track.proc q is.procs b.proc in
    let bare = begin_is q q.kind consts call.globals call.args track.values begin b.begin_is in
    let here = sorts.begins flat q call.globals call.args track.values begin proc b.globals b.args b.begin_is in
    let fits : (n : ℕ) (x : FlatBlock) → slice_get q.blocks n ≡ Some x → list_all (cmd_fits flat.procs (scope_of flat q)) x.cmds ≡ true = λ n x e.
    and-first (list_all (cmd_fits flat.procs (scope_of flat q)) x.cmds) (next_fits (length q.blocks) x.next) (all-at (block_fits flat.procs (scope_of flat q) (length q.blocks)) q.blocks n x proc.blocks e) in
    let s : FlatState = record begin { results = []; calls = [] } in
    let same : in_env consts begin ≡ given consts s begin.results = ap (λ (cs : List Request). alone (env_with consts begin.store) begin.values begin.results cs) bare.2 in
    let start = leads result flat limits q consts track path begin results calls s from same run in
    let p = tail_wide flat limits q consts are sorts c_sorted fits path track.places 0 s results calls result here start in
    let cs : List Request = p.more in
    let calls_is : calls ≡ p.more = p.calls_are in
    let wides_is : wides limits calls results ≡ wides limits p.more results = ap (λ (xs : List Request). wides limits xs results) calls_is in (
      (path, p.block, from, p.at, subst (λ (xs : List Result). Tail flat q consts path track.places p.block.cmds p.block.next (record begin { results = xs; calls = [] }) calls result) (sym wides_is) p.tail),
      subst (λ (xs : List Request). AllKeep flat xs (wides limits xs results)) (sym calls_is) p.keeps,
    )
  where
    leads : (result : Result) (flat : FlatProgram) (limits : List (List Bool)) (q : FlatProc) (consts : List Value) (track : Track) (path : List ℕ) (begin : FlatState) (results : List Result) (calls : List Request) (s : FlatState) → track.path ≡ 0 ∷ path →
        in_env consts begin ≡ given consts s begin.results → LocalRun (limited flat limits) q track (in_env consts begin) results calls result →
        LocalRun (limited flat limits) q (record { proc = 0; path = 0 ∷ path; places = track.places; values = [] }) (given consts s results) results calls result
    leads (Ended os gs) flat limits q consts track path begin results calls s from same r = record {
      last = r.last;
      arrived = r.arrived;
      over = r.over;
      walks = ap (λ (x : State). walk (limited flat limits) q (0 ∷ path) track.places (record x { results = results })) (sym same) ∙ ap (λ (x : List ℕ). walk (limited flat limits) q x track.places (record (in_env consts begin) { results = results })) (sym from) ∙ r.walks;
      passes = r.passes;
      returns = r.returns;
      taken = r.taken;
      calls_are = r.calls_are;
      outs_are = r.outs_are;
      globals_are = r.globals_are;
    }
    leads (Broken p n) flat limits q consts track path begin results calls s from same r = record {
      last = r.last;
      arrived = r.arrived;
      before = r.before;
      at = r.at;
      after = r.after;
      over = r.over;
      walks = ap (λ (x : State). walk (limited flat limits) q (0 ∷ path) track.places (record x { results = results })) (sym same) ∙ ap (λ (x : List ℕ). walk (limited flat limits) q x track.places (record (in_env consts begin) { results = results })) (sym from) ∙ r.walks;
      splits = r.splits;
      passes = r.passes;
      fails = r.fails;
      taken = r.taken;
    }
