-- Values keep their sorts along a run of a procedure.
use Rattle.std.proofs.Common.{◌≡◌, ℕ, zero, suc, Bool, true, false, if◌then◌else◌, List, [], ◌∷◌, ◌++◌, map, length, take, drop, slice_get, slice_set, Option, None, Some, refl, sym, ap, ◌∙◌, subst, append_assoc, true≢false}
use Rattle.std.proofs.lemmas.Bool.{and_parts, and_from}
use Rattle.std.specs.List.{list_all}
use Rattle.hy_val.proofs.Scopes.{is_sort_of_is}
use Rattle.hy_val.specs.Exprs.{eval}
use Rattle.hy_val.specs.Laws.{FittingExpressionsHaveTheirSorts, ValuesKeepSorts}
use Rattle.hy_val.specs.NodeSorts.{is_sort}
use Rattle.hy_val.specs.Scope.{Scope, sort_of_target, is_sort_of, are_same, node_fits, sort_of_expr, expr_fits, pair_fits, are_numbered}
use Rattle.hy_val.specs.Stores.{Store, write, write_all, holds, env_with, is_value_of, have_sorts}
use Rattle.hy_val.specs.Values.{has_sort, zero_of}
use Rattle.hy_val.specs.declared.expr.ExprNode.{ExprNode}
use Rattle.hy_val.specs.declared.expr.Var.{Var}
use Rattle.hy_val.specs.declared.expr.Var.TheVariants.{Const, Global, Local}
use Rattle.hy_val.specs.declared.sort.Sort.{Sort}
use Rattle.hy_val.specs.declared.value.Value.{Value}
use Rattle.flat_prog.specs.Local.{Request, Result, Ended, Broken, State, Track, Tail, Stop, LocalRun, request, havoc_one, havoc, can_come_back, come_back, pass, pass_all, assert_fails, call_fails, fail, fill_one, fill, exit_value, begin_of}
use Rattle.flat_prog.specs.Program.{FlatProgram, scope_of, variables_of, outs_at}
use Rattle.flat_prog.specs.Shape.{IsFlatProc, HaveLoopOuts, exit_sort, sorts_fit, args_fit, targets_fit, call_fits, cmd_fits, next_fits, block_fits}
use Rattle.flat_prog.specs.Sorted.{IsStoreOf, IsAsked, AllAsked, Gives, RunsKeepSorts}
use Rattle.flat_prog.specs.declared.block.FlatBlock.{FlatBlock}
use Rattle.flat_prog.specs.declared.block.FlatCmd.{FlatCmd}
use Rattle.flat_prog.specs.declared.block.FlatCmd.TheVariants.{Assign, Havoc, Assume, Assert, Call}
use Rattle.flat_prog.specs.declared.block.FlatNext.{FlatNext}
use Rattle.flat_prog.specs.declared.proc.FlatKind.{FlatKind}
use Rattle.flat_prog.specs.declared.proc.FlatKind.TheVariants.{Source, Loop}
use Rattle.flat_prog.specs.declared.proc.FlatProc.{FlatProc}
use Rattle.flat_prog.proofs.Lists.{test_at}
use Rattle.flat_prog.proofs.Steps.{and_then_some, if_some}

-- ---- lists of values

have_set : (vs : List Value) (sorts : List Sort) (n : ℕ) (s : Sort) (v : Value) → have_sorts vs sorts ≡ true → slice_get sorts n ≡ Some s → has_sort v s ≡ true → have_sorts (slice_set vs n v) sorts ≡ true
have_set [] sorts n s v h at is = h
have_set (w ∷ vs) [] n s v h at is = absurd (true≢false (sym h))
have_set (w ∷ vs) (t ∷ sorts) zero s v h at is =
    let same : t ≡ s = cc in
    and_from (has_sort v t) (have_sorts vs sorts) (subst (λ x. has_sort v x ≡ true) (sym same) is) (and_parts (has_sort w t) (have_sorts vs sorts) h).1
have_set (w ∷ vs) (t ∷ sorts) (suc n) s v h at is =
    let parts = and_parts (has_sort w t) (have_sorts vs sorts) h in
    and_from (has_sort w t) (have_sorts (slice_set vs n v) sorts) parts.0 (have_set vs sorts n s v parts.1 at is)

have_both : (vs ws : List Value) (ss ts : List Sort) → have_sorts vs ss ≡ true → have_sorts ws ts ≡ true → have_sorts (vs ++ ws) (ss ++ ts) ≡ true
have_both [] ws [] ts h k = k
have_both [] ws (s ∷ ss) ts h k = absurd (true≢false (sym h))
have_both (v ∷ vs) ws [] ts h k = absurd (true≢false (sym h))
have_both (v ∷ vs) ws (s ∷ ss) ts h k =
    let parts = and_parts (has_sort v s) (have_sorts vs ss) h in
    and_from (has_sort v s) (have_sorts (vs ++ ws) (ss ++ ts)) parts.0 (have_both vs ws ss ts parts.1 k)

have_front : (vs : List Value) (ss ts : List Sort) → have_sorts vs (ss ++ ts) ≡ true → have_sorts (take (length ss) vs) ss ≡ true
have_front [] [] ts h = refl
have_front (v ∷ vs) [] ts h = refl
have_front [] (s ∷ ss) ts h = absurd (true≢false (sym h))
have_front (v ∷ vs) (s ∷ ss) ts h =
    let parts = and_parts (has_sort v s) (have_sorts vs (ss ++ ts)) h in
    and_from (has_sort v s) (have_sorts (take (length ss) vs) ss) parts.0 (have_front vs ss ts parts.1)

have_back : (vs : List Value) (ss ts : List Sort) → have_sorts vs (ss ++ ts) ≡ true → have_sorts (drop (length ss) vs) ts ≡ true
have_back [] [] ts h = h
have_back (v ∷ vs) [] ts h = h
have_back [] (s ∷ ss) ts h = absurd (true≢false (sym h))
have_back (v ∷ vs) (s ∷ ss) ts h = have_back vs ss ts (and_parts (has_sort v s) (have_sorts vs (ss ++ ts)) h).1

-- ---- writes

store_by : (flat : FlatProgram) (q : FlatProc) (s : Store) (x : Var) (v : Value) (o : Option Sort) → sort_of_target (scope_of flat q) x ≡ o → is_value_of o v ≡ true → IsStoreOf flat q s → IsStoreOf flat q (write s x v)
store_by flat q s x v None at is h = absurd (true≢false (sym is))
store_by flat q s (Const n) v (Some sort) at is h = h
store_by flat q s (Global n) v (Some sort) at is h = record { globals = have_set s.globals flat.globals n sort v h.globals at is; locals = h.locals }
store_by flat q s (Local n) v (Some sort) at is h = record { globals = h.globals; locals = have_set s.locals (variables_of q) n sort v h.locals at is }

-- each value is one of its target
abbrev CanWrite : Scope → List Var → List Value → Type 0
CanWrite scope [] vs = Unit {0}
CanWrite scope (x ∷ xs) [] = Unit {0}
CanWrite scope (x ∷ xs) (v ∷ vs) = (is_value_of (sort_of_target scope x) v ≡ true) × CanWrite scope xs vs

all_written : (flat : FlatProgram) (q : FlatProc) (s : Store) (xs : List Var) (vs : List Value) → CanWrite (scope_of flat q) xs vs → IsStoreOf flat q s → IsStoreOf flat q (write_all s xs vs)
all_written flat q s [] vs can h = h
all_written flat q s (x ∷ xs) [] can h = h
all_written flat q s (x ∷ xs) (v ∷ vs) can h =
    all_written flat q (write s x v) xs vs can.1 (store_by flat q s x v (sort_of_target (scope_of flat q) x) refl can.0 h)

-- ---- expressions

no_sort : (o : Option Sort) → are_same o None ≡ true → ⊥
no_sort None h = true≢false (sym h)
no_sort (Some s) h = true≢false (sym h)

value_fits : FittingExpressionsHaveTheirSorts → (flat : FlatProgram) (q : FlatProc) (consts : List Value) (store : Store) → have_sorts consts flat.consts ≡ true → IsStoreOf flat q store → (o : Option Sort) (nodes : List ExprNode) →
    expr_fits (scope_of flat q) o nodes ≡ true → is_value_of o (eval (env_with consts store) nodes) ≡ true
value_fits law flat q consts store cs h None nodes fit = absurd (no_sort (sort_of_expr nodes) (and_parts (list_all (node_fits (scope_of flat q)) nodes) (are_same (sort_of_expr nodes) None) fit).1)
value_fits law flat q consts store cs h (Some sort) nodes fit = (law (scope_of flat q) (env_with consts store) cs h.globals h.locals sort nodes fit).1

pairs_can : FittingExpressionsHaveTheirSorts → (flat : FlatProgram) (q : FlatProc) (consts : List Value) (store : Store) → have_sorts consts flat.consts ≡ true → IsStoreOf flat q store → (pairs : List (Var × List ExprNode)) →
    list_all (pair_fits (scope_of flat q)) pairs ≡ true → CanWrite (scope_of flat q) (map (λ p. p.0) pairs) (map (λ p. eval (env_with consts store) p.1) pairs)
pairs_can law flat q consts store cs h [] fit = tt
pairs_can law flat q consts store cs h (p ∷ pairs) fit =
    let parts = and_parts (pair_fits (scope_of flat q) p) (list_all (pair_fits (scope_of flat q)) pairs) fit in
    (value_fits law flat q consts store cs h (sort_of_target (scope_of flat q) p.0) p.1 parts.0, pairs_can law flat q consts store cs h pairs parts.1)

args_have : FittingExpressionsHaveTheirSorts → (flat : FlatProgram) (q : FlatProc) (consts : List Value) (store : Store) → have_sorts consts flat.consts ≡ true → IsStoreOf flat q store → (sorts : List Sort) (args : List (List ExprNode)) →
    args_fit (scope_of flat q) sorts args ≡ true → have_sorts (map (eval (env_with consts store)) args) sorts ≡ true
args_have law flat q consts store cs h [] [] fit = refl
args_have law flat q consts store cs h [] (arg ∷ args) fit = absurd (true≢false (sym fit))
args_have law flat q consts store cs h (sort ∷ sorts) [] fit = absurd (true≢false (sym fit))
args_have law flat q consts store cs h (sort ∷ sorts) (arg ∷ args) fit =
    let parts = and_parts (expr_fits (scope_of flat q) (Some sort) arg) (args_fit (scope_of flat q) sorts args) fit in
    and_from (has_sort (eval (env_with consts store) arg) sort) (have_sorts (map (eval (env_with consts store)) args) sorts)
    (value_fits law flat q consts store cs h (Some sort) arg parts.0) (args_have law flat q consts store cs h sorts args parts.1)

outs_can : (scope : Scope) (sorts : List Sort) (xs : List Var) (vs : List Value) → targets_fit scope sorts xs ≡ true → have_sorts vs sorts ≡ true → CanWrite scope xs vs
outs_can scope [] [] vs fit h = tt
outs_can scope [] (x ∷ xs) vs fit h = absurd (true≢false (sym fit))
outs_can scope (sort ∷ sorts) [] vs fit h = tt
outs_can scope (sort ∷ sorts) (x ∷ xs) [] fit h = tt
outs_can scope (sort ∷ sorts) (x ∷ xs) (v ∷ vs) fit h =
    let parts = and_parts (is_sort_of (sort_of_target scope x) sort) (targets_fit scope sorts xs) fit in
    let have = and_parts (has_sort v sort) (have_sorts vs sorts) h in
    (ap (λ o. is_value_of o v) (is_sort_of_is (sort_of_target scope x) sort parts.0) ∙ have.0, outs_can scope sorts xs vs parts.1 have.1)

-- ---- commands

havoc_sorted : (flat : FlatProgram) (q : FlatProc) (xs : List Var) (s t : State) → havoc (scope_of flat q) xs s ≡ Some t → IsStoreOf flat q s.store → IsStoreOf flat q t.store
havoc_sorted flat q [] s t e h = let same : s ≡ t = cc in subst (λ (u : State). IsStoreOf flat q u.store) same h
havoc_sorted flat q (x ∷ xs) s t e h =
    let m = and_then_some (havoc (scope_of flat q) xs) (havoc_one (scope_of flat q) x s s.values) t e in
    havoc_sorted flat q xs m.0 t m.2 (one s.values m.0 m.1)
  where
    one : (values : List Value) (m : State) → havoc_one (scope_of flat q) x s values ≡ Some m → IsStoreOf flat q m.store
    one [] m e = cc
    one (v ∷ rest) m e =
        let c = if_some (is_value_of (sort_of_target (scope_of flat q) x) v) (record s { store = write s.store x v; values = rest }) m e in
        subst (λ (u : State). IsStoreOf flat q u.store) c.1 (store_by flat q s.store x v (sort_of_target (scope_of flat q) x) refl c.0 h)

-- the callee of a call that fits
called : (procs : List FlatProc) (scope : Scope) (proc : ℕ) (args : List (List ExprNode)) (outs : List Var) (o : Option FlatProc) → slice_get procs proc ≡ o → call_fits scope o args outs ≡ true →
    (callee : FlatProc) × (slice_get procs proc ≡ Some callee) × (args_fit scope callee.ins args ≡ true) × (targets_fit scope callee.outs outs ≡ true)
called procs scope proc args outs None is fit = absurd (true≢false (sym fit))
called procs scope proc args outs (Some callee) is fit =
    let parts = and_parts (args_fit scope callee.ins args) (targets_fit scope callee.outs outs) fit in (callee, is, parts.0, parts.1)

request_sorted : FittingExpressionsHaveTheirSorts → (flat : FlatProgram) (q : FlatProc) (consts : List Value) (proc : ℕ) (args : List (List ExprNode)) (outs : List Var) (store : Store) → have_sorts consts flat.consts ≡ true →
    cmd_fits flat.procs (scope_of flat q) (Call proc args outs) ≡ true → IsStoreOf flat q store → IsAsked flat (request consts store proc args)
request_sorted law flat q consts proc args outs store cs fit h =
    let (callee, is, takes, gives) = called flat.procs (scope_of flat q) proc args outs (slice_get flat.procs proc) refl fit in
    record { callee = callee; proc = is; globals = h.globals; args = args_have law flat q consts store cs h callee.ins args takes }

back_sorted : (flat : FlatProgram) (q : FlatProc) (s t : State) (call : Request) (args : List (List ExprNode)) (outs : List Var) (results : List Result) → cmd_fits flat.procs (scope_of flat q) (Call call.proc args outs) ≡ true →
    come_back flat s call outs results ≡ Some t → IsStoreOf flat q s.store → IsStoreOf flat q t.store
back_sorted flat q s t call args outs [] fit e h = cc
back_sorted flat q s t call args outs (Broken p n ∷ results) fit e h = cc
back_sorted flat q s t call args outs (Ended os gs ∷ results) fit e h =
    let c = if_some (can_come_back flat call.proc os gs) (record { store = write_all (record { globals = gs; locals = s.store.locals }) outs os; values = s.values; results = results; calls = s.calls ++ call ∷ [] }) t e in
    let parts = and_parts (have_sorts os (outs_at (slice_get flat.procs call.proc))) (have_sorts gs flat.globals) c.0 in
    let (callee, is, takes, gives) = called flat.procs (scope_of flat q) call.proc args outs (slice_get flat.procs call.proc) refl fit in
    let own : have_sorts os callee.outs ≡ true = subst (λ (o : Option FlatProc). have_sorts os (outs_at o) ≡ true) is parts.0 in
    subst (λ (u : State). IsStoreOf flat q u.store) c.1
    (all_written flat q (record { globals = gs; locals = s.store.locals }) outs os (outs_can (scope_of flat q) callee.outs outs os gives own) (record { globals = parts.1; locals = h.locals }))

pass_sorted : FittingExpressionsHaveTheirSorts → (flat : FlatProgram) (q : FlatProc) (consts : List Value) (c : FlatCmd) (s t : State) → have_sorts consts flat.consts ≡ true → cmd_fits flat.procs (scope_of flat q) c ≡ true → IsStoreOf flat q s.store →
    pass flat q consts c s ≡ Some t → IsStoreOf flat q t.store
pass_sorted law flat q consts (Assign pairs) s t cs fit h e =
    let m : State = record s { store = write_all s.store (map (λ (p : Var × List ExprNode). p.0) pairs) (map (λ (p : Var × List ExprNode). eval (env_with consts s.store) p.1) pairs) } in
    let same : m ≡ t = cc in
    subst (λ (u : State). IsStoreOf flat q u.store) same
    (all_written flat q s.store (map (λ p. p.0) pairs) (map (λ p. eval (env_with consts s.store) p.1) pairs) (pairs_can law flat q consts s.store cs h pairs fit) h)
pass_sorted law flat q consts (Havoc xs) s t cs fit h e = havoc_sorted flat q xs s t e h
pass_sorted law flat q consts (Assume expr) s t cs fit h e = subst (λ (u : State). IsStoreOf flat q u.store) (if_some (holds (env_with consts s.store) expr) s t e).1 h
pass_sorted law flat q consts (Assert p n expr) s t cs fit h e = subst (λ (u : State). IsStoreOf flat q u.store) (if_some (holds (env_with consts s.store) expr) s t e).1 h
pass_sorted law flat q consts (Call p args outs) s t cs fit h e = back_sorted flat q s t (request consts s.store p args) args outs s.results fit e h

-- ---- calls

asked_more : (flat : FlatProgram) (calls : List Request) (call : Request) → AllAsked flat calls → IsAsked flat call → AllAsked flat (calls ++ call ∷ [])
asked_more flat [] call h k = (k, tt)
asked_more flat (c ∷ calls) call h k = (h.0, asked_more flat calls call h.1 k)

abbrev Fine : FlatProgram → FlatProc → State → Type 0
Fine flat q s = IsStoreOf flat q s.store × AllAsked flat s.calls

same_calls : (flat : FlatProgram) (s t : State) → s.calls ≡ t.calls → AllAsked flat s.calls → AllAsked flat t.calls
same_calls flat s t e h = subst (AllAsked flat) e h

havoc_calls : (scope : Scope) (xs : List Var) (s t : State) → havoc scope xs s ≡ Some t → s.calls ≡ t.calls
havoc_calls scope [] s t e = let same : s ≡ t = cc in ap (λ (u : State). u.calls) same
havoc_calls scope (x ∷ xs) s t e =
    let m = and_then_some (havoc scope xs) (havoc_one scope x s s.values) t e in one s.values m.0 m.1 ∙ havoc_calls scope xs m.0 t m.2
  where
    one : (values : List Value) (m : State) → havoc_one scope x s values ≡ Some m → s.calls ≡ m.calls
    one [] m e = cc
    one (v ∷ rest) m e = ap (λ (u : State). u.calls) (if_some (is_value_of (sort_of_target scope x) v) (record s { store = write s.store x v; values = rest }) m e).1

back_asked : (flat : FlatProgram) (s t : State) (call : Request) (outs : List Var) (results : List Result) → come_back flat s call outs results ≡ Some t → IsAsked flat call → AllAsked flat s.calls → AllAsked flat t.calls
back_asked flat s t call outs [] e k h = cc
back_asked flat s t call outs (Broken p n ∷ results) e k h = cc
back_asked flat s t call outs (Ended os gs ∷ results) e k h =
    let c = if_some (can_come_back flat call.proc os gs) (record { store = write_all (record { globals = gs; locals = s.store.locals }) outs os; values = s.values; results = results; calls = s.calls ++ call ∷ [] }) t e in
    subst (λ (u : State). AllAsked flat u.calls) c.1 (asked_more flat s.calls call h k)

pass_asked : FittingExpressionsHaveTheirSorts → (flat : FlatProgram) (q : FlatProc) (consts : List Value) (c : FlatCmd) (s t : State) → have_sorts consts flat.consts ≡ true → cmd_fits flat.procs (scope_of flat q) c ≡ true → Fine flat q s →
    pass flat q consts c s ≡ Some t → AllAsked flat t.calls
pass_asked law flat q consts (Assign pairs) s t cs fit h e =
    let m : State = record s { store = write_all s.store (map (λ (p : Var × List ExprNode). p.0) pairs) (map (λ (p : Var × List ExprNode). eval (env_with consts s.store) p.1) pairs) } in
    let same : m ≡ t = cc in subst (λ (u : State). AllAsked flat u.calls) same h.1
pass_asked law flat q consts (Havoc xs) s t cs fit h e = same_calls flat s t (havoc_calls (scope_of flat q) xs s t e) h.1
pass_asked law flat q consts (Assume expr) s t cs fit h e = subst (λ (u : State). AllAsked flat u.calls) (if_some (holds (env_with consts s.store) expr) s t e).1 h.1
pass_asked law flat q consts (Assert p n expr) s t cs fit h e = subst (λ (u : State). AllAsked flat u.calls) (if_some (holds (env_with consts s.store) expr) s t e).1 h.1
pass_asked law flat q consts (Call p args outs) s t cs fit h e =
    back_asked flat s t (request consts s.store p args) outs s.results e (request_sorted law flat q consts p args outs s.store cs fit h.0) h.1

pass_all_fine : FittingExpressionsHaveTheirSorts → (flat : FlatProgram) (q : FlatProc) (consts : List Value) (cmds : List FlatCmd) (s t : State) → have_sorts consts flat.consts ≡ true → list_all (cmd_fits flat.procs (scope_of flat q)) cmds ≡ true → Fine flat q s →
    pass_all flat q consts cmds s ≡ Some t → Fine flat q t
pass_all_fine law flat q consts [] s t cs fit h e = let same : s ≡ t = cc in subst (Fine flat q) same h
pass_all_fine law flat q consts (c ∷ cmds) s t cs fit h e =
    let parts = and_parts (cmd_fits flat.procs (scope_of flat q) c) (list_all (cmd_fits flat.procs (scope_of flat q)) cmds) fit in
    let m = and_then_some (pass_all flat q consts cmds) (pass flat q consts c s) t e in
    pass_all_fine law flat q consts cmds m.0 t cs parts.1 (pass_sorted law flat q consts c s m.0 cs parts.0 h.0 m.1, pass_asked law flat q consts c s m.0 cs parts.0 h m.1) m.2

-- ---- runs

all_front : (test : FlatCmd → Bool) (xs ys : List FlatCmd) → list_all test (xs ++ ys) ≡ true → (list_all test xs ≡ true) × (list_all test ys ≡ true)
all_front test [] ys h = (refl, h)
all_front test (x ∷ xs) ys h =
    let parts = and_parts (test x) (list_all test (xs ++ ys)) h in
    let r = all_front test xs ys parts.1 in
    (and_from (test x) (list_all test xs) parts.0 r.0, r.1)

some_pair : (a b : Result) (xs ys : List Request) → ◌≡◌ {A = Option (Result × List Request)} (Some (a, xs)) (Some (b, ys)) → xs ≡ ys
some_pair a b xs ys h = let k : ◌≡◌ {A = Result × List Request} (a, xs) (b, ys) = cc in ap (λ x. x.1) k

assert_asked : (flat : FlatProgram) (p n proc number : ℕ) (calls total : List Request) (results : List Result) (b : Bool) → (if b then None else assert_fails p n calls results) ≡ Some (Broken proc number, total) → AllAsked flat calls → AllAsked flat total
assert_asked flat p n proc number calls total results true e h = cc
assert_asked flat p n proc number calls total [] false e h = subst (AllAsked flat) (some_pair (Broken p n) (Broken proc number) calls total e) h
assert_asked flat p n proc number calls total (r ∷ results) false e h = cc

call_asked : (flat : FlatProgram) (proc number : ℕ) (s : State) (call : Request) (total : List Request) (results : List Result) → call_fails s call results ≡ Some (Broken proc number, total) → AllAsked flat s.calls → IsAsked flat call → AllAsked flat total
call_asked flat proc number s call total [] e h k = cc
call_asked flat proc number s call total (Ended os gs ∷ results) e h k = cc
call_asked flat proc number s call total (Broken p n ∷ []) e h k = subst (AllAsked flat) (some_pair (Broken p n) (Broken proc number) (s.calls ++ call ∷ []) total e) (asked_more flat s.calls call h k)
call_asked flat proc number s call total (Broken p n ∷ r ∷ results) e h k = cc

fail_asked : FittingExpressionsHaveTheirSorts → (flat : FlatProgram) (q : FlatProc) (consts : List Value) (c : FlatCmd) (s : State) (proc number : ℕ) (total : List Request) → have_sorts consts flat.consts ≡ true → cmd_fits flat.procs (scope_of flat q) c ≡ true → Fine flat q s →
    fail consts c s ≡ Some (Broken proc number, total) → AllAsked flat total
fail_asked law flat q consts (Assign pairs) s proc number total cs fit h e = cc
fail_asked law flat q consts (Havoc xs) s proc number total cs fit h e = cc
fail_asked law flat q consts (Assume expr) s proc number total cs fit h e = cc
fail_asked law flat q consts (Assert p n expr) s proc number total cs fit h e = assert_asked flat p n proc number s.calls total s.results (holds (env_with consts s.store) expr) e h.1
fail_asked law flat q consts (Call p args outs) s proc number total cs fit h e =
    call_asked flat proc number s (request consts s.store p args) total s.results e h.1 (request_sorted law flat q consts p args outs s.store cs fit h.0)

stop_sorted : FittingExpressionsHaveTheirSorts → (flat : FlatProgram) (q : FlatProc) (consts : List Value) (cmds : List FlatCmd) (next : FlatNext) (s : State) (calls : List Request) (result : Result) → have_sorts consts flat.consts ≡ true →
    list_all (cmd_fits flat.procs (scope_of flat q)) cmds ≡ true → Fine flat q s → Stop flat q consts cmds next s calls result → AllAsked flat calls × Gives flat q result
stop_sorted law flat q consts cmds next s calls (Ended outs globals) cs fit h k =
    let f = pass_all_fine law flat q consts cmds s k.over cs fit h k.passes in (
      subst (AllAsked flat) (sym k.calls_are) f.1,
      (
        ap (λ vs. have_sorts vs q.outs) k.outs_are ∙ have_front (drop (length q.ins) k.over.store.locals) q.outs q.locals (have_back k.over.store.locals q.ins (q.outs ++ q.locals) f.0.locals),
        ap (λ vs. have_sorts vs flat.globals) k.globals_are ∙ f.0.globals,
      ),
    )
stop_sorted law flat q consts cmds next s calls (Broken proc number) cs fit h k =
    let parts = all_front (cmd_fits flat.procs (scope_of flat q)) k.before (k.at ∷ k.behind) (subst (λ (xs : List FlatCmd). list_all (cmd_fits flat.procs (scope_of flat q)) xs ≡ true) k.splits fit) in
    let f = pass_all_fine law flat q consts k.before s k.over cs parts.0 h k.passes in
    (fail_asked law flat q consts k.at k.over proc number calls cs (and_parts (cmd_fits flat.procs (scope_of flat q) k.at) (list_all (cmd_fits flat.procs (scope_of flat q)) k.behind) parts.1).0 f k.fails, tt)

block_cmds : (flat : FlatProgram) (q : FlatProc) (b : ℕ) (block : FlatBlock) → IsFlatProc flat q → slice_get q.blocks b ≡ Some block → list_all (cmd_fits flat.procs (scope_of flat q)) block.cmds ≡ true
block_cmds flat q b block fits is =
    (and_parts (list_all (cmd_fits flat.procs (scope_of flat q)) block.cmds) (next_fits (length q.blocks) block.next) (test_at (block_fits flat.procs (scope_of flat q) (length q.blocks)) q.blocks b block fits.blocks is)).0

tail_sorted : FittingExpressionsHaveTheirSorts → (flat : FlatProgram) (q : FlatProc) (consts : List Value) (path places : List ℕ) (cmds : List FlatCmd) (next : FlatNext) (s : State) (calls : List Request) (result : Result) → IsFlatProc flat q → have_sorts consts flat.consts ≡ true →
    list_all (cmd_fits flat.procs (scope_of flat q)) cmds ≡ true → Fine flat q s → Tail flat q consts path places cmds next s calls result → AllAsked flat calls × Gives flat q result
tail_sorted law flat q consts [] [] cmds next s calls result fits cs fit h k = stop_sorted law flat q consts cmds next s calls result cs fit h k
tail_sorted law flat q consts [] (place ∷ places) cmds next s calls result fits cs fit h k = absurd k
tail_sorted law flat q consts (b ∷ path) [] cmds next s calls result fits cs fit h k = absurd k
tail_sorted law flat q consts (b ∷ path) (place ∷ places) cmds next s calls result fits cs fit h (block, t, passes, placed, there, more) =
    tail_sorted law flat q consts path places block.cmds block.next t calls result fits cs (block_cmds flat q b block fits there) (pass_all_fine law flat q consts cmds s t cs fit h passes) more

local_sorted : FittingExpressionsHaveTheirSorts → (flat : FlatProgram) (q : FlatProc) (consts : List Value) (track : Track) (begin : State) (results : List Result) (calls : List Request) (result : Result) → IsFlatProc flat q → have_sorts consts flat.consts ≡ true →
    IsStoreOf flat q begin.store → LocalRun flat q consts track begin results calls result → AllAsked flat calls × Gives flat q result
local_sorted law flat q consts track begin results calls result fits cs h (path, block, path_is, first, tail) =
    tail_sorted law flat q consts path track.places block.cmds block.next (record begin { results = results; calls = [] }) calls result fits cs (block_cmds flat q 0 block fits first) (h, tt) tail

-- ---- begins

fill_sorted : (sorts done : List Sort) (s t : State) → fill sorts s ≡ Some t → have_sorts s.store.locals done ≡ true → (have_sorts t.store.locals (done ++ sorts) ≡ true) × (t.store.globals ≡ s.store.globals)
fill_sorted [] done s t e h =
    let same : s ≡ t = cc in
    (subst (λ (ss : List Sort). have_sorts t.store.locals ss ≡ true) (sym (none done)) (subst (λ (u : State). have_sorts u.store.locals done ≡ true) same h), ap (λ (u : State). u.store.globals) (sym same))
  where
    none : (ss : List Sort) → ss ++ [] ≡ ss
    none [] = refl
    none (s ∷ ss) = ap (λ ts. s ∷ ts) (none ss)
fill_sorted (sort ∷ sorts) done s t e h =
    let m = and_then_some (fill sorts) (fill_one sort s s.values) t e in
    let o = one s.values m.0 m.1 in
    let r = fill_sorted sorts (done ++ sort ∷ []) m.0 t m.2 o.0 in
    (subst (λ (ss : List Sort). have_sorts t.store.locals ss ≡ true) (append_assoc done (sort ∷ []) sorts) r.0, r.1 ∙ o.1)
  where
    one : (values : List Value) (m : State) → fill_one sort s values ≡ Some m → (have_sorts m.store.locals (done ++ sort ∷ []) ≡ true) × (m.store.globals ≡ s.store.globals)
    one [] m e = cc
    one (v ∷ rest) m e =
        let c = if_some (has_sort v sort) (record s { store = record { globals = s.store.globals; locals = s.store.locals ++ v ∷ [] }; values = rest }) m e in (
          subst (λ (u : State). have_sorts u.store.locals (done ++ sort ∷ []) ≡ true) c.1
              (have_both s.store.locals (v ∷ []) done (sort ∷ []) h (and_from (has_sort v sort) true c.0 refl)),
          ap (λ (u : State). u.store.globals) (sym c.1),
        )

sorts_back : (ss ts : List Sort) → list_all is_sort (ss ++ ts) ≡ true → list_all is_sort ts ≡ true
sorts_back [] ts h = h
sorts_back (s ∷ ss) ts h = sorts_back ss ts (and_parts (is_sort s) (list_all is_sort (ss ++ ts)) h).1

zeros : ValuesKeepSorts → (sorts : List Sort) → list_all is_sort sorts ≡ true → have_sorts (map zero_of sorts) sorts ≡ true
zeros law [] h = refl
zeros law (s ∷ sorts) h =
    let parts = and_parts (is_sort s) (list_all is_sort sorts) h in
    and_from (has_sort (zero_of s) s) (have_sorts (map zero_of sorts) sorts) (law.zero s parts.0) (zeros law sorts parts.1)

begin_sorted : ValuesKeepSorts → (flat : FlatProgram) (q : FlatProc) (kind : FlatKind) (globals args values : List Value) (begin : State) → sorts_fit (variables_of q) ≡ true → HaveLoopOuts kind q → have_sorts globals flat.globals ≡ true → have_sorts args q.ins ≡ true →
    begin_of q kind globals args values ≡ Some begin → IsStoreOf flat q begin.store
begin_sorted law flat q (Source proc) globals args values begin sorts outs gs as_sorted e =
    let r = fill_sorted (q.outs ++ q.locals) q.ins (record { store = record { globals = globals; locals = args }; values = values; results = []; calls = [] }) begin e as_sorted in
    record { globals = ap (λ vs. have_sorts vs flat.globals) r.1 ∙ gs; locals = r.0 }
begin_sorted law flat q (Loop proc head) globals args values begin sorts outs gs as_sorted e =
    let store : Store = record { globals = globals; locals = args ++ (args ++ (exit_value 0 ∷ map zero_of q.locals)) } in
    let m : State = record { store = store; values = values; results = []; calls = [] } in
    let same : m ≡ begin = cc in
    let all = (and_parts (are_numbered (length (variables_of q))) (list_all is_sort (variables_of q)) sorts).1 in
    let zs = zeros law q.locals (sorts_back q.outs q.locals (sorts_back q.ins (q.outs ++ q.locals) all)) in
    let own : have_sorts (args ++ (exit_value 0 ∷ map zero_of q.locals)) (q.ins ++ (exit_sort ∷ q.locals)) ≡ true = have_both args (exit_value 0 ∷ map zero_of q.locals) q.ins (exit_sort ∷ q.locals) as_sorted zs in
    let outs_are : q.ins ++ (exit_sort ∷ q.locals) ≡ q.outs ++ q.locals = sym (append_assoc q.ins (exit_sort ∷ []) q.locals) ∙ ap (λ ss. ss ++ q.locals) (sym outs) in
    subst (λ (u : State). IsStoreOf flat q u.store) same (record {
      globals = gs;
      locals = have_both args (args ++ (exit_value 0 ∷ map zero_of q.locals)) q.ins (q.outs ++ q.locals) as_sorted
          (subst (λ (ss : List Sort). have_sorts (args ++ (exit_value 0 ∷ map zero_of q.locals)) ss ≡ true) outs_are own);
    })

pub runs_keep_sorts : FittingExpressionsHaveTheirSorts → ValuesKeepSorts → RunsKeepSorts
runs_keep_sorts fitting keeping = record {
  begins = λ flat q globals args values begin fits gs has e. begin_sorted keeping flat q q.kind globals args values begin fits.variables fits.loop_outs gs has e;
  commands = pass_sorted fitting;
  requests = request_sorted fitting;
  calls = λ flat q consts track begin results calls result fits cs h run. (local_sorted fitting flat q consts track begin results calls result fits cs h run).0;
  results = λ flat q consts track begin results calls result fits cs h run. (local_sorted fitting flat q consts track begin results calls result fits cs h run).1;
}
