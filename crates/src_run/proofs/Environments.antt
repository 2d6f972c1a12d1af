-- The commands of a plain program in an environment of bools: what they read is there, and what they write is a bool.
use Rattle.std.proofs.Common.{◌≡◌, ℕ, zero, suc, ◌+◌, ◌-◌, ◌≤◌, nat_le, Bool, true, not, ◌&&◌, List, [], ◌∷◌, length, map, take, drop, slice_get, slice_set, Option, None, Some, arith, sym, ◌∙◌, ap, refl, subst, IsTrue}
use Rattle.std.specs.List.{list_all}
use Rattle.std.proofs.lemmas.Bool.Decides.{nat_tests}
use Rattle.hy_val.proofs.Booleans.{and-first, and-second, and-both, all-at}
use Rattle.hy_val.proofs.Scopes.{AreThere, reads_expr, pairs_read}
use Rattle.hy_val.specs.Exprs.{eval, reads, is_there}
use Rattle.hy_val.specs.Laws.{EachNodeHasItsSort}
use Rattle.hy_val.specs.NodeSorts.{same_sort}
use Rattle.hy_val.specs.Values.{has_sort}
use Rattle.hy_val.specs.declared.expr.Env.{Env}
use Rattle.hy_val.specs.declared.expr.ExprNode.{ExprNode}
use Rattle.hy_val.specs.declared.expr.Var.{Var}
use Rattle.hy_val.specs.declared.expr.Var.TheVariants.{Const, Global, Local}
use Rattle.hy_val.specs.declared.sort.ScalarKind.TheVariants.{Bool as BoolSort, Bv as BvSort}
use Rattle.hy_val.specs.declared.sort.Sort.{Sort}
use Rattle.hy_val.specs.declared.sort.SortKind.TheVariants.{Scalar as ScalarSort, Map as MapSort}
use Rattle.hy_val.specs.declared.value.Value.{Value}
use Rattle.hy_val.specs.Scope.{Scope, node_fits, expr_fits, is_condition, is_sort_of, are_same, sort_of_target, sort_of_expr, pair_fits}
use Rattle.src_prog.specs.Scope.{cmd_fits}
use Rattle.src_prog.specs.declared.block.Cmd.{Cmd}
use Rattle.src_prog.specs.declared.block.Cmd.TheVariants.{Assign, Havoc, Assume, Assert}
use Rattle.src_prog.specs.declared.proc.SrcProc.{SrcProc}
use Rattle.src_run.specs.Plain.{is_call}
use Rattle.src_run.specs.Running.{bool_sort, bool_value, are_bool_values, Bools, CanRun, written, all_written, StepIs, HavocedTo}
use Rattle.src_run.specs.declared.running.Stepped.{Stepped}
use Rattle.src_run.specs.declared.running.Stepped.TheVariants.{On, Over}

-- ---- sorts of bools

-- a sort that true has is that of the bools
pub is-bool : (s : Sort) → has_sort (bool_value true) s ≡ true → s ≡ bool_sort
is-bool (ScalarSort BoolSort) h = refl
is-bool (ScalarSort (BvSort w)) h = cc
is-bool (MapSort index elem) h = cc

pub same_as_bool : (s : Sort) → same_sort bool_sort s ≡ true → s ≡ bool_sort
same_as_bool (ScalarSort BoolSort) h = refl
same_as_bool (ScalarSort (BvSort w)) h = cc
same_as_bool (MapSort index elem) h = cc

-- a list of the same length has an item at the same place
there : {A B : Type 0} (xs : List A) (ys : List B) (n : ℕ) (x : A) → length xs ≡ length ys → slice_get xs n ≡ Some x → (y : B) × (slice_get ys n ≡ Some y)
there [] ys n x e h = cc
there (x ∷ xs) [] n y e h = absurd (omega arith)
there (x ∷ xs) (y ∷ ys) zero z e h = (y, refl)
there (x ∷ xs) (y ∷ ys) (suc n) z e h = there xs ys n z (omega arith) h

-- ---- reading

found : (s : Sort) (ss : List Sort) (vs : List Value) (n : ℕ) → IsTrue (list_all (has_sort (bool_value true)) ss) → IsTrue (are_bool_values vs) → length ss ≡ length vs → is_sort_of (slice_get ss n) s ≡ true → is_there (slice_get vs n) s ≡ true
found s ss vs n bools values same fits = at (slice_get ss n) refl fits
  where
    at : (o : Option Sort) → slice_get ss n ≡ o → is_sort_of o s ≡ true → is_there (slice_get vs n) s ≡ true
    at None e h = cc
    at (Some t) e h =
        let bool : t ≡ bool_sort = is-bool t (all-at (has_sort (bool_value true)) ss n t bools e) in
        let value = there ss vs n t same e in
        let has : has_sort value.0 bool_sort ≡ true = all-at (λ v. has_sort v bool_sort) vs n value.0 values value.1 in
        let s_is : s ≡ bool_sort = same_as_bool s (subst (λ (u : Sort). same_sort u s ≡ true) bool h) in
        ap (λ o. is_there o s) value.1 ∙ subst (λ (u : Sort). has_sort value.0 u ≡ true) (sym s_is) has

reads_variable : (scope : Scope) (env : Env) → Bools scope env → AreThere scope env
reads_variable scope env b (Const n) s h = none scope.consts b.consts h
  where
    none : (cs : List Sort) → cs ≡ [] → is_sort_of (slice_get cs n) s ≡ true → is_there (slice_get env.consts n) s ≡ true
    none [] e h = cc
    none (c ∷ cs) e h = cc
reads_variable scope env b (Global n) s h = found s scope.globals env.globals n b.global_sorts b.globals b.globals_count h
reads_variable scope env b (Local n) s h = found s scope.locals env.locals n b.local_sorts b.locals b.locals_count h

pub assume_reads : (procs : List SrcProc) (expr : List ExprNode) (cmds : List Cmd) (env : Env) → CanRun procs (Assume expr ∷ cmds) env → IsTrue (reads env expr)
assume_reads procs expr cmds env c = reads_expr c.scope env (reads_variable c.scope env c.bools) (Some bool_sort) expr (and-first (is_condition c.scope expr) _ c.fit)

pub assert_reads : (procs : List SrcProc) (number : ℕ) (expr : List ExprNode) (cmds : List Cmd) (env : Env) → CanRun procs (Assert number expr ∷ cmds) env → IsTrue (reads env expr)
assert_reads procs number expr cmds env c =
    reads_expr c.scope env (reads_variable c.scope env c.bools) (Some bool_sort) expr (and-second (nat_le 1 number) (is_condition c.scope expr) (and-first (nat_le 1 number && is_condition c.scope expr) _ c.fit))

pub assign_reads : (procs : List SrcProc) (pairs : List (Var × List ExprNode)) (cmds : List Cmd) (env : Env) → CanRun procs (Assign pairs ∷ cmds) env → IsTrue (list_all (λ (p : Var × List ExprNode). reads env p.1) pairs)
assign_reads procs pairs cmds env c = pairs_read c.scope env (reads_variable c.scope env c.bools) pairs (and-first (list_all (pair_fits c.scope) pairs) _ c.fit)

-- ---- writing

pub set_length : {A : Type 0} (xs : List A) (n : ℕ) (x : A) → length (slice_set xs n x) ≡ length xs
set_length [] n x = refl
set_length (y ∷ ys) zero x = refl
set_length (y ∷ ys) (suc n) x = ap suc (set_length ys n x)

set_all : {A : Type 0} (p : A → Bool) (xs : List A) (n : ℕ) (x : A) → list_all p xs ≡ true → p x ≡ true → list_all p (slice_set xs n x) ≡ true
set_all p [] n x h k = refl
set_all p (y ∷ ys) zero x h k = and-both (p x) (list_all p ys) k (and-second (p y) (list_all p ys) h)
set_all p (y ∷ ys) (suc n) x h k = and-both (p y) (list_all p (slice_set ys n x)) (and-first (p y) (list_all p ys) h) (set_all p ys n x (and-second (p y) (list_all p ys) h) k)

pub bools_written : (scope : Scope) (env : Env) (x : Var) (v : Value) → Bools scope env → has_sort v bool_sort ≡ true → Bools scope (written env x v)
bools_written scope env (Const n) v b h = b
bools_written scope env (Global n) v b h = record {
  consts = b.consts;
  globals = set_all (λ w. has_sort w bool_sort) env.globals n v b.globals h;
  locals = b.locals;
  globals_count = b.globals_count ∙ sym (set_length env.globals n v);
  locals_count = b.locals_count;
  global_sorts = b.global_sorts;
  local_sorts = b.local_sorts;
}
bools_written scope env (Local n) v b h = record {
  consts = b.consts;
  globals = b.globals;
  locals = set_all (λ w. has_sort w bool_sort) env.locals n v b.locals h;
  globals_count = b.globals_count;
  locals_count = b.locals_count ∙ sym (set_length env.locals n v);
  global_sorts = b.global_sorts;
  local_sorts = b.local_sorts;
}

pub bools_all_written : (scope : Scope) (env : Env) (xs : List Var) (vs : List Value) → Bools scope env → are_bool_values vs ≡ true → Bools scope (all_written env xs vs)
bools_all_written scope env [] vs b h = b
bools_all_written scope env (x ∷ xs) [] b h = b
bools_all_written scope env (x ∷ xs) (v ∷ vs) b h =
    bools_all_written scope (written env x v) xs vs (bools_written scope env x v b (and-first (has_sort v bool_sort) (are_bool_values vs) h)) (and-second (has_sort v bool_sort) (are_bool_values vs) h)

pub bools_are : (bs : List Bool) → are_bool_values (map bool_value bs) ≡ true
bools_are [] = refl
bools_are (b ∷ bs) = bools_are bs

-- the commands behind one in an environment of bools
behind : (procs : List SrcProc) (cmd : Cmd) (cmds : List Cmd) (old new : Env) (c : CanRun procs (cmd ∷ cmds) old) → Bools c.scope new → CanRun procs cmds new
behind procs cmd cmds old new c b =
    record { scope = c.scope; bools = b; fit = and-second (cmd_fits procs c.scope cmd) _ c.fit; plain = and-second (not (is_call cmd)) _ c.plain }

pub can_behind : (procs : List SrcProc) (cmd : Cmd) (cmds : List Cmd) (env : Env) → CanRun procs (cmd ∷ cmds) env → CanRun procs cmds env
can_behind procs cmd cmds env c = behind procs cmd cmds env env c c.bools

pub can_havoc : (procs : List SrcProc) (xs : List Var) (cmds : List Cmd) (env : Env) (bs : List Bool) → CanRun procs (Havoc xs ∷ cmds) env → CanRun procs cmds (all_written env xs (map bool_value bs))
can_havoc procs xs cmds env bs c = behind procs (Havoc xs) cmds env _ c (bools_all_written c.scope env xs (map bool_value bs) c.bools (bools_are bs))

-- a target is a bool
pub target_bool : (scope : Scope) (env : Env) → Bools scope env → (x : Var) (s : Sort) → sort_of_target scope x ≡ Some s → s ≡ bool_sort
target_bool scope env b (Const n) s e = cc
target_bool scope env b (Global n) s e = is-bool s (all-at (has_sort (bool_value true)) scope.globals n s b.global_sorts e)
target_bool scope env b (Local n) s e = is-bool s (all-at (has_sort (bool_value true)) scope.locals n s b.local_sorts e)

-- an expression of the sort of a target has a bool as its value
value_bool : (law : EachNodeHasItsSort) (scope : Scope) (env : Env) → Bools scope env → (x : Var) (nodes : List ExprNode) → expr_fits scope (sort_of_target scope x) nodes ≡ true → has_sort (eval env nodes) bool_sort ≡ true
value_bool law scope env b x nodes h = at (sort_of_target scope x) (sort_of_expr nodes) refl refl (and-second (list_all (node_fits scope) nodes) _ h)
  where
    at : (o p : Option Sort) → sort_of_target scope x ≡ o → sort_of_expr nodes ≡ p → are_same p o ≡ true → has_sort (eval env nodes) bool_sort ≡ true
    at o None e f k = cc
    at None (Some s) e f k = cc
    at (Some t) (Some s) e f k =
        let t_is : t ≡ bool_sort = target_bool scope env b x t e in
        let s_is : s ≡ bool_sort = same_as_bool s (subst (λ (u : Sort). same_sort u s ≡ true) t_is k) in
        law env nodes (length nodes - 1) bool_sort (reads_expr scope env (reads_variable scope env b) (sort_of_target scope x) nodes h) (f ∙ ap Some s_is)

pub values_bool : (law : EachNodeHasItsSort) (scope : Scope) (env : Env) → Bools scope env → (pairs : List (Var × List ExprNode)) → list_all (pair_fits scope) pairs ≡ true → are_bool_values (map (λ (p : Var × List ExprNode). eval env p.1) pairs) ≡ true
values_bool law scope env b [] h = refl
values_bool law scope env b (p ∷ ps) h =
    and-both (has_sort (eval env p.1) bool_sort) _ (value_bool law scope env b p.0 p.1 (and-first (pair_fits scope p) _ h)) (values_bool law scope env b ps (and-second (pair_fits scope p) _ h))

pub can_assign : EachNodeHasItsSort → (procs : List SrcProc) (pairs : List (Var × List ExprNode)) (cmds : List Cmd) (env : Env) → CanRun procs (Assign pairs ∷ cmds) env → CanRun procs cmds (all_written env (map (λ (p : Var × List ExprNode). p.0) pairs) (map (λ (p : Var × List ExprNode). eval env p.1) pairs))
can_assign law procs pairs cmds env c =
    behind procs (Assign pairs) cmds env _ c
    (bools_all_written c.scope env (map (λ (p : Var × List ExprNode). p.0) pairs) _ c.bools (values_bool law c.scope env c.bools pairs (and-first (list_all (pair_fits c.scope) pairs) _ c.fit)))

-- ---- steps

-- what a `havoc` does
pub havoc_step : (entry : ℕ) (procs : List SrcProc) (xs : List Var) (old new : Env) (given : List Bool) (next : ℕ) (s : Stepped) → HavocedTo xs old new given next s → StepIs entry procs (Havoc xs) old new given next s
havoc_step entry procs xs old new given next (On taken) h =
    let enough : nat_le (next + length xs) (length given) ≡ true = h.1 in
    let within : taken ≤ length given = rw h.0 (grind (arith, nat_tests)) in
    (within, (λ cmds. rw (enough, h.2, h.0) refl), λ cmds c. rw h.2 (can_havoc procs xs cmds old (take (length xs) (drop next given)) c))
havoc_step entry procs xs old new given next (Over status) h = λ cmds. rw (h.1, h.0) refl

-- what an assignment does
pub assign_step : EachNodeHasItsSort → (entry : ℕ) (procs : List SrcProc) (pairs : List (Var × List ExprNode)) (old new : Env) (given : List Bool) (next : ℕ) → next ≤ length given
    → new ≡ all_written old (map (λ (p : Var × List ExprNode). p.0) pairs) (map (λ (p : Var × List ExprNode). eval old p.1) pairs) → StepIs entry procs (Assign pairs) old new given next (On next)
assign_step law entry procs pairs old new given next within e = (within, (λ cmds. rw e refl), λ cmds c. rw e (can_assign law procs pairs cmds old c))
