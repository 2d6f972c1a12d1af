-- What fits in a scope: sorts that are told equal are, an expression that fits can be evaluated where its variables are there with their sorts, and
-- its value has its sort.
use Rattle.std.proofs.Common.{◌≡◌, ℕ, zero, suc, ◌-◌, Bool, true, false, ◌&&◌, List, [], ◌∷◌, length, slice_get, Option, None, Some, ◌∙◌, ap, refl, subst}
use Rattle.std.specs.List.{list_all}
use Rattle.hy_val.proofs.Booleans.{and-first, and-second, and-both}
use Rattle.hy_val.proofs.Lawful.{has_its_sort}
use Rattle.hy_val.proofs.ResultSorts.{same_scalar_is}
use Rattle.hy_val.specs.Exprs.{eval, reads, node_reads, is_there, variable}
use Rattle.hy_val.specs.Laws.{FittingExpressionsHaveTheirSorts}
use Rattle.hy_val.specs.NodeSorts.{same_sort}
use Rattle.hy_val.specs.Scope.{Scope, sort_of_variable, sort_of_target, is_sort_of, are_same, node_fits, sort_of_expr, expr_fits, pair_fits}
use Rattle.hy_val.specs.Sorts.{same_scalar}
use Rattle.hy_val.specs.Stores.{have_sorts}
use Rattle.hy_val.specs.Values.{has_sort}
use Rattle.hy_val.specs.declared.expr.Env.{Env}
use Rattle.hy_val.specs.declared.expr.ExprNode.{ExprNode}
use Rattle.hy_val.specs.declared.expr.ExprNode.TheVariants.{Lit, Var as Read, Unary, Binary, If, Select, Store}
use Rattle.hy_val.specs.declared.expr.Var.{Var}
use Rattle.hy_val.specs.declared.expr.Var.TheVariants.{Const, Global, Local}
use Rattle.hy_val.specs.declared.sort.Sort.{Sort}
use Rattle.hy_val.specs.declared.sort.SortKind.TheVariants.{Scalar as ScalarSort, Map as MapSort}
use Rattle.hy_val.specs.declared.value.Value.{Value}

-- ---- equal sorts

pub same_sort_is : (s t : Sort) → same_sort s t ≡ true → s ≡ t
same_sort_is (ScalarSort s) (ScalarSort t) h = ap ScalarSort (same_scalar_is s t h)
same_sort_is (ScalarSort s) (MapSort i e) h = cc
same_sort_is (MapSort i e) (ScalarSort t) h = cc
same_sort_is (MapSort i e) (MapSort j f) h =
    ap (λ x. MapSort x e) (same_scalar_is i j (and-first (same_scalar i j) (same_scalar e f) h)) ∙ ap (λ y. MapSort j y) (same_scalar_is e f (and-second (same_scalar i j) (same_scalar e f) h))

pub is_sort_of_is : (o : Option Sort) (s : Sort) → is_sort_of o s ≡ true → o ≡ Some s
is_sort_of_is None s h = cc
is_sort_of_is (Some t) s h = ap Some (same_sort_is t s h)

-- an expression of a sort that may not be there has one, and it is this
pub are_same_is : (o p : Option Sort) → are_same o p ≡ true → (s : Sort) × (o ≡ Some s) × (p ≡ Some s)
are_same_is None p h = cc
are_same_is (Some s) p h = (s, refl, is_sort_of_is p s h)

-- ---- expressions that fit

-- each variable of the scope is in the environment, with its sort
abbrev pub AreThere : Scope → Env → Type 0
AreThere scope env = (x : Var) (s : Sort) → is_sort_of (sort_of_variable scope x) s ≡ true → is_there (variable env x) s ≡ true

reads_node : (scope : Scope) (env : Env) → AreThere scope env → (node : ExprNode) → node_fits scope node ≡ true → node_reads env node ≡ true
reads_node scope env there (Lit a) h = refl
reads_node scope env there (Read x sort) h = there x sort h
reads_node scope env there (Unary op child) h = refl
reads_node scope env there (Binary op left right) h = refl
reads_node scope env there (If test one other) h = refl
reads_node scope env there (Select map index) h = refl
reads_node scope env there (Store map index value) h = refl

reads_all : (scope : Scope) (env : Env) → AreThere scope env → (nodes : List ExprNode) → list_all (node_fits scope) nodes ≡ true → reads env nodes ≡ true
reads_all scope env there [] h = refl
reads_all scope env there (node ∷ nodes) h =
    and-both (node_reads env node) (reads env nodes) (reads_node scope env there node (and-first (node_fits scope node) _ h)) (reads_all scope env there nodes (and-second (node_fits scope node) _ h))

pub reads_expr : (scope : Scope) (env : Env) → AreThere scope env → (sort : Option Sort) (nodes : List ExprNode) → expr_fits scope sort nodes ≡ true → reads env nodes ≡ true
reads_expr scope env there sort nodes h = reads_all scope env there nodes (and-first (list_all (node_fits scope) nodes) _ h)

pub pairs_read : (scope : Scope) (env : Env) → AreThere scope env → (pairs : List (Var × List ExprNode)) → list_all (pair_fits scope) pairs ≡ true → list_all (λ (p : Var × List ExprNode). reads env p.1) pairs ≡ true
pairs_read scope env there [] h = refl
pairs_read scope env there (p ∷ ps) h =
    and-both (reads env p.1) (list_all (λ (q : Var × List ExprNode). reads env q.1) ps) (reads_expr scope env there (sort_of_target scope p.0) p.1 (and-first (pair_fits scope p) _ h)) (pairs_read scope env there ps (and-second (pair_fits scope p) _ h))

-- the value of an expression that fits has the sort that it should have, which is there
pub fitting_sorted : (scope : Scope) (env : Env) → AreThere scope env → (sort : Option Sort) (nodes : List ExprNode) → expr_fits scope sort nodes ≡ true → (s : Sort) × (sort ≡ Some s) × (has_sort (eval env nodes) s ≡ true)
fitting_sorted scope env there sort nodes h =
    let (s, own, is) = are_same_is (sort_of_expr nodes) sort (and-second (list_all (node_fits scope) nodes) _ h) in
    (s, is, has_its_sort env nodes (length nodes - 1) s (reads_expr scope env there sort nodes h) own)

-- ---- values of the scope's sorts

have_sorts_at : (vs : List Value) (sorts : List Sort) (n : ℕ) (s : Sort) → have_sorts vs sorts ≡ true → slice_get sorts n ≡ Some s → is_there (slice_get vs n) s ≡ true
have_sorts_at [] [] n s h e = cc
have_sorts_at [] (t ∷ sorts) n s h e = cc
have_sorts_at (v ∷ vs) [] n s h e = cc
have_sorts_at (v ∷ vs) (t ∷ sorts) zero s h e = let same : t ≡ s = cc in rw (← same) (and-first (has_sort v t) _ h)
have_sorts_at (v ∷ vs) (t ∷ sorts) (suc n) s h e = have_sorts_at vs sorts n s (and-second (has_sort v t) _ h) e

-- where each variable has a value of its sort, each is there
pub all_there : (scope : Scope) (env : Env) → have_sorts env.consts scope.consts ≡ true → have_sorts env.globals scope.globals ≡ true → have_sorts env.locals scope.locals ≡ true → AreThere scope env
all_there scope env cs gs ls (Const n) s h = have_sorts_at env.consts scope.consts n s cs (is_sort_of_is (slice_get scope.consts n) s h)
all_there scope env cs gs ls (Global n) s h = have_sorts_at env.globals scope.globals n s gs (is_sort_of_is (slice_get scope.globals n) s h)
all_there scope env cs gs ls (Local n) s h = have_sorts_at env.locals scope.locals n s ls (is_sort_of_is (slice_get scope.locals n) s h)

fitting_by : (s t : Sort) (v : Value) → Some s ≡ Some t → has_sort v t ≡ true → has_sort v s ≡ true
fitting_by s t v same has = let is : t ≡ s = cc in subst (λ u. has_sort v u ≡ true) is has

pub fitting_law : FittingExpressionsHaveTheirSorts
fitting_law scope env cs gs ls s nodes h =
    let there = all_there scope env cs gs ls in
    let (t, same, has) = fitting_sorted scope env there (Some s) nodes h in
    (reads_expr scope env there (Some s) nodes h, fitting_by s t (eval env nodes) same has)
