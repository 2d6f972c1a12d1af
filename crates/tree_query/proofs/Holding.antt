-- Axioms that hold.
use Rattle.std.proofs.Common.{◌≡◌, ℕ, zero, suc, ◌+◌, ◌≤◌, Bool, true, List, [], ◌∷◌, length, map, drop, arith, sym, ◌∙◌, ap, refl, subst}
use Rattle.std.specs.Prelude.{Option, None, Some, slice_get}
use Rattle.std.specs.Option.{option_map, option_and_then}
use Rattle.std.specs.List.{list_all}
use Rattle.std.proofs.lemmas.Option.{slice_get-map}
use Rattle.hy_val.specs.Building.{whole_sort}
use Rattle.hy_val.specs.Exprs.{read}
use Rattle.hy_val.specs.Laws.{AgreeOn, OnlyVariablesMatter}
use Rattle.hy_val.specs.Scope.{Scope, is_sort_of, are_same, sort_of_variable, node_fits, sort_of_expr, is_condition}
use Rattle.hy_val.specs.Stores.{holds}
use Rattle.hy_val.specs.Values.{at, default, is_on}
use Rattle.hy_val.specs.declared.expr.Env.{Env}
use Rattle.hy_val.specs.declared.expr.ExprNode.{ExprNode}
use Rattle.hy_val.specs.declared.expr.ExprNode.TheVariants.{Lit, Var as Read, Unary, Binary, If, Select, Store}
use Rattle.hy_val.specs.declared.expr.Var.{Var}
use Rattle.hy_val.specs.declared.expr.Var.TheVariants.{Const, Global, Local}
use Rattle.hy_val.specs.declared.sort.ScalarKind.TheVariants.{Bool as BoolSort}
use Rattle.hy_val.specs.declared.sort.Sort.{Sort}
use Rattle.hy_val.specs.declared.sort.SortKind.TheVariants.{Scalar as ScalarSort}
use Rattle.hy_val.specs.declared.value.Value.{Value}
use Rattle.hy_term.specs.TermSorts.{sort_at}
use Rattle.hy_term.specs.Meaning.{values}
use Rattle.hy_term.specs.declared.node.TermNode.{TermNode}
use Rattle.hy_term.proofs.Sorting.{and_left, and_right}
use Rattle.hy_term.proofs.Typing.{same_sort_is}
use Rattle.tree_terms.specs.Rules.{IsBit}
use Rattle.tree_terms.specs.Standing.{AreOf, all_at}
use Rattle.tree_terms.proofs.Growth.{are_get}
use Rattle.vc_gen.specs.Standing.{Later, Plain}
use Rattle.vc_gen.specs.Translate.{term_of, value_of, look_terms, NodeReads, ReadsFit, Says}

-- the variables of an axiom are the constants
abbrev pub constants : List Sort → Scope
constants sorts = record { consts = sorts; globals = []; locals = [] }

abbrev pub env_of : List Value → Env
env_of vs = record { consts = vs; globals = []; locals = [] }

-- ---- reading constants

sort_is : (o : Option Sort) (s : Sort) → is_sort_of o s ≡ true → o ≡ Some s
sort_is None s h = cc
sort_is (Some t) s h = ap (λ (x : Sort). Some x) (same_sort_is t s h)

read_by : (nodes : List TermNode) (consts : List ℕ) (sorts : List Sort) (x : Var) (sort : Sort) → AreOf nodes consts sorts → is_sort_of (sort_of_variable (constants sorts) x) sort ≡ true
    → option_and_then (sort_at nodes) (term_of consts [] x) ≡ Some sort
read_by nodes consts sorts (Const n) sort are h = are_get nodes consts sorts n sort are (sort_is (slice_get sorts n) sort h)
read_by nodes consts sorts (Global n) sort are h = cc
read_by nodes consts sorts (Local n) sort are h = cc

node_reads : (nodes : List TermNode) (consts : List ℕ) (sorts : List Sort) (node : ExprNode) → AreOf nodes consts sorts → node_fits (constants sorts) node ≡ true → NodeReads nodes consts [] node
node_reads nodes consts sorts (Lit a) are h = tt
node_reads nodes consts sorts (Read x sort) are h = read_by nodes consts sorts x sort are h
node_reads nodes consts sorts (Unary op c) are h = tt
node_reads nodes consts sorts (Binary op l r) are h = tt
node_reads nodes consts sorts (If c y n) are h = tt
node_reads nodes consts sorts (Select m i) are h = tt
node_reads nodes consts sorts (Store m i v) are h = tt

all_read : (nodes : List TermNode) (consts : List ℕ) (sorts : List Sort) (expr : List ExprNode) → AreOf nodes consts sorts → list_all (node_fits (constants sorts)) expr ≡ true → ReadsFit nodes consts [] expr
all_read nodes consts sorts [] are h = tt
all_read nodes consts sorts (node ∷ expr) are h = (
  node_reads nodes consts sorts node are (and_left (node_fits (constants sorts) node) (list_all (node_fits (constants sorts)) expr) h),
  all_read nodes consts sorts expr are (and_right (node_fits (constants sorts) node) (list_all (node_fits (constants sorts)) expr) h),
)

-- an axiom reads what the terms stand for
pub axiom_reads : (nodes : List TermNode) (consts : List ℕ) (sorts : List Sort) (expr : List ExprNode) → AreOf nodes consts sorts → is_condition (constants sorts) expr ≡ true → ReadsFit nodes consts [] expr
axiom_reads nodes consts sorts expr are h =
    all_read nodes consts sorts expr are (and_left (list_all (node_fits (constants sorts)) expr) (are_same (sort_of_expr expr) (Some (ScalarSort BoolSort))) h)

bool_by : (o : Option Sort) → are_same o (Some (ScalarSort BoolSort)) ≡ true → o ≡ Some (ScalarSort BoolSort)
bool_by None h = cc
bool_by (Some s) h = ap (λ (x : Sort). Some x) (sym (same_sort_is (ScalarSort BoolSort) s h))

-- ---- values

const_read : (vs : List Value) (o : Option ℕ) → value_of vs o ≡ default (option_map (at vs) o)
const_read vs None = refl
const_read vs (Some t) = refl

looked : (vs : List Value) (consts : List ℕ) (x : Var) → look_terms vs consts [] x ≡ read (env_of (map (at vs) consts)) x
looked vs consts (Const n) = const_read vs (slice_get consts n) ∙ ap default (sym (slice_get-map (at vs) consts n))
looked vs consts (Global n) = refl
looked vs consts (Local n) = refl

agree : (look other : Var → Value) (expr : List ExprNode) → ((x : Var) → look x ≡ other x) → AgreeOn look other expr
agree look other [] h = tt
agree look other (Lit a ∷ expr) h = agree look other expr h
agree look other (Read x sort ∷ expr) h = (h x, agree look other expr h)
agree look other (Unary op c ∷ expr) h = agree look other expr h
agree look other (Binary op l r ∷ expr) h = agree look other expr h
agree look other (If c y n ∷ expr) h = agree look other expr h
agree look other (Select m i ∷ expr) h = agree look other expr h
agree look other (Store m i v ∷ expr) h = agree look other expr h

-- the term of an axiom is a bool that says whether it is true
pub axiom_bit : OnlyVariablesMatter → (old new : List TermNode) (consts : List ℕ) (sorts : List Sort) (expr : List ExprNode) (t : ℕ) → is_condition (constants sorts) expr ≡ true → Later old new → Plain old new
    → Says old new consts [] expr t → IsBit old new (λ a. holds (env_of (all_at a old consts)) expr) t
axiom_bit law old new consts sorts expr t cond later plain says = record {
  grows = later.nodes;
  sorted = later.sound;
  bool = says.sort ∙ bool_by (whole_sort expr) (and_right (list_all (node_fits (constants sorts)) expr) (are_same (sort_of_expr expr) (Some (ScalarSort BoolSort))) cond);
  fit = plain.fit;
  low = plain.below;
  means = λ a h.
      ap is_on
      (says.value_is a
      ∙ law (look_terms (values a old) consts []) (read (env_of (all_at a old consts))) expr
      (agree (look_terms (values a old) consts []) (read (env_of (all_at a old consts))) expr (looked (values a old) consts)));
}

-- ---- lists of axioms

pub drop_axiom : (es : List (List ExprNode)) (i : ℕ) (e : List ExprNode) → slice_get es i ≡ Some e → drop i es ≡ e ∷ drop (i + 1) es
drop_axiom es i e h = let next : suc i ≡ i + 1 = omega arith in by_suc es i e h ∙ ap (λ (k : ℕ). e ∷ drop k es) next
  where
    by_suc : (ds : List (List ExprNode)) (j : ℕ) (d : List ExprNode) → slice_get ds j ≡ Some d → drop j ds ≡ d ∷ drop (suc j) ds
    by_suc [] j d h = cc
    by_suc (c ∷ ds) zero d h = let same : c ≡ d = cc in ap (λ (x : List ExprNode). x ∷ ds) same
    by_suc (c ∷ ds) (suc j) d h = by_suc ds j d h

pub drop_axioms : (es : List (List ExprNode)) (i : ℕ) → length es ≤ i → drop i es ≡ []
drop_axioms [] zero l = refl
drop_axioms [] (suc i) l = refl
drop_axioms (e ∷ es) zero l = absurd (omega (arith, l))
drop_axioms (e ∷ es) (suc i) l = drop_axioms es i (omega (arith, l))

pub axiom_at : (p : List ExprNode → Bool) (es : List (List ExprNode)) (i : ℕ) (e : List ExprNode) → list_all p es ≡ true → slice_get es i ≡ Some e → p e ≡ true
axiom_at p [] i e h is = cc
axiom_at p (d ∷ es) zero e h is = let same : d ≡ e = cc in subst (λ (x : List ExprNode). p x ≡ true) same (and_left (p d) (list_all p es) h)
axiom_at p (d ∷ es) (suc i) e h is = axiom_at p es i e (and_right (p d) (list_all p es) h) is
