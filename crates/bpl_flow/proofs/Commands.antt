-- Commands that come from statements that fit, fit.
use Rattle.std.proofs.Common.{◌≡◌, ℕ, ◌+◌, ◌-◌, Bool, true, false, List, [], ◌∷◌, ◌++◌, length, length-append, Option, None, Some, refl, ap, ◌∙◌, arith}
use Rattle.std.specs.Prelude.{slice_get, nat_le}
use Rattle.std.specs.List.{list_all}
use Rattle.std.specs.Option.{option_and_then}
use Rattle.std.proofs.lemmas.Bool.{and_parts, and_from, le-leb}
use Rattle.std.proofs.lemmas.List.Folds.{list_all-append}
use Rattle.bpl_flow.proofs.Negation.{sorts_onto-append}
use Rattle.bpl_flow.specs.Walk.{add_invariant, add_invariants, negated, where_false, where_true}
use Rattle.bpl_type.specs.WellTyped.{guard_fits, invariant_fits}
use Rattle.bpl_type.specs.declared.typed.TypedInvariant.{TypedInvariant}
use Rattle.hy_val.specs.Exprs.{sort_of_node, sorts_onto}
use Rattle.hy_val.specs.NodeSorts.{as_scalar, unary_sort}
use Rattle.hy_val.specs.declared.expr.ExprNode.{ExprNode}
use Rattle.hy_val.specs.declared.expr.ExprNode.TheVariants.{Unary}
use Rattle.hy_val.specs.declared.operator.UnOp.TheVariants.{Not}
use Rattle.hy_val.specs.declared.sort.Sort.{Sort}
use Rattle.hy_val.specs.declared.sort.ScalarKind.TheVariants.{Bool as BoolSort, Bv as BvSort}
use Rattle.hy_val.specs.declared.sort.SortKind.TheVariants.{Scalar as ScalarSort, Map as MapSort}
use Rattle.hy_val.specs.Scope.{Scope, are_same, is_condition, node_fits, sort_of_expr}
use Rattle.src_prog.specs.Scope.{cmd_fits}
use Rattle.src_prog.specs.declared.block.Cmd.{Cmd}
use Rattle.src_prog.specs.declared.block.Cmd.TheVariants as cmds
use Rattle.src_prog.specs.declared.proc.SrcProc.{SrcProc}

-- ---- the negation of a condition

-- each node has a sort
sorts_onto-next : (known : List Sort) (nodes : List ExprNode) (o : Option Sort) (sorts : List Sort)
    → ((s : Sort) → sorts_onto (known ++ s ∷ []) nodes ≡ Some sorts → length sorts ≡ length (known ++ s ∷ []) + length nodes)
    → option_and_then (λ s. sorts_onto (known ++ s ∷ []) nodes) o ≡ Some sorts → length sorts ≡ length known + (length nodes + 1)
sorts_onto-next known nodes None sorts f e = absurd (cc)
sorts_onto-next known nodes (Some s) sorts f e = omega (arith, f s e, length-append known (s ∷ []))

sorts_onto-length : (known : List Sort) (nodes : List ExprNode) (sorts : List Sort) → sorts_onto known nodes ≡ Some sorts → length sorts ≡ length known + length nodes
sorts_onto-length known [] sorts e =
    let same : known ≡ sorts = cc in
    omega (arith, ap length same)
sorts_onto-length known (node ∷ nodes) sorts e =
    omega (arith, sorts_onto-next known nodes (sort_of_node known node) sorts (λ s. sorts_onto-length (known ++ s ∷ []) nodes sorts) e)

slice_get-last : (xs : List Sort) (y : Sort) → slice_get (xs ++ y ∷ []) (length xs) ≡ Some y
slice_get-last [] y = refl
slice_get-last (x ∷ xs) y = slice_get-last xs y

negated-last : (sorts : List Sort) (o : Option Sort) (k : ℕ) → k ≡ length sorts → are_same o (Some (ScalarSort BoolSort)) ≡ true
    → are_same (option_and_then (λ sorts. slice_get sorts k) (option_and_then (λ s. sorts_onto (sorts ++ s ∷ []) []) (unary_sort Not (as_scalar o)))) (Some (ScalarSort BoolSort)) ≡ true
negated-last sorts None k e h = absurd (cc)
negated-last sorts (Some (ScalarSort BoolSort)) k e h = rw (e, slice_get-last sorts (ScalarSort BoolSort)) refl
negated-last sorts (Some (ScalarSort (BvSort w))) k e h = absurd (cc)
negated-last sorts (Some (MapSort index elem)) k e h = absurd (cc)

negated-sort : (o : Option (List Sort)) (n k : ℕ) → k ≡ n + 1 → ((sorts : List Sort) → o ≡ Some sorts → length sorts ≡ n)
    → are_same (option_and_then (λ sorts. slice_get sorts (n - 1)) o) (Some (ScalarSort BoolSort)) ≡ true
    → are_same (option_and_then (λ sorts. slice_get sorts (k - 1)) (option_and_then (λ ks. sorts_onto ks (Unary Not (n - 1) ∷ [])) o)) (Some (ScalarSort BoolSort)) ≡ true
negated-sort None n k e f h = absurd (cc)
negated-sort (Some sorts) n k e f h = negated-last sorts (slice_get sorts (n - 1)) (k - 1) (omega (arith, f sorts refl)) h

pub negated-condition : (scope : Scope) (nodes : List ExprNode) → is_condition scope nodes ≡ true → is_condition scope (negated nodes) ≡ true
negated-condition scope nodes h =
    let p = and_parts (list_all (node_fits scope) nodes) (are_same (sort_of_expr nodes) (Some (ScalarSort BoolSort))) h in
    let reads : list_all (node_fits scope) (negated nodes) ≡ true =
    list_all-append (node_fits scope) nodes (Unary Not (length nodes - 1) ∷ []) ∙ and_from (list_all (node_fits scope) nodes) true p.0 refl in
    let sorted : are_same (sort_of_expr (negated nodes)) (Some (ScalarSort BoolSort)) ≡ true =
    rw (sorts_onto-append [] nodes (Unary Not (length nodes - 1) ∷ []))
    (negated-sort (sorts_onto [] nodes) (length nodes) (length (negated nodes)) (omega (arith, length-append nodes (Unary Not (length nodes - 1) ∷ []))) (λ sorts e. omega (arith, sorts_onto-length [] nodes sorts e)) p.1) in
    and_from (list_all (node_fits scope) (negated nodes)) (are_same (sort_of_expr (negated nodes)) (Some (ScalarSort BoolSort))) reads sorted

module _ (procs : List SrcProc) (scope : Scope) where
  pub true-fits : (guard : Option (List ExprNode)) → guard_fits scope guard ≡ true → list_all (cmd_fits procs scope) (where_true guard) ≡ true
  true-fits None h = refl
  true-fits (Some nodes) h = and_from (is_condition scope nodes) true h refl

  pub false-fits : (guard : Option (List ExprNode)) → guard_fits scope guard ≡ true → list_all (cmd_fits procs scope) (where_false guard) ≡ true
  false-fits None h = refl
  false-fits (Some nodes) h = and_from (is_condition scope (negated nodes)) true (negated-condition scope nodes h) refl

  pub assert-fits : (n : ℕ) (nodes : List ExprNode) → is_condition scope nodes ≡ true → cmd_fits procs scope (cmds.Assert (n + 1) nodes) ≡ true
  assert-fits n nodes h = and_from (nat_le 1 (n + 1)) (is_condition scope nodes) (le-leb 1 (n + 1) (omega arith)) h

  one-more : (before : List Cmd) (cmd : Cmd) → list_all (cmd_fits procs scope) before ≡ true → cmd_fits procs scope cmd ≡ true → list_all (cmd_fits procs scope) (before ++ cmd ∷ []) ≡ true
  one-more before cmd h fits = list_all-append (cmd_fits procs scope) before (cmd ∷ []) ∙ and_from (list_all (cmd_fits procs scope) before) (list_all (cmd_fits procs scope) (cmd ∷ [])) h (and_from (cmd_fits procs scope cmd) true fits refl)

  invariant-fits : (free : Bool) (nodes : List ExprNode) (before : List Cmd) (n : ℕ) → is_condition scope nodes ≡ true → list_all (cmd_fits procs scope) before ≡ true
      → list_all (cmd_fits procs scope) (add_invariant (record { free = free; condition = nodes }) before n).0 ≡ true
  invariant-fits true nodes before n h fits = one-more before (cmds.Assume nodes) fits h
  invariant-fits false nodes before n h fits = one-more before (cmds.Assert (n + 1) nodes) fits (assert-fits n nodes h)

  pub invariants-fit : (invariants : List TypedInvariant) (before : List Cmd) (n : ℕ) → list_all (invariant_fits scope) invariants ≡ true → list_all (cmd_fits procs scope) before ≡ true
      → list_all (cmd_fits procs scope) (add_invariants invariants before n).0 ≡ true
  invariants-fit [] before n h fits = fits
  invariants-fit (i ∷ more) before n h fits =
      let p = and_parts (invariant_fits scope i) (list_all (invariant_fits scope) more) h in
      invariants-fit more (add_invariant i before n).0 (add_invariant i before n).1 p.1 (invariant-fits i.free i.condition before n p.0 fits)
