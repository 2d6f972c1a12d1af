-- The flat program of a program is one: what is added fits, and so do the blocks of each procedure.
use Rattle.std.proofs.Common.{◌≡◌, ℕ, suc, ◌<◌, ◌+◌, ◌^◌, Bool, true, ◌&&◌, if◌then◌else◌, List, [], ◌∷◌, ◌++◌, length, arith, sym, ◌∙◌, ap, refl}
use Rattle.std.proofs.lemmas.Bool.{lt-ltb}
use Rattle.std.specs.Prelude.{Option, None, Some, slice_get}
use Rattle.std.specs.Option.{option_and_then}
use Rattle.std.specs.List.{list_all}
use Rattle.hy_val.proofs.ResultSorts.{same_scalar_self}
use Rattle.hy_val.specs.Exprs.{sorts_onto}
use Rattle.hy_val.specs.NodeSorts.{is_sort, same_sort}
use Rattle.hy_val.specs.declared.expr.ExprNode.TheVariants.{Var as Read, Binary}
use Rattle.hy_val.specs.declared.expr.Var.{Var}
use Rattle.hy_val.specs.declared.expr.Var.TheVariants.{Local}
use Rattle.hy_val.specs.declared.operator.BvOp.TheVariants.{Eq}
use Rattle.hy_val.specs.declared.sort.ScalarKind.TheVariants.{Bool as BoolSort}
use Rattle.hy_val.specs.declared.sort.Sort.{Sort}
use Rattle.hy_val.specs.declared.sort.SortKind.TheVariants.{Scalar as ScalarSort, Map as MapSort}
use Rattle.hy_val.specs.Scope.{Scope as Variables, is_sort_of, are_same, node_fits, sort_of_expr}
use Rattle.hy_val.proofs.Booleans.{and-first, and-second, and-both}
use Rattle.flat_prog.specs.Shape.{args_fit, targets_fit, call_fits, cmd_fits, exit_sort}
use Rattle.flat_prog.specs.declared.proc.FlatProc.{FlatProc}
use Rattle.extract_def.specs.Renaming.{reads_of, locals_from, exit_number, call_of_loop, assume_exit, set_exit, assume_false}

-- ---- sorts

same_sort_self : (s : Sort) → same_sort s s ≡ true
same_sort_self (ScalarSort s) = same_scalar_self s
same_sort_self (MapSort index elem) = and-both _ _ (same_scalar_self index) (same_scalar_self elem)

found_sort : (o : Option Sort) (s : Sort) → o ≡ Some s → is_sort_of o s ≡ true
found_sort o s e = ap (λ p. is_sort_of p s) e ∙ same_sort_self s

read_sort : (x : Var) (s : Sort) → is_sort s ≡ true → are_same (sort_of_expr (Read x s ∷ [])) (Some s) ≡ true
read_sort x s h = ap (λ (b : Bool). are_same (option_and_then (λ (sorts : List Sort). slice_get sorts 0) (option_and_then (λ t. Some ([] ++ t ∷ [])) (if b then Some s else None))) (Some s)) h ∙ same_sort_self s

-- ---- the calls of loop procedures

reads_fit : (scope : Variables) (first : ℕ) (sorts : List Sort) → list_all is_sort sorts ≡ true → ((n : ℕ) (s : Sort) → slice_get sorts n ≡ Some s → slice_get scope.locals (first + n) ≡ Some s) → args_fit scope sorts (reads_of first sorts) ≡ true
reads_fit scope first [] h there = refl
reads_fit scope first (s ∷ ss) h there =
    let z : first ≡ first + 0 = omega arith in
    and-both (is_sort_of (slice_get scope.locals first) s && true && are_same (sort_of_expr (Read (Local first) s ∷ [])) (Some s)) (args_fit scope ss (reads_of (first + 1) ss))
    (and-both (is_sort_of (slice_get scope.locals first) s && true) _ (and-both (is_sort_of (slice_get scope.locals first) s) true (found_sort (slice_get scope.locals first) s (ap (slice_get scope.locals) z ∙ there 0 s refl)) refl) (read_sort (Local first) s (and-first (is_sort s) _ h)))
    (reads_fit scope (first + 1) ss (and-second (is_sort s) _ h) (λ n t e. let y : first + 1 + n ≡ first + suc n = omega arith in ap (slice_get scope.locals) y ∙ there (suc n) t e))

outs_fit : (scope : Variables) (first : ℕ) (sorts : List Sort) → ((n : ℕ) (s : Sort) → slice_get sorts n ≡ Some s → slice_get scope.locals (first + n) ≡ Some s) → slice_get scope.locals (first + length sorts) ≡ Some exit_sort →
    targets_fit scope (sorts ++ exit_sort ∷ []) (locals_from first (length sorts) ++ Local (first + length sorts) ∷ []) ≡ true
outs_fit scope first [] there exit = and-both (is_sort_of (slice_get scope.locals (first + 0)) exit_sort) true (found_sort (slice_get scope.locals (first + 0)) exit_sort exit) refl
outs_fit scope first (s ∷ ss) there exit =
    let z : first ≡ first + 0 = omega arith in let y : first + 1 + length ss ≡ first + suc (length ss) = omega arith in
    and-both (is_sort_of (slice_get scope.locals first) s) (targets_fit scope (ss ++ exit_sort ∷ []) (locals_from (first + 1) (length ss) ++ Local (first + suc (length ss)) ∷ []))
    (found_sort (slice_get scope.locals first) s (ap (slice_get scope.locals) z ∙ there 0 s refl))
    (ap (λ n. targets_fit scope (ss ++ exit_sort ∷ []) (locals_from (first + 1) (length ss) ++ Local n ∷ [])) (sym y)
    ∙ outs_fit scope (first + 1) ss (λ n t e. let x : first + 1 + n ≡ first + suc n = omega arith in ap (slice_get scope.locals) x ∙ there (suc n) t e) (ap (slice_get scope.locals) y ∙ exit))

pub loop_call_fits : (procs : List FlatProc) (scope : Variables) (number first : ℕ) (sorts : List Sort) (code : FlatProc) → slice_get procs number ≡ Some code → code.ins ≡ sorts → code.outs ≡ sorts ++ exit_sort ∷ [] → list_all is_sort sorts ≡ true →
    ((n : ℕ) (s : Sort) → slice_get sorts n ≡ Some s → slice_get scope.locals (first + n) ≡ Some s) → slice_get scope.locals (first + length sorts) ≡ Some exit_sort → cmd_fits procs scope (call_of_loop number first sorts) ≡ true
loop_call_fits procs scope number first sorts code e ins outs h there exit =
    let args = reads_of first sorts in let xs = locals_from first (length sorts) ++ Local (first + length sorts) ∷ [] in
    ap (λ o. call_fits scope o args xs) e
    ∙ and-both (args_fit scope code.ins args) (targets_fit scope code.outs xs) (ap (λ ss. args_fit scope ss args) ins ∙ reads_fit scope first sorts h there) (ap (λ ss. targets_fit scope ss xs) outs ∙ outs_fit scope first sorts there exit)

-- ---- exit numbers

exit_node : (x : ℕ) → x < 2 ^ 32 → are_same (sort_of_expr (exit_number x ∷ [])) (Some exit_sort) ≡ true
exit_node x lt = ap (λ (b : Bool). are_same (option_and_then (λ (sorts : List Sort). slice_get sorts 0) (option_and_then (λ t. Some ([] ++ t ∷ [])) (if b then Some exit_sort else None))) (Some exit_sort)) (lt-ltb x (2 ^ 32) lt)

pub assume_exit_fits : (procs : List FlatProc) (scope : Variables) (local x : ℕ) → slice_get scope.locals local ≡ Some exit_sort → x < 2 ^ 32 → cmd_fits procs scope (assume_exit local x) ≡ true
assume_exit_fits procs scope local x e lt =
    let nodes = Read (Local local) exit_sort ∷ exit_number x ∷ Binary Eq 0 1 ∷ [] in
    and-both (list_all (node_fits scope) nodes) (are_same (sort_of_expr nodes) (Some (ScalarSort BoolSort)))
    (and-both (is_sort_of (slice_get scope.locals local) exit_sort) true (found_sort (slice_get scope.locals local) exit_sort e) refl)
    (ap (λ (b : Bool). are_same (option_and_then (λ (sorts : List Sort). slice_get sorts 2) (option_and_then (λ t. sorts_onto (exit_sort ∷ t ∷ []) (Binary Eq 0 1 ∷ [])) (if b then Some exit_sort else None))) (Some (ScalarSort BoolSort))) (lt-ltb x (2 ^ 32) lt))

pub set_exit_fits : (procs : List FlatProc) (scope : Variables) (local x : ℕ) → slice_get scope.locals local ≡ Some exit_sort → x < 2 ^ 32 → cmd_fits procs scope (set_exit local x) ≡ true
set_exit_fits procs scope local x e lt =
    ap (λ (o : Option Sort). true && are_same (sort_of_expr (exit_number x ∷ [])) o && true) e ∙ and-both _ true (exit_node x lt) refl

pub assume_false_fits : (procs : List FlatProc) (scope : Variables) → cmd_fits procs scope assume_false ≡ true
assume_false_fits procs scope = refl
