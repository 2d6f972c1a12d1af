-- Commands of a source procedure fit where its locals stand further behind.
use Rattle.std.proofs.Common.{◌≡◌, ℕ, ◌-◌, true, List, [], ◌∷◌, map, length, sym, ◌∙◌, ap, refl}
use Rattle.std.proofs.lemmas.List.{length-map}
use Rattle.std.specs.Prelude.{Option, None, Some, slice_get, nat_le}
use Rattle.std.specs.Option.{option_and_then}
use Rattle.std.specs.List.{list_all}
use Rattle.hy_val.proofs.Lawful.{renaming}
use Rattle.hy_val.specs.Building.{sorts_of as node_sorts}
use Rattle.hy_val.specs.Laws.{renamed}
use Rattle.hy_val.specs.Values.{default}
use Rattle.hy_val.specs.declared.expr.ExprNode.{ExprNode}
use Rattle.hy_val.specs.declared.expr.ExprNode.TheVariants.{Lit, Var as Read, Unary, Binary, If, Select, Store as StoreNode}
use Rattle.hy_val.specs.declared.expr.Var.{Var}
use Rattle.hy_val.specs.declared.expr.Var.TheVariants.{Const, Global, Local}
use Rattle.hy_val.specs.declared.sort.Sort.{Sort}
use Rattle.src_prog.specs.Program.{Program}
use Rattle.hy_val.specs.Scope.{Scope, sort_of_variable, sort_of_target, is_sort_of, are_same, node_fits, sort_of_expr, expr_fits, is_condition, is_target, pair_fits}
use Rattle.src_prog.specs.Scope.{sorts_of, args_fit as names_args_fit, targets_fit as names_targets_fit, call_fits as src_call_fits, cmd_fits as src_cmd_fits}
use Rattle.src_prog.specs.declared.block.Cmd.{Cmd}
use Rattle.src_prog.specs.declared.block.Cmd.TheVariants.{Assign, Havoc, Assume, Assert, Call}
use Rattle.src_prog.specs.declared.proc.Named.{Named}
use Rattle.src_prog.specs.declared.proc.SrcProc.{SrcProc}
use Rattle.hy_val.proofs.Booleans.{and-first, and-second, and-both}
use Rattle.hy_val.proofs.Scopes.{is_sort_of_is, are_same_is}
use Rattle.flat_prog.specs.Shape.{args_fit, targets_fit, call_fits, cmd_fits}
use Rattle.flat_prog.specs.declared.proc.FlatProc.{FlatProc}
use Rattle.extract_def.proofs.Moved.{IsMoved, moved_target}
use Rattle.extract_def.specs.Extraction.{proc_of}
use Rattle.extract_def.specs.Renaming.{behind, moved, moved_pair, moved_cmd}
use Rattle.extract_def.specs.Scopes.{Whole}

-- ---- expressions

moved_variable : (by : ℕ) (old new : Scope) (x : Var) (s : Sort) → IsMoved by old new → sort_of_variable old x ≡ Some s → sort_of_variable new (behind by x) ≡ sort_of_variable old x
moved_variable by old new (Const n) s h e = ap (λ cs. slice_get cs n) h.consts
moved_variable by old new (Global n) s h e = ap (λ gs. slice_get gs n) h.globals
moved_variable by old new (Local n) s h e = h.locals n s e ∙ sym e

moved_nodes : (by : ℕ) (old new : Scope) (nodes : List ExprNode) → IsMoved by old new → list_all (node_fits old) nodes ≡ true → list_all (node_fits new) (moved by nodes) ≡ true
moved_nodes by old new [] m h = refl
moved_nodes by old new (Lit a ∷ nodes) m h = moved_nodes by old new nodes m h
moved_nodes by old new (Unary op c ∷ nodes) m h = moved_nodes by old new nodes m h
moved_nodes by old new (Binary op l r ∷ nodes) m h = moved_nodes by old new nodes m h
moved_nodes by old new (If c l r ∷ nodes) m h = moved_nodes by old new nodes m h
moved_nodes by old new (Select a i ∷ nodes) m h = moved_nodes by old new nodes m h
moved_nodes by old new (StoreNode a i v ∷ nodes) m h = moved_nodes by old new nodes m h
moved_nodes by old new (Read x sort ∷ nodes) m h =
    let one = and-first (is_sort_of (sort_of_variable old x) sort) _ h in
    let same = moved_variable by old new x sort m (is_sort_of_is (sort_of_variable old x) sort one) in
    and-both (is_sort_of (sort_of_variable new (behind by x)) sort) (list_all (node_fits new) (moved by nodes)) (ap (λ o. is_sort_of o sort) same ∙ one)
    (moved_nodes by old new nodes m (and-second (is_sort_of (sort_of_variable old x) sort) _ h))

moved_sort : (by : ℕ) (nodes : List ExprNode) → sort_of_expr (moved by nodes) ≡ sort_of_expr nodes
moved_sort by nodes =
    let kept = renaming (behind by) (λ x. default None) nodes in
    let long = length-map nodes (renamed (behind by)) in
    ap (λ n. option_and_then (λ sorts. slice_get sorts (n - 1)) (node_sorts (moved by nodes))) long
    ∙ ap (option_and_then (λ (sorts : List Sort). slice_get sorts (length nodes - 1))) kept.sorts

pub moved_fits : (by : ℕ) (old new : Scope) (sort : Option Sort) (nodes : List ExprNode) → IsMoved by old new → expr_fits old sort nodes ≡ true → expr_fits new sort (moved by nodes) ≡ true
moved_fits by old new sort nodes m h =
    and-both (list_all (node_fits new) (moved by nodes)) (are_same (sort_of_expr (moved by nodes)) sort) (moved_nodes by old new nodes m (and-first (list_all (node_fits old) nodes) _ h))
    (ap (λ o. are_same o sort) (moved_sort by nodes) ∙ and-second (list_all (node_fits old) nodes) _ h)

-- ---- targets

moved_found : (by : ℕ) (old new : Scope) (x : Var) (s : Sort) → IsMoved by old new → sort_of_target old x ≡ Some s → sort_of_target new (behind by x) ≡ sort_of_target old x
moved_found by old new x s m e = (moved_target by old new x s m e).0 ∙ sym e

moved_pair_fits : (by : ℕ) (old new : Scope) (pair : Var × List ExprNode) → IsMoved by old new → pair_fits old pair ≡ true → pair_fits new (moved_pair by pair) ≡ true
moved_pair_fits by old new (x, expr) m h =
    let s = are_same_is (sort_of_expr expr) (sort_of_target old x) (and-second (list_all (node_fits old) expr) _ h) in
    let same = moved_found by old new x s.0 m s.2 in
    ap (λ o. expr_fits new o (moved by expr)) same ∙ moved_fits by old new (sort_of_target old x) expr m h

moved_pairs_fit : (by : ℕ) (old new : Scope) (pairs : List (Var × List ExprNode)) → IsMoved by old new → list_all (pair_fits old) pairs ≡ true → list_all (pair_fits new) (map (moved_pair by) pairs) ≡ true
moved_pairs_fit by old new [] m h = refl
moved_pairs_fit by old new (p ∷ ps) m h =
    and-both (pair_fits new (moved_pair by p)) (list_all (pair_fits new) (map (moved_pair by) ps)) (moved_pair_fits by old new p m (and-first (pair_fits old p) _ h)) (moved_pairs_fit by old new ps m (and-second (pair_fits old p) _ h))

moved_is_target : (by : ℕ) (old new : Scope) (x : Var) → IsMoved by old new → is_target old x ≡ true → is_target new (behind by x) ≡ true
moved_is_target by old new x m h =
    let s = are_same_is (sort_of_target old x) (sort_of_target old x) h in
    ap (λ o. are_same o o) (moved_found by old new x s.0 m s.1) ∙ h

moved_havocs : (by : ℕ) (old new : Scope) (xs : List Var) → IsMoved by old new → list_all (is_target old) xs ≡ true → list_all (is_target new) (map (behind by) xs) ≡ true
moved_havocs by old new [] m h = refl
moved_havocs by old new (x ∷ xs) m h =
    and-both (is_target new (behind by x)) (list_all (is_target new) (map (behind by) xs)) (moved_is_target by old new x m (and-first (is_target old x) _ h)) (moved_havocs by old new xs m (and-second (is_target old x) _ h))

-- ---- calls

moved_args_fit : (by : ℕ) (old new : Scope) (names : List Named) (args : List (List ExprNode)) → IsMoved by old new → names_args_fit old names args ≡ true → args_fit new (sorts_of names) (map (moved by) args) ≡ true
moved_args_fit by old new [] [] m h = refl
moved_args_fit by old new [] (a ∷ args) m h = absurd cc
moved_args_fit by old new (n ∷ names) [] m h = absurd cc
moved_args_fit by old new (n ∷ names) (a ∷ args) m h =
    and-both (expr_fits new (Some n.sort) (moved by a)) (args_fit new (sorts_of names) (map (moved by) args)) (moved_fits by old new (Some n.sort) a m (and-first (expr_fits old (Some n.sort) a) _ h))
    (moved_args_fit by old new names args m (and-second (expr_fits old (Some n.sort) a) _ h))

moved_outs_fit : (by : ℕ) (old new : Scope) (names : List Named) (xs : List Var) → IsMoved by old new → names_targets_fit old names xs ≡ true → targets_fit new (sorts_of names) (map (behind by) xs) ≡ true
moved_outs_fit by old new [] [] m h = refl
moved_outs_fit by old new [] (x ∷ xs) m h = absurd cc
moved_outs_fit by old new (n ∷ names) [] m h = absurd cc
moved_outs_fit by old new (n ∷ names) (x ∷ xs) m h =
    let one = and-first (is_sort_of (sort_of_target old x) n.sort) _ h in
    let same = moved_found by old new x n.sort m (is_sort_of_is (sort_of_target old x) n.sort one) in
    and-both (is_sort_of (sort_of_target new (behind by x)) n.sort) (targets_fit new (sorts_of names) (map (behind by) xs)) (ap (λ o. is_sort_of o n.sort) same ∙ one)
    (moved_outs_fit by old new names xs m (and-second (is_sort_of (sort_of_target old x) n.sort) _ h))

-- the source procedures stand in the list under their numbers
abbrev pub KeepNumbers : Program → List FlatProc → Type 0
KeepNumbers prog procs = (n : ℕ) (callee : SrcProc) → slice_get prog.procs n ≡ Some callee → slice_get procs n ≡ Some (proc_of prog n callee Whole)

moved_call_fits : (prog : Program) (procs : List FlatProc) (by n : ℕ) (old new : Scope) (args : List (List ExprNode)) (outs : List Var) → KeepNumbers prog procs → IsMoved by old new → src_call_fits old (slice_get prog.procs n) args outs ≡ true →
    call_fits new (slice_get procs n) (map (moved by) args) (map (behind by) outs) ≡ true
moved_call_fits prog procs by n old new args outs keep m h = at (slice_get prog.procs n) refl h
  where
    at : (o : Option SrcProc) → slice_get prog.procs n ≡ o → src_call_fits old o args outs ≡ true → call_fits new (slice_get procs n) (map (moved by) args) (map (behind by) outs) ≡ true
    at None e k = absurd cc
    at (Some callee) e k =
        ap (λ o. call_fits new o (map (moved by) args) (map (behind by) outs)) (keep n callee e)
        ∙ and-both (args_fit new (sorts_of callee.ins) (map (moved by) args)) (targets_fit new (sorts_of callee.outs) (map (behind by) outs))
        (moved_args_fit by old new callee.ins args m (and-first (names_args_fit old callee.ins args) _ k)) (moved_outs_fit by old new callee.outs outs m (and-second (names_args_fit old callee.ins args) _ k))

pub moved_cmd_fits : (prog : Program) (procs : List FlatProc) (p by : ℕ) (old new : Scope) (c : Cmd) → KeepNumbers prog procs → IsMoved by old new → src_cmd_fits prog.procs old c ≡ true → cmd_fits procs new (moved_cmd p by c) ≡ true
moved_cmd_fits prog procs p by old new (Assign pairs) keep m h = moved_pairs_fit by old new pairs m h
moved_cmd_fits prog procs p by old new (Havoc xs) keep m h = moved_havocs by old new xs m h
moved_cmd_fits prog procs p by old new (Assume expr) keep m h = moved_fits by old new _ expr m h
moved_cmd_fits prog procs p by old new (Assert number expr) keep m h = and-both (nat_le 1 number) (is_condition new (moved by expr)) (and-first (nat_le 1 number) _ h) (moved_fits by old new _ expr m (and-second (nat_le 1 number) _ h))
moved_cmd_fits prog procs p by old new (Call n args outs) keep m h = moved_call_fits prog procs by n old new args outs keep m h
