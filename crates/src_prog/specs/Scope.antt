-- The variables of a procedure, and the commands that fit there.
use Rattle.std.specs.Prelude.{Bool, true, false, ◌&&◌, nat_le, List, [], ◌∷◌, ◌++◌, map, slice_get, Option, None, Some}
use Rattle.std.specs.List.{list_all}
use Rattle.hy_val.specs.Scope.{Scope, is_sort_of, sort_of_target, expr_fits, is_condition, is_target, pair_fits}
use Rattle.hy_val.specs.declared.expr.ExprNode.{ExprNode}
use Rattle.hy_val.specs.declared.expr.Var.{Var}
use Rattle.hy_val.specs.declared.sort.Sort.{Sort}
use Rattle.src_prog.specs.declared.block.Cmd.{Cmd}
use Rattle.src_prog.specs.declared.block.Cmd.TheVariants.{Assign, Havoc, Assume, Assert, Call}
use Rattle.src_prog.specs.declared.proc.Named.{Named}
use Rattle.src_prog.specs.declared.proc.SrcProc.{SrcProc}

abbrev pub sorts_of : List Named → List Sort
sorts_of names = map (λ n. n.sort) names

-- the locals of a procedure are its ins, its outs and its other variables, in this order
abbrev pub locals_of : SrcProc → List Sort
locals_of proc = sorts_of proc.ins ++ (sorts_of proc.outs ++ sorts_of proc.locals)

-- ---- commands

-- as many expressions as names, each of its name's sort
abbrev pub args_fit : Scope → List Named → List (List ExprNode) → Bool
args_fit scope [] [] = true
args_fit scope [] (arg ∷ args) = false
args_fit scope (name ∷ names) [] = false
args_fit scope (name ∷ names) (arg ∷ args) = expr_fits scope (Some name.sort) arg && args_fit scope names args

-- as many targets as names, each of its name's sort
abbrev pub targets_fit : Scope → List Named → List Var → Bool
targets_fit scope [] [] = true
targets_fit scope [] (x ∷ xs) = false
targets_fit scope (name ∷ names) [] = false
targets_fit scope (name ∷ names) (x ∷ xs) = is_sort_of (sort_of_target scope x) name.sort && targets_fit scope names xs

abbrev pub call_fits : Scope → Option SrcProc → List (List ExprNode) → List Var → Bool
call_fits scope None args outs = false
call_fits scope (Some proc) args outs = args_fit scope proc.ins args && targets_fit scope proc.outs outs

abbrev pub cmd_fits : List SrcProc → Scope → Cmd → Bool
cmd_fits procs scope (Assign pairs) = list_all (pair_fits scope) pairs
cmd_fits procs scope (Havoc xs) = list_all (is_target scope) xs
cmd_fits procs scope (Assume expr) = is_condition scope expr
cmd_fits procs scope (Assert number expr) = nat_le 1 number && is_condition scope expr
cmd_fits procs scope (Call proc args outs) = call_fits scope (slice_get procs proc) args outs
