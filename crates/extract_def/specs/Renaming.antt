-- Commands of a source procedure in a flat procedure, where the locals stand further behind, and what extraction adds.
use Rattle.std.specs.Prelude.{ℕ, zero, suc, ◌+◌, false, List, [], ◌∷◌, ◌++◌, map, length}
use Rattle.hy_val.specs.Laws.{renamed}
use Rattle.hy_val.specs.declared.atom.AtomKind.TheVariants.{Bool as BoolAtom, Bv as BvAtom}
use Rattle.hy_val.specs.declared.expr.ExprNode.{ExprNode}
use Rattle.hy_val.specs.declared.expr.ExprNode.TheVariants.{Lit, Var as Read, Binary}
use Rattle.hy_val.specs.declared.expr.Var.{Var}
use Rattle.hy_val.specs.declared.expr.Var.TheVariants.{Const, Global, Local}
use Rattle.hy_val.specs.declared.operator.BvOp.TheVariants.{Eq}
use Rattle.hy_val.specs.declared.sort.Sort.{Sort}
use Rattle.src_prog.specs.Program.{Program}
use Rattle.src_prog.specs.declared.block.Cmd.{Cmd}
use Rattle.src_prog.specs.declared.block.Cmd.TheVariants.{Assign as SrcAssign, Havoc as SrcHavoc, Assume as SrcAssume, Assert as SrcAssert, Call as SrcCall}
use Rattle.flat_prog.specs.Shape.{exit_sort}
use Rattle.flat_prog.specs.declared.block.FlatCmd.{FlatCmd}
use Rattle.flat_prog.specs.declared.block.FlatCmd.TheVariants.{Assign, Havoc, Assume, Assert, Call}

-- ---- commands of the source

-- the variable, where the locals stand so much further behind
abbrev pub behind : ℕ → Var → Var
behind by (Const n) = Const n
behind by (Global n) = Global n
behind by (Local n) = Local (by + n)

-- the nodes of an expression with such variables
abbrev pub moved : ℕ → List ExprNode → List ExprNode
moved by expr = map (renamed (behind by)) expr

-- a target and its expression
abbrev pub moved_pair : ℕ → Var × List ExprNode → Var × List ExprNode
moved_pair by pair = (behind by pair.0, moved by pair.1)

-- the command of the source procedure of this number, where the locals stand so much further behind
abbrev pub moved_cmd : ℕ → ℕ → Cmd → FlatCmd
moved_cmd proc by (SrcAssign pairs) = Assign (map (moved_pair by) pairs)
moved_cmd proc by (SrcHavoc xs) = Havoc (map (behind by) xs)
moved_cmd proc by (SrcAssume expr) = Assume (moved by expr)
moved_cmd proc by (SrcAssert number expr) = Assert proc number (moved by expr)
moved_cmd proc by (SrcCall callee args outs) = Call callee (map (moved by) args) (map (behind by) outs)

-- what that command becomes in the flat procedure: a list of commands
abbrev pub moved_cmds : Program → (proc by : ℕ) → Cmd → List FlatCmd
moved_cmds prog proc by cmd = moved_cmd proc by cmd ∷ []

-- ---- commands that are added

-- the variables from a number on, of these sorts, each read
abbrev pub reads_of : ℕ → List Sort → List (List ExprNode)
reads_of first [] = []
reads_of first (sort ∷ sorts) = (Read (Local first) sort ∷ []) ∷ reads_of (first + 1) sorts

-- so many locals, from a number on
abbrev pub locals_from : ℕ → ℕ → List Var
locals_from first zero = []
locals_from first (suc count) = Local first ∷ locals_from (first + 1) count

-- an exit number as an expression
abbrev pub exit_number : ℕ → ExprNode
exit_number x = Lit (BvAtom (record { width = 32; bits = x }))

-- a call of a loop procedure: the variables, which stand behind so many, are its ins and its outs, and the one behind them is the exit number
abbrev pub call_of_loop : ℕ → ℕ → List Sort → FlatCmd
call_of_loop number by sorts = Call number (reads_of by sorts) (locals_from by (length sorts) ++ Local (by + length sorts) ∷ [])

-- the exit number, that local, is this
abbrev pub assume_exit : ℕ → ℕ → FlatCmd
assume_exit local x = Assume (Read (Local local) exit_sort ∷ exit_number x ∷ Binary Eq 0 1 ∷ [])

-- the local becomes this exit number
abbrev pub set_exit : ℕ → ℕ → FlatCmd
set_exit local x = Assign ((Local local, exit_number x ∷ []) ∷ [])

-- no run goes on
abbrev pub assume_false : FlatCmd
assume_false = Assume (Lit (BoolAtom false) ∷ [])
