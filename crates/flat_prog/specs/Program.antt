-- What contracts see of a flat program, and the variables that a procedure knows (own; the program after Corral, CAV
-- 2012, where loops are taken out as procedures).
use Rattle.std.specs.Prelude.{ℕ, List, [], ◌++◌, Option, None, Some}
use Rattle.hy_val.specs.declared.expr.ExprNode.{ExprNode}
use Rattle.hy_val.specs.declared.sort.Sort.{Sort}
use Rattle.hy_val.specs.Scope.{Scope}
use Rattle.flat_prog.specs.declared.block.FlatBlock.{FlatBlock}
use Rattle.flat_prog.specs.declared.proc.FlatProc.{FlatProc}

-- A flat program: the sorts of the constants and of the globals and the procedures, each numbered from 0 in order; the
-- numbers of the constants that differ from one another; and the axioms.
pub record FlatProgram : Type 0 where
  pub consts : List Sort
  pub uniques : List ℕ
  pub axioms : List (List ExprNode)
  pub globals : List Sort
  pub procs : List FlatProc

-- the locals of a procedure are its ins, its outs and its other variables, in this order
abbrev pub variables_of : FlatProc → List Sort
variables_of q = q.ins ++ (q.outs ++ q.locals)

-- the sorts of the variables that a procedure knows
abbrev pub scope_of : FlatProgram → FlatProc → Scope
scope_of flat q = record { consts = flat.consts; globals = flat.globals; locals = variables_of q }

-- the blocks of a procedure, and the sorts of its outs; none where it is not there
abbrev pub blocks_of : Option FlatProc → List FlatBlock
blocks_of None = []
blocks_of (Some q) = q.blocks

abbrev pub outs_at : Option FlatProc → List Sort
outs_at None = []
outs_at (Some q) = q.outs
