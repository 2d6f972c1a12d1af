-- The machine on small programs, computed.
use Rattle.std.proofs.Common.{ℕ, true, false, List, [], ◌∷◌, refl, codes}
use Rattle.hy_val.specs.declared.expr.ExprNode.{ExprNode}
use Rattle.hy_val.specs.declared.expr.ExprNode.TheVariants.{Var as Read, Unary}
use Rattle.hy_val.specs.declared.expr.Var.TheVariants.{Global, Local}
use Rattle.hy_val.specs.declared.operator.UnOp.TheVariants.{Not}
use Rattle.hy_val.specs.declared.sort.ScalarKind.TheVariants.{Bool as BoolSort}
use Rattle.hy_val.specs.declared.sort.Sort.{Sort}
use Rattle.hy_val.specs.declared.sort.SortKind.TheVariants.{Scalar as ScalarSort}
use Rattle.src_prog.specs.Program.{Program}
use Rattle.src_prog.specs.declared.block.Cmd.{Cmd}
use Rattle.src_prog.specs.declared.block.Cmd.TheVariants.{Assign, Havoc, Assume, Assert, Call}
use Rattle.src_prog.specs.declared.block.Next.TheVariants.{Goto, Return}
use Rattle.src_prog.specs.declared.block.SrcBlock.{SrcBlock}
use Rattle.src_prog.specs.declared.proc.Named.{Named}
use Rattle.src_prog.specs.declared.proc.SrcLoop.{SrcLoop}
use Rattle.src_prog.specs.declared.proc.SrcProc.{SrcProc}
use Rattle.src_run.specs.declared.machine.Choice.TheVariants.{Go}
use Rattle.src_run.specs.declared.machine.Status.TheVariants.{Going, Ended, Failed, Blocked, Cut, BadChoice}
use Rattle.src_run.specs.Machine.{HasStatus}
use Rattle.src_run.specs.Search.{bool_choice}

abbrev bool : Sort
bool = ScalarSort BoolSort

abbrev b : List ExprNode
b = Read (Global 0) bool ∷ []

abbrev not_b : List ExprNode
not_b = Read (Global 0) bool ∷ Unary Not 0 ∷ []

abbrev name : List ℕ → Named
name text = record { name = text; sort = bool }

abbrev proc : List ℕ → List Named → List Named → List SrcBlock → List SrcLoop → SrcProc
proc text ins outs blocks loops = record { name = text; ins = ins; outs = outs; locals = []; blocks = blocks; loops = loops }

abbrev returns : List Cmd → SrcBlock
returns cmds = record { cmds = cmds; next = Return }

abbrev goes : List Cmd → List ℕ → SrcBlock
goes cmds targets = record { cmds = cmds; next = Goto targets }

abbrev prog : List SrcProc → Program
prog procs = record { consts = []; uniques = []; axioms = []; globals = name (codes "b") ∷ []; procs = procs }

-- var b: bool; procedure main() { havoc b; assert b; }
abbrev havocs : Program
havocs = prog (proc (codes "main") [] [] (returns (Havoc (Global 0 ∷ []) ∷ Assert 1 b ∷ []) ∷ []) [] ∷ [])

havoc_fails : HasStatus havocs 0 1 (bool_choice true ∷ bool_choice false ∷ []) (Failed 0 1)
havoc_fails = record { turns = 9; last = _; runs = refl; is = refl }

havoc_ends : HasStatus havocs 0 1 (bool_choice true ∷ bool_choice true ∷ []) Ended
havoc_ends = record { turns = 9; last = _; runs = refl; is = refl }

havoc_asks : HasStatus havocs 0 1 (bool_choice true ∷ []) Going
havoc_asks = record { turns = 9; last = _; runs = refl; is = refl }

-- procedure p(x: bool) returns (y: bool) { y := !x; } procedure main() { call b := p(b); assert b; }
abbrev calls : Program
calls =
    prog (proc (codes "p") (name (codes "x") ∷ []) (name (codes "y") ∷ []) (returns (Assign ((Local 1, Read (Local 0) bool ∷ Unary Not 0 ∷ []) ∷ []) ∷ []) ∷ []) []
    ∷ proc (codes "main") [] [] (returns (Call 0 (b ∷ []) (Global 0 ∷ []) ∷ Assert 1 b ∷ []) ∷ []) [] ∷ [])

call_ends : HasStatus calls 1 1 (bool_choice false ∷ bool_choice false ∷ []) Ended
call_ends = record { turns = 12; last = _; runs = refl; is = refl }

call_fails : HasStatus calls 1 1 (bool_choice true ∷ bool_choice false ∷ []) (Failed 1 1)
call_fails = record { turns = 12; last = _; runs = refl; is = refl }

-- procedure main() { while (b) { } assert !b; } with one block for each part
abbrev loops : Program
loops = prog (proc (codes "main") [] [] (goes [] (1 ∷ []) ∷ goes [] (2 ∷ 3 ∷ []) ∷ goes (Assume b ∷ []) (1 ∷ []) ∷ returns (Assume not_b ∷ Assert 1 b ∷ []) ∷ []) (record { head = 1; exit = 3 } ∷ []) ∷ [])

loop_cut : HasStatus loops 0 1 (bool_choice true ∷ Go 0 ∷ Go 0 ∷ []) Cut
loop_cut = record { turns = 16; last = _; runs = refl; is = refl }

loop_blocked : HasStatus loops 0 1 (bool_choice true ∷ Go 0 ∷ Go 1 ∷ []) Blocked
loop_blocked = record { turns = 16; last = _; runs = refl; is = refl }

loop_fails : HasStatus loops 0 1 (bool_choice false ∷ Go 1 ∷ []) (Failed 0 1)
loop_fails = record { turns = 16; last = _; runs = refl; is = refl }

loop_bad : HasStatus loops 0 1 (bool_choice false ∷ Go 2 ∷ []) (BadChoice 1)
loop_bad = record { turns = 16; last = _; runs = refl; is = refl }
