-- The program of the tests, `procedure p() { assert false; call p(); call p(); } procedure main() { call p(); }`.
use Rattle.std.specs.Prelude.{ℕ, false, List, [], ◌∷◌}
use Rattle.hy_val.specs.declared.atom.AtomKind.TheVariants.{Bool as BoolAtom}
use Rattle.hy_val.specs.declared.expr.ExprNode.TheVariants.{Lit}
use Rattle.flat_prog.specs.Program.{FlatProgram}
use Rattle.flat_prog.specs.declared.block.FlatBlock.{FlatBlock}
use Rattle.flat_prog.specs.declared.block.FlatCmd.{FlatCmd}
use Rattle.flat_prog.specs.declared.block.FlatCmd.TheVariants.{Assert, Call}
use Rattle.flat_prog.specs.declared.block.FlatNext.TheVariants.{Return}
use Rattle.flat_prog.specs.declared.proc.FlatProc.{FlatProc}
use Rattle.flat_prog.specs.declared.proc.FlatKind.TheVariants.{Source}
use Rattle.piece_core.specs.declared.tasks.Task.{Task}

abbrev pub call_p : FlatCmd
call_p = Call 0 [] []

abbrev pub assert_false : FlatCmd
assert_false = Assert 0 1 (Lit (BoolAtom false) ∷ [])

abbrev pub block_of : List FlatCmd → FlatBlock
block_of cmds = record { cmds = cmds; next = Return }

abbrev pub proc_of : ℕ → List FlatCmd → FlatProc
proc_of number cmds = record { kind = Source number; ins = []; outs = []; locals = []; blocks = block_of cmds ∷ [] }

abbrev pub p_proc : FlatProc
p_proc = proc_of 0 (assert_false ∷ call_p ∷ call_p ∷ [])

abbrev pub main_proc : FlatProc
main_proc = proc_of 1 (call_p ∷ [])

abbrev pub program_of : List FlatProc → FlatProgram
program_of procs = record { consts = []; uniques = []; axioms = []; globals = []; procs = procs }

abbrev pub program : FlatProgram
program = program_of (p_proc ∷ main_proc ∷ [])

-- p may be open once, and a leaf is due from its first inlined site on
abbrev pub task : Task
task = record { flat = program; entry = 1; bound = 1; grain = 1 }
