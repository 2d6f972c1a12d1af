-- The flat programs of the tests. Of a program only kinds and calls matter here, so no procedure has an in, and each has one block.
use Rattle.std.specs.Prelude.{ℕ, nat_eq, cond, List, [], ◌∷◌, map, replicate}
use Rattle.hy_val.specs.declared.expr.Var.{Var}
use Rattle.hy_val.specs.declared.expr.Var.TheVariants.{Local}
use Rattle.hy_val.specs.declared.sort.Sort.{Sort}
use Rattle.flat_prog.specs.Program.{FlatProgram}
use Rattle.flat_prog.specs.Shape.{exit_sort}
use Rattle.flat_prog.specs.declared.block.FlatBlock.{FlatBlock}
use Rattle.flat_prog.specs.declared.block.FlatCmd.{FlatCmd}
use Rattle.flat_prog.specs.declared.block.FlatCmd.TheVariants.{Call}
use Rattle.flat_prog.specs.declared.block.FlatNext.TheVariants.{Return}
use Rattle.flat_prog.specs.declared.proc.FlatKind.{FlatKind}
use Rattle.flat_prog.specs.declared.proc.FlatKind.TheVariants.{Source, Loop}
use Rattle.flat_prog.specs.declared.proc.FlatProc.{FlatProc}

-- a call of a procedure; that of a loop, which has this number, hands back its exit number
abbrev pub call_of : ℕ → ℕ → FlatCmd
call_of loop proc = Call proc [] (cond (nat_eq proc loop) (Local 0 ∷ []) [])

abbrev pub block_of : ℕ → List ℕ → FlatBlock
block_of loop callees = record { cmds = map (call_of loop) callees; next = Return }

abbrev pub proc_of : FlatKind → (outs locals : List Sort) → ℕ → List ℕ → FlatProc
proc_of kind outs locals loop callees = record { kind = kind; ins = []; outs = outs; locals = locals; blocks = block_of loop callees ∷ [] }

abbrev pub program_of : List FlatProc → FlatProgram
program_of procs = record { consts = []; uniques = []; axioms = []; globals = []; procs = procs }

-- r calls itself, and main calls r
abbrev pub recursive : FlatProgram
recursive = program_of (proc_of (Source 0) [] [] 9 (0 ∷ []) ∷ proc_of (Source 1) [] [] 9 (0 ∷ []) ∷ [])

-- p calls its loop, main calls p, and the loop calls p and then itself
abbrev pub looping : FlatProgram
looping = program_of (proc_of (Source 0) [] (exit_sort ∷ []) 2 (2 ∷ []) ∷ proc_of (Source 1) [] [] 2 (0 ∷ []) ∷ proc_of (Loop 0 1) (exit_sort ∷ []) [] 2 (0 ∷ 2 ∷ []) ∷ [])

-- the first calls the second so many times, the second the third so many times, and the third the last
abbrev pub wide : (first second : ℕ) → FlatProgram
wide first second =
    program_of (proc_of (Source 0) [] [] 9 (replicate first 1) ∷ proc_of (Source 1) [] [] 9 (replicate second 2) ∷ proc_of (Source 2) [] [] 9 (3 ∷ []) ∷ proc_of (Source 3) [] [] 9 [] ∷ [])
