-- The facts that the type of programs keeps.
use Rattle.std.specs.Prelude.{ℕ, ◌+◌, Bool, true, ◌&&◌, nat_lt, List, [], ◌∷◌, length}
use Rattle.std.specs.List.{list_all}
use Rattle.hy_val.specs.NodeSorts.{is_sort}
use Rattle.src_prog.specs.Loops.{loop_is_within, are_nested, edge_fits}
use Rattle.src_prog.specs.Program.{Program}
use Rattle.hy_val.specs.Scope.{are_numbered, ascend_from, Scope, is_condition}
use Rattle.src_prog.specs.Scope.{sorts_of, locals_of, cmd_fits}
use Rattle.src_prog.specs.declared.block.Next.{Next}
use Rattle.src_prog.specs.declared.block.Next.TheVariants.{Goto, Return}
use Rattle.src_prog.specs.declared.block.SrcBlock.{SrcBlock}
use Rattle.src_prog.specs.declared.proc.Named.{Named}
use Rattle.src_prog.specs.declared.proc.SrcLoop.{SrcLoop}
use Rattle.src_prog.specs.declared.proc.SrcProc.{SrcProc}

abbrev pub names_fit : List Named → Bool
names_fit names = are_numbered (length names) && list_all (λ n. is_sort n.sort) names

-- ---- procedures

-- a target is one of so many blocks
abbrev pub target_fits : List SrcLoop → ℕ → ℕ → ℕ → Bool
target_fits loops blocks block target = nat_lt target blocks && edge_fits loops block target

-- a goto has a target
abbrev pub next_fits : List SrcLoop → ℕ → ℕ → Next → Bool
next_fits loops blocks block Return = true
next_fits loops blocks block (Goto targets) = nat_lt 0 (length targets) && list_all (target_fits loops blocks block) targets

abbrev pub block_fits : List SrcProc → Scope → List SrcLoop → ℕ → ℕ → SrcBlock → Bool
block_fits procs scope loops blocks number block = list_all (cmd_fits procs scope) block.cmds && next_fits loops blocks number block.next

-- the blocks, numbered from a number on
abbrev pub blocks_fit : List SrcProc → Scope → List SrcLoop → ℕ → ℕ → List SrcBlock → Bool
blocks_fit procs scope loops blocks number [] = true
blocks_fit procs scope loops blocks number (b ∷ bs) = block_fits procs scope loops blocks number b && blocks_fit procs scope loops blocks (number + 1) bs

abbrev pub scope_of : Program → SrcProc → Scope
scope_of prog proc = record { consts = sorts_of prog.consts; globals = sorts_of prog.globals; locals = locals_of proc }

abbrev pub loops_fit : SrcProc → Bool
loops_fit proc = list_all (loop_is_within (length proc.blocks)) proc.loops && are_nested proc.loops

abbrev pub is_procedure : Program → SrcProc → Bool
is_procedure prog proc =
    (names_fit proc.ins && (names_fit proc.outs && names_fit proc.locals))
    && ((are_numbered (length (locals_of proc)) && (nat_lt 0 (length proc.blocks) && are_numbered (length proc.blocks)))
    && (loops_fit proc && blocks_fit prog.procs (scope_of prog proc) proc.loops (length proc.blocks) 0 proc.blocks))

-- ---- programs

abbrev pub constant_scope : Program → Scope
constant_scope prog = record { consts = sorts_of prog.consts; globals = []; locals = [] }

-- Numbers name what is there, sorts fit, a goto has targets, and loops lie as the text makes them.
abbrev pub is_program : Program → Bool
is_program prog =
    (names_fit prog.consts && (names_fit prog.globals && ascend_from 0 (length prog.consts) prog.uniques))
    && (list_all (is_condition (constant_scope prog)) prog.axioms
    && (are_numbered (length prog.procs) && list_all (is_procedure prog) prog.procs))
