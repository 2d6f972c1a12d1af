-- The flat program of a program is one, where numbers of 32 bits are enough.
use Rattle.std.specs.Prelude.{Bool, ◌&&◌, length, IsTrue}
use Rattle.std.specs.List.{list_all}
use Rattle.hy_val.specs.Scope.{are_numbered}
use Rattle.src_prog.specs.Program.{Program}
use Rattle.src_prog.specs.Shape.{is_program}
use Rattle.flat_prog.specs.Program.{FlatProgram, variables_of}
use Rattle.flat_prog.specs.Shape.{IsFlat}
use Rattle.flat_prog.specs.declared.proc.FlatProc.{FlatProc}
use Rattle.extract_def.specs.Extraction.{flat_of}

-- numbers of 32 bits name the variables and blocks of a procedure
abbrev pub is_small_proc : FlatProc → Bool
is_small_proc q = are_numbered (length (variables_of q)) && are_numbered (length q.blocks)

-- numbers of 32 bits name the procedures, and the variables and blocks of each
abbrev pub is_small : FlatProgram → Bool
is_small flat = are_numbered (length flat.procs) && list_all is_small_proc flat.procs

-- The flat program of a program keeps the facts of its type: numbers name something, sorts fit, blocks are acyclic, loop procedures have the outs that
-- they should, and no circle of calls goes through loop procedures alone, but those of one that calls itself.
abbrev pub ExtractionIsFlat : Type 0
ExtractionIsFlat = (prog : Program) → IsTrue (is_program prog) → IsTrue (is_small (flat_of prog)) → IsFlat (flat_of prog)
