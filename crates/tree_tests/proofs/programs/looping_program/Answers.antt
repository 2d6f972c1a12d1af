use Rattle.std.proofs.Common.{List, sym, subst}
use Rattle.flat_prog.specs.Shape.{IsFlat}
use Rattle.flat_prog.specs.declared.proc.FlatProc.{FlatProc}
use Rattle.tree_tests.specs.Programs.{program_of}
use Rattle.tree_tests.proofs.Fitting.{looping_fits}
use Rattle.tree_tests.proofs.programs.looping_program.Goals as goal

pub program-requires : goal.program-requires
program-requires c = subst (λ (procs : List FlatProc). IsFlat (program_of procs)) (sym (c.in_ok-procs.ensures {u = tt})) looping_fits
