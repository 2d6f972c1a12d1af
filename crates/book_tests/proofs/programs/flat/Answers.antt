use Rattle.std.proofs.Common.{List, sym, subst}
use Rattle.flat_prog.specs.Shape.{IsFlat}
use Rattle.flat_prog.specs.declared.proc.FlatProc.{FlatProc}
use Rattle.book_tests.specs.Example.{program_of}
use Rattle.book_tests.proofs.Fitting.{program_fits}
use Rattle.book_tests.proofs.programs.flat.Goals as goal

pub program-requires : goal.program-requires
program-requires c = subst (λ (procs : List FlatProc). IsFlat (program_of procs)) (sym (c.in_ok-found.ensures {u = tt})) program_fits
