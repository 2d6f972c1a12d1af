-- A flat program as the passive form sees it: its sorts, its procedures, and which globals each procedure may change.
use Rattle.std.specs.Prelude.{Bool, List}
use Rattle.hy_val.specs.declared.sort.Sort.{Sort}
use Rattle.flat_prog.specs.Program.{FlatProgram}
use Rattle.flat_prog.specs.declared.proc.FlatProc.{FlatProc}

-- the lists of a flat program, and a table with a row for each procedure: for each global, whether a call of the procedure may change it
pub record Limited : Type 0 where
  pub consts : List Sort
  pub globals : List Sort
  pub procs : List FlatProc
  pub changes : List (List Bool)

-- the program with this table
abbrev pub limited : FlatProgram → List (List Bool) → Limited
limited flat table = record { consts = flat.consts; globals = flat.globals; procs = flat.procs; changes = table }
