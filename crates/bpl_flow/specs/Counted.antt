-- Counts that numbers of 32 bits can name.
use Rattle.std.specs.Prelude.{Bool, ◌&&◌, length}
use Rattle.std.specs.List.{list_all}
use Rattle.src_prog.specs.Program.{Program}
use Rattle.src_prog.specs.Scope.{locals_of}
use Rattle.hy_val.specs.Scope.{are_numbered}
use Rattle.src_prog.specs.declared.proc.SrcProc.{SrcProc}

abbrev pub is_counted_proc : SrcProc → Bool
is_counted_proc p = are_numbered (length (locals_of p)) && are_numbered (length p.blocks)

abbrev pub is_counted : Program → Bool
is_counted prog = are_numbered (length prog.consts) && (are_numbered (length prog.globals) && (are_numbered (length prog.procs) && list_all is_counted_proc prog.procs))
