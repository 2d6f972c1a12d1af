use Rattle.std.proofs.Common.{◌≡◌, ◌++◌, map, take}
use Rattle.src_prog.specs.Scope.{sorts_of}
use Rattle.src_run.specs.Machine.{AGlobal}
use Rattle.src_run.specs.State.{want_of}
use Rattle.src_run.proofs.replaying.ask_globals.Given as goal

abbrev pub invariant-loop-name : goal.invariant-loop-name
invariant-loop-name l = map want_of l.wants ≡ map want_of l.initial.wants ++ map AGlobal (sorts_of (take l.name-index l.names))
