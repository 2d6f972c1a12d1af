use Rattle.std.proofs.Common.{◌≡◌, map, take}
use Rattle.tree_tests.specs.Programs.{call_of}
use Rattle.tree_tests.proofs.programs.block.Given as goal

abbrev pub invariant-loop-callee : goal.invariant-loop-callee
invariant-loop-callee l = l.cmds.items ≡ map (call_of l.looping) (take l.callee-index l.callees)
