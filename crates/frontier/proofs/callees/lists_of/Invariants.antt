use Rattle.std.proofs.Common.{◌≡◌, take}
use Rattle.frontier.specs.Ways.{callee_lists}
use Rattle.frontier.proofs.callees.lists_of.Given as goal

abbrev pub invariant-loop-q : goal.invariant-loop-q
invariant-loop-q l = l.lists.items ≡ callee_lists (take l.q-index l.procs)
