use Rattle.std.proofs.Common.{take}
use Rattle.type_pass.specs.Circles.{Reaching}
use Rattle.type_pass.proofs.circle.find_all.Given as goal

abbrev pub invariant-loop-node : goal.invariant-loop-node
invariant-loop-node l = Reaching l.graph l.nodes l.initial.found.nodes.items l.found.nodes.items l.found.seen.items (take l.node-index l.nodes)
