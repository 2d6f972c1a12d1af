use Rattle.std.proofs.Common.{◌≡◌, ◌++◌, ◌^◌, map, take}
use Rattle.bpl_type.proofs.MakingLaws.{later}
use Rattle.bpl_type.proofs.nodes.append.Given as goal

abbrev pub invariant-loop-node : goal.invariant-loop-node
invariant-loop-node l = l.out ≡ l.fn.out ++ map (later (2 ^ 64) l.start) (take l.node-index l.nodes)
