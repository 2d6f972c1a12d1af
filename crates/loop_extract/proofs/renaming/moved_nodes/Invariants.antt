use Rattle.std.proofs.Common.{◌≡◌, map, take}
use Rattle.extract_def.specs.Renaming.{behind}
use Rattle.hy_val.specs.Laws.{renamed}
use Rattle.loop_extract.proofs.renaming.moved_nodes.Given as goal

abbrev pub invariant-loop-node : goal.invariant-loop-node
invariant-loop-node l = l.moved ≡ map (renamed (behind l.by)) (take l.node-index l.nodes)
