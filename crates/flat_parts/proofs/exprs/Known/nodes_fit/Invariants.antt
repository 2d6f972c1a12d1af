use Rattle.std.proofs.Common.{◌≡◌, drop}
use Rattle.std.specs.List.{list_all}
use Rattle.hy_val.specs.Scope.{node_fits}
use Rattle.flat_parts.proofs.exprs.Known.nodes_fit.Given as goal

abbrev pub invariant-loop-node : goal.invariant-loop-node
invariant-loop-node l = list_all (node_fits l.self) (drop l.node-index l.nodes) ≡ list_all (node_fits l.self) l.nodes
