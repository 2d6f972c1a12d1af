use Rattle.std.proofs.Common.{map, take, None}
use Rattle.type_pass.specs.Sorts.{type_graph}
use Rattle.type_pass.proofs.MemoLaws.{IsNoted}
use Rattle.type_pass.proofs.TypeLaws.{sort_step}
use Rattle.type_pass.proofs.types.sorts_in_order.Given as goal

-- the values of the nodes so far are noted
abbrev pub invariant-loop-node : goal.invariant-loop-node
invariant-loop-node l = IsNoted None (sort_step (map (λ s. s.now) l.types)) (type_graph (map (λ s. s.now) l.types)) (take l.node-index l.nodes) l.sorts.items
