use Rattle.std.proofs.Common.{map, take, false}
use Rattle.type_pass.specs.Memos.{head_graph}
use Rattle.type_pass.proofs.MemoLaws.{IsNoted}
use Rattle.type_pass.proofs.TypeLaws.{map_step}
use Rattle.type_pass.proofs.types.flags_in_order.Given as goal

-- the values of the nodes so far are noted
abbrev pub invariant-loop-node : goal.invariant-loop-node
invariant-loop-node l = IsNoted false (map_step (map (λ s. s.now) l.types)) (head_graph (map (λ s. s.now) l.types)) (take l.node-index l.nodes) l.flags.items
