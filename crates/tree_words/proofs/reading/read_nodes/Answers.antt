use Rattle.std.proofs.Common.{length, sym, ◌∙◌}
use Rattle.tree_words.specs.Reading.{node_at, reached, slots_to}
use Rattle.tree_words.proofs.Listing.{read_more, node_less}
use Rattle.tree_words.proofs.reading.read_nodes.Goals as goal
use Rattle.tree_words.proofs.reading.read_nodes.Goals.{then-is_reached+in_ok-next+in_ok-push, else-is_reached}

pub loop-node-preserved : goal.loop-node-preserved
loop-node-preserved c = elim c.if-is_reached.branch [
  | then-is_reached+in_ok-next+in_ok-push w ↦ rw w.nodes-is (read_more c.args.procs.now c.args.changes.now c.args.q.now c.args.places.now c.args.reach.now c.args.values.now c.loop-node.node c.len.result
      c.in_ok-slots.slots.items w.as_slice.result.now c.loop-node.nodes.items w.push.new.self.items w.in_ok-next.next (sym c.is_reached.ensures ∙ w.if-is_reached.true) w.as_slice.ensures.value c.in_ok-slots.ensures
      c.len.ensures c.loop-node.invariant w.in_ok-next.ensures w.in_ok-push.ensures.items)
  | else-is_reached w ↦ rw w.nodes-is (node_less (reached c.args.reach.now c.args.values.now) (node_at c.args.procs.now c.args.changes.now (slots_to (reached c.args.reach.now c.args.values.now) (length c.args.q.now.tree))
      c.args.q.now c.args.places.now c.args.values.now) c.loop-node.node c.loop-node.nodes.items (sym c.is_reached.ensures ∙ w.if-is_reached.false) c.loop-node.invariant)
]
