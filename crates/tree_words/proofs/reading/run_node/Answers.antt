use Rattle.tree_words.proofs.Listing.{node_is}
use Rattle.tree_words.proofs.reading.run_node.Goals as goal

pub returns-in-Some : goal.returns-in-Some
returns-in-Some c =
    node_is c.own_node.result c.args.procs.now c.args.changes.now c.args.slots.now c.args.q.now c.args.places.now c.args.values.now c.args.node c.in_ok-own.own c.as_slice.result.now c.in_ok-front.front c.row.result.now
    c.as_slice.ensures c.in_ok-own.ensures c.row.ensures c.in_ok-front.ensures c.own_node.ensures
