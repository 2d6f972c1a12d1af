use Rattle.std.proofs.Common.{length}
use Rattle.tree_terms.proofs.Going.{keeps_not, left_less, lt_unless, ready_done, ready_stays}
use Rattle.tree_terms.specs.Tables.{row}
use Rattle.tree_terms.specs.Linked.{nodes_of}
use Rattle.tree_terms.proofs.copying.finish.Goals as goal

pub turns-init : goal.turns-init
turns-init c = record {
  kept = keeps_not c.args.q.now c.args.terms.now.nodes c.args.places.now;
  tree = c.requires.within;
  ready = ready_done c.args.q.now c.requires.state.0 c.args.places.now c.args.node c.requires.state.1 c.requires.done c.requires.within;
}

pub next_of-at-requires-clause-go : goal.next_of-at-requires-clause-go
next_of-at-requires-clause-go c = record {
  tree = c.requires.within;
  more = lt_unless (length (row c.turns.places c.args.node)) (length (nodes_of c.args.q.now c.args.node)) c.turns-test.ensures.1;
  ready = ready_stays c.args.q.now c.args.places.now c.turns.places c.args.node c.turns.invariant.kept.longer
      (ready_done c.args.q.now c.requires.state.0 c.args.places.now c.args.node c.requires.state.1 c.requires.done c.requires.within);
}

pub turns-smaller : goal.turns-smaller
turns-smaller c =
    left_less c.args.q.now c.turns.places c.turn.new.places c.next_of-at.result c.in_ok-turn.ensures.term c.in_ok-turn.ensures.pushed c.next_of-at.ensures.go.more (length c.args.q.now.tree) c.next_of-at.ensures.go.tree
