use Rattle.tree_terms.specs.Reach.{ReachTo}
use Rattle.tree_terms.proofs.reach.reaches.Given as goal

abbrev pub invariant-loop : goal.invariant-loop
invariant-loop l = ReachTo l.q l.places l.fn.terms.nodes l.terms.nodes l.reach.items l.counter
