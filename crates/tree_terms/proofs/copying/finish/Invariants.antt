use Rattle.std.proofs.Common.{length}
use Rattle.tree_terms.specs.Copying.{IsFinishing, left_of}
use Rattle.tree_terms.proofs.copying.finish.Given as goal

abbrev pub invariant-turns : goal.invariant-turns
invariant-turns l = IsFinishing l.q l.fn.terms.nodes l.terms.nodes l.fn.places l.places l.at

abbrev pub decreases-turns : goal.decreases-turns
decreases-turns l = left_of l.q l.places (length l.q.tree)
