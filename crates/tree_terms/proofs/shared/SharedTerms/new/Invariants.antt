use Rattle.indexmap.specs.IndexMap.{get}
use Rattle.tree_terms.specs.Shared.{same_node, AreFound}
use Rattle.tree_terms.proofs.shared.SharedTerms.new.Given as goal

abbrev pub invariant-loop-number : goal.invariant-loop-number
invariant-loop-number l = AreFound l.terms-inside.nodes (get same_node l.numbers)
