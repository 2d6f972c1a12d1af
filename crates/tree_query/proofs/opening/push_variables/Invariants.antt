use Rattle.std.proofs.Common.{◌≡◌}
use Rattle.tree_query.proofs.Bases.{Pushing}
use Rattle.tree_query.proofs.opening.push_variables.Given as goal

-- variables of the sorts so far stand behind the first nodes
abbrev pub invariant-loop-sort : goal.invariant-loop-sort
invariant-loop-sort l = Pushing l.fn.terms.nodes l.sorts l.terms.nodes l.numbers l.sort-index × (l.terms.root ≡ l.fn.terms.root)
