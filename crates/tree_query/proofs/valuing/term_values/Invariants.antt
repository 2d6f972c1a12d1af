use Rattle.hy_term.specs.Variables.{numbers, of_list}
use Rattle.tree_query.proofs.Evaluating.{Evaluates}
use Rattle.tree_query.proofs.valuing.term_values.Given as goal

-- the values so far are those of the nodes so far
abbrev pub invariant-loop-node : goal.invariant-loop-node
invariant-loop-node l = Evaluates (of_list (numbers l.terms.nodes) l.model) l.nodes l.values l.node-index
