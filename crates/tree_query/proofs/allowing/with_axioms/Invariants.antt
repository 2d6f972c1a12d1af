use Rattle.std.proofs.Common.{◌&&◌, drop}
use Rattle.tree_terms.specs.Rules.{bit}
use Rattle.tree_query.proofs.Conjoining.{Conjoins}
use Rattle.tree_query.proofs.Distinct.{are_true}
use Rattle.tree_query.proofs.allowing.with_axioms.Given as goal

-- the bool so far, and that the axioms that are left hold, are the whole
abbrev pub invariant-loop-claim : goal.invariant-loop-claim
invariant-loop-claim l =
    Conjoins l.fn.terms.nodes l.terms.nodes (are_true l.fn.terms.nodes l.consts (drop l.claim-index l.axioms))
    (λ a. bit a l.fn.terms.nodes l.all && are_true l.fn.terms.nodes l.consts l.axioms a) l.node
