use Rattle.std.proofs.Common.{◌&&◌, drop}
use Rattle.tree_terms.specs.Rules.{bit}
use Rattle.tree_query.proofs.Conjoining.{Conjoins}
use Rattle.tree_query.proofs.Distinct.{differs_from}
use Rattle.tree_query.proofs.allowing.with_differences.Given as goal

-- the bool so far, and that the constant differs from the others that are left, are the whole
abbrev pub invariant-loop-other : goal.invariant-loop-other
invariant-loop-other l =
    Conjoins l.fn.terms.nodes l.terms.nodes (differs_from l.fn.terms.nodes l.consts l.one (drop l.other-index l.others))
    (λ a. bit a l.fn.terms.nodes l.all && differs_from l.fn.terms.nodes l.consts l.one l.others a) l.node
