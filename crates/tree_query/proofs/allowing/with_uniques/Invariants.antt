use Rattle.std.proofs.Common.{◌&&◌, drop}
use Rattle.tree_terms.specs.Rules.{bit}
use Rattle.tree_query.proofs.Conjoining.{Conjoins}
use Rattle.tree_query.proofs.Distinct.{are_different}
use Rattle.tree_query.proofs.allowing.with_uniques.Given as goal

-- the bool so far, and that the constants that are left differ, are the whole
abbrev pub invariant-loop-index : goal.invariant-loop-index
invariant-loop-index l =
    Conjoins l.fn.terms.nodes l.terms.nodes (are_different l.fn.terms.nodes l.consts (drop l.index l.uniques))
    (λ a. bit a l.fn.terms.nodes l.all && are_different l.fn.terms.nodes l.consts l.uniques a) l.node
