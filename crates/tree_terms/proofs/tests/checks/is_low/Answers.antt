use Rattle.std.proofs.Common.{◌≤◌, length, ap, arith}
use Rattle.std.proofs.lemmas.Bool.Decides.{nat_tests}
use Rattle.tree_terms.proofs.Growth.{below_more}
use Rattle.tree_terms.proofs.tests.checks.is_low.Goals as goal

pub returns-in-Some : goal.returns-in-Some
returns-in-Some c = λ h.
    let count = ap length c.nodes.ensures.value in
    let le : c.in-Some.next ≤ length c.nodes.result.now = grind (arith, nat_tests, h) in
    below_more c.in-Some.next (length c.args.terms.now.nodes) c.args.terms.now.nodes (omega (arith, le, count)) c.in-Some.ensures.above
