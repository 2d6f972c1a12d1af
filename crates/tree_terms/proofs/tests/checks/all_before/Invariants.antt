use Rattle.std.proofs.Common.{◌≡◌}
use Rattle.tree_terms.specs.Checks.{all_before}
use Rattle.tree_terms.proofs.tests.checks.all_before.Given as goal

abbrev pub invariant-loop-next : goal.invariant-loop-next
invariant-loop-next l = l.all ≡ all_before l.q l.callee l.node l.place l.next
