use Rattle.std.proofs.Common.{sym, ◌∙◌}
use Rattle.tree_terms.proofs.Linking.{linked_by}
use Rattle.tree_terms.proofs.tests.checks.is_linked.Goals as goal

pub returns : goal.returns
returns c = λ h. linked_by c.args.q.now c.args.terms.now.nodes (sym c.in_ok-fit.ensures ∙ h)
