use Rattle.bpl_type.proofs.TermLaws.{are_nodes}
use Rattle.bpl_type.proofs.laws.terms_are_expressions.Goals as goal

pub returns : goal.returns
returns c = are_nodes
