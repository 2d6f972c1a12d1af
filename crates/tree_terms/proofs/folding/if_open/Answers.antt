use Rattle.tree_terms.proofs.Growth.{formula_sorts}
use Rattle.tree_terms.proofs.Truths.{if_either}
use Rattle.tree_terms.proofs.folding.if_open.Goals as goal

pub returns-then-yes-no : goal.returns-then-yes-no
returns-then-yes-no c = if_either c.args.terms.now.nodes c.args.cond c.args.yes c.args.no (formula_sorts c.args.terms.now c.nodes-nodes.ensures.kept) c.requires c.if-yes-no.true
