use Rattle.std.proofs.Common.{sym}
use Rattle.tree_query.proofs.Differing.{none_index}
use Rattle.tree_query.proofs.allowing.term_of.Goals as goal

pub returns-in-None : goal.returns-in-None
returns-in-None c = none_index c.args.consts.now c.args.number (sym c.in-None.ensures)
