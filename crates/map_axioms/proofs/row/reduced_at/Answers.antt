use Rattle.std.proofs.Common.{sym}
use Rattle.map_axioms.proofs.Looking.{none_is}
use Rattle.map_axioms.proofs.row.reduced_at.Goals as goal

pub returns-in-None : goal.returns-in-None
returns-in-None c = sym (none_is c.args.reds.now c.args.node 0 (sym c.in-None.ensures))
