use Rattle.std.proofs.Common.{rules}
use Rattle.proc_template.proofs.Lookups.{no_index}
use Rattle.proc_template.proofs.track.node_of.Goals as goal

pub returns-in-None : goal.returns-in-None
returns-in-None c = search (rules, no_index)
