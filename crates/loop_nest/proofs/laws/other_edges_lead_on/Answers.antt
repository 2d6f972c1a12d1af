use Rattle.loop_nest.proofs.Entering.{edges-lead-on}
use Rattle.loop_nest.proofs.laws.other_edges_lead_on.Goals as goal

pub returns : goal.returns
returns c = edges-lead-on
