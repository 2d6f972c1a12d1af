use Rattle.flat_prog.proofs.NodeRuns.{nodes_are_runs}
use Rattle.flat_prog.proofs.laws.nodes_are_runs.Goals as goal

pub returns : goal.returns
returns c = nodes_are_runs
