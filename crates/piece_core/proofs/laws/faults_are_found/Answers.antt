use Rattle.piece_core.proofs.Journal.{in_shape}
use Rattle.piece_core.proofs.laws.faults_are_found.Goals as goal

pub returns : goal.returns
returns c = in_shape
