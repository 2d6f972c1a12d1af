use Rattle.hydra_words.proofs.FaultsFirst.{faults_first}
use Rattle.hydra_words.proofs.laws.faults_are_first.Goals as goal

pub returns : goal.returns
returns c = faults_first
