use Rattle.src_law.proofs.Named.{names_are_unique as law}
use Rattle.src_law.proofs.laws.names_are_unique.Goals as goal

pub returns : goal.returns
returns c = law
