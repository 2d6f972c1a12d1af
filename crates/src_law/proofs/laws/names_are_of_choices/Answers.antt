use Rattle.src_law.proofs.Named.{names_are_of_choices as law}
use Rattle.src_law.proofs.laws.names_are_of_choices.Goals as goal

pub returns : goal.returns
returns c = law
