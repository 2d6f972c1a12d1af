use Rattle.src_law.proofs.Bad.{bad_choices_are_first as are_first}
use Rattle.src_law.proofs.laws.bad_choices_are_first.Goals as goal

pub returns : goal.returns
returns c = are_first
