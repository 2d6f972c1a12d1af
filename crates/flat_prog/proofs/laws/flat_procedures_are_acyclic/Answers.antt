use Rattle.flat_prog.proofs.Acyclic.{acyclic_is}
use Rattle.flat_prog.proofs.laws.flat_procedures_are_acyclic.Goals as goal

pub returns : goal.returns
returns c = acyclic_is
