use Rattle.bpl_type.proofs.ProgramFits.{checked-fits}
use Rattle.bpl_type.proofs.laws.checked_programs_are_typed.Goals as goal

pub returns : goal.returns
returns c = checked-fits
