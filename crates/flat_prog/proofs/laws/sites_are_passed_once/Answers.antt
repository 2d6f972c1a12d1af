use Rattle.flat_prog.proofs.Once.{once}
use Rattle.flat_prog.proofs.laws.sites_are_passed_once.Goals as goal

pub returns : goal.returns
returns c = once
