use Rattle.flat_prog.proofs.Capping.{caps_are}
use Rattle.flat_prog.proofs.laws.caps_of_paths_are_of_trees.Goals as goal

pub returns : goal.returns
returns c = caps_are
