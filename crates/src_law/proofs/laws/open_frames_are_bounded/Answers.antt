use Rattle.src_law.proofs.Stacking.{open_frames_are_bounded as are_bounded}
use Rattle.src_law.proofs.laws.open_frames_are_bounded.Goals as goal

pub returns : goal.returns
returns c = are_bounded
