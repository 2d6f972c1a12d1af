use Rattle.src_law.proofs.Counting.{loops_are_counted_once}
use Rattle.src_law.proofs.laws.open_loops_are_counted_once.Goals as goal

pub returns : goal.returns
returns c = loops_are_counted_once
