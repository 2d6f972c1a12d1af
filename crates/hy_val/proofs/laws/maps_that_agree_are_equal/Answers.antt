use Rattle.hy_val.proofs.Tables.{maps_agree}
use Rattle.hy_val.proofs.laws.maps_that_agree_are_equal.Goals as goal

pub returns : goal.returns
returns c = maps_agree
