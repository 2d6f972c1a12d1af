use Rattle.hy_val.proofs.Lawful.{write_at_one}
use Rattle.hy_val.proofs.laws.stores_write_at_one.Goals as goal

pub returns : goal.returns
returns c = write_at_one
