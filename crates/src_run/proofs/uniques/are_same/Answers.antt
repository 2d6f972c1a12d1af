use Rattle.hy_val.specs.Values.{at}
use Rattle.src_run.proofs.Takes.{same_agrees}
use Rattle.src_run.proofs.uniques.are_same.Goals as goal

pub returns : goal.returns
returns c = same_agrees c.same.result (at c.args.consts.now c.args.one) (at c.args.consts.now c.args.other) (rw (c.value_at.ensures, c.value_at-2.ensures) at c.same.ensures)
