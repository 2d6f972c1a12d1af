use Rattle.flat_prog.proofs.Marks.{column_is, sizes_meet}
use Rattle.flat_prog.proofs.changing.column.Goals as goal

pub spread-requires : goal.spread-requires
spread-requires c = sizes_meet c.args.procs.now c.args.global c.in_ok-marks.marks c.args.callees.now c.in_ok-marks.ensures c.requires

pub returns : goal.returns
returns c = column_is c.args.procs.now c.args.global c.args.callees.now c.in_ok-marks.marks c.spread.new.marks c.requires c.in_ok-marks.ensures c.spread.ensures
