use Rattle.bpl_type.proofs.TallyLaws.{raised}
use Rattle.bpl_type.proofs.count.raise.Goals as goal

pub returns : goal.returns
returns c =
    raised c.args.counting.now c.args.weight c.args.local c.args.tally.now.base c.slope_of-slope.result c.plus.result c.args.tally.now.slopes c.make_room.new.slopes c.as_slice.result.now c.set.new.self
    c.in_ok-make_room.ensures.same c.in_ok-make_room.ensures.room c.as_slice.ensures c.slope_of-slope.ensures c.plus.ensures c.set.ensures
