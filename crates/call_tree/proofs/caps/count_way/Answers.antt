use Rattle.std.proofs.Common.{arith, ap, slice_index_or}
use Rattle.call_tree.specs.declared.caps.Tally.{Tally}
use Rattle.call_tree.proofs.Capping.{same_index}
use Rattle.call_tree.proofs.Ways.{times_on_way, row_on_way, count_next}
use Rattle.call_tree.proofs.caps.count_way.Goals as goal

pub counted-tally-requires-clause-times : goal.counted-tally-requires-clause-times
counted-tally-requires-clause-times c =
    let most = times_on_way c.args.proc c.loop-other.other-index c.args.way.now in
    let is = ap (λ (t : Tally). t.times) c.loop-other.invariant in
    let below = c.loop-other-test.true in
    let room = c.requires in
    omega arith

pub counted-tally-requires-clause-row : goal.counted-tally-requires-clause-row
counted-tally-requires-clause-row c =
    let most = row_on_way c.args.proc c.loop-other.other-index c.args.way.now in
    let is = ap (λ (t : Tally). t.row) c.loop-other.invariant in
    let below = c.loop-other-test.true in
    let room = c.requires in
    omega arith

pub loop-other-preserved : goal.loop-other-preserved
loop-other-preserved c =
    count_next c.args.proc c.args.way.now c.loop-other.other-index (slice_index_or c.args.way.now c.loop-other.other-index 0) c.loop-other.tally c.counted-tally.result c.loop-other-test.true
    (same_index c.args.way.now c.loop-other.other-index 0 c.loop-other-test.true) c.loop-other.invariant c.counted-tally.ensures
