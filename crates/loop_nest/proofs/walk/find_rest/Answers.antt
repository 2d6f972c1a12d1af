use Rattle.std.proofs.Common.{◌<◌, ◌≤◌, length, ◌∙◌, arith}
use Rattle.std.proofs.lemmas.List.{get_or_default}
use Rattle.loop_nest.proofs.WalkLaws.{walking-more, walked}
use Rattle.loop_nest.proofs.walk.find_rest.Goals as goal

pub loop-passed-preserved : goal.loop-passed-preserved
loop-passed-preserved c =
    let lt : c.loop-passed.passed < length c.loop-passed.walk.found.items = omega (arith, c.loop-passed.walk.found.ok.0) in
    walking-more c.args.blocks.now c.loop-passed.passed c.index-from.result.now c.loop-passed.walk.found.items c.find_targets.new.walk.found.items c.loop-passed.walk.seen.items c.find_targets.new.walk.seen.items
    lt (c.index-from.ensures ∙ get_or_default c.loop-passed.walk.found.items c.loop-passed.passed c.index-from.result.now 0 lt) c.loop-passed.invariant c.in_ok-find_targets.ensures

pub returns : goal.returns
returns c =
    let past : length c.loop-passed.walk.found.items ≤ c.loop-passed.passed = omega (arith, c.loop-passed.walk.found.ok.0) in
    walked c.args.blocks.now c.loop-passed.passed c.loop-passed.walk.found.items c.loop-passed.walk.seen.items past c.loop-passed.invariant
