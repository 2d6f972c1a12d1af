use Rattle.std.proofs.Common.{◌-◌, length}
use Rattle.loop_nest.specs.Walks.{Walking}
use Rattle.loop_nest.proofs.walk.find_rest.Given as goal

abbrev pub invariant-loop-passed : goal.invariant-loop-passed
invariant-loop-passed l = Walking l.blocks l.passed l.walk.found.items l.walk.seen.items

abbrev pub decreases-loop-passed : goal.decreases-loop-passed
decreases-loop-passed l = length l.blocks - l.passed
