use Rattle.std.proofs.Common.{◌≡◌, map, take}
use Rattle.loop_extract.specs.Ascents.{head_in}
use Rattle.loop_extract.specs.Plans.{spans_in}
use Rattle.loop_extract.proofs.inside.spans_in.Given as goal

abbrev pub invariant-loop-head : goal.invariant-loop-head
invariant-loop-head l = record {
  spans : l.spans ≡ spans_in l.scope (take l.head-index l.among);
  numbers : l.numbers ≡ map head_in l.spans;
}
