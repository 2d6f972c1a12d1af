use Rattle.std.proofs.Common.{◌≡◌, drop}
use Rattle.bpl_flow.specs.Flow.{is_enclosed}
use Rattle.bpl_flow.proofs.faults.are_around.Given as goal

abbrev pub invariant-loop-one : goal.invariant-loop-one
invariant-loop-one l = is_enclosed (drop l.one-index l.loops) l.around ≡ is_enclosed l.loops l.around
