use Rattle.std.proofs.Common.{◌≡◌, ◌++◌, drop}
use Rattle.bpl_flow.specs.Walk.{loops_of}
use Rattle.bpl_flow.proofs.jumps.loops_among.Given as goal

abbrev pub invariant-loop-outer : goal.invariant-loop-outer
invariant-loop-outer l = l.loops ++ loops_of (drop l.outer-index l.around) ≡ loops_of l.around
