use Rattle.std.proofs.Common.{◌≡◌, None, drop}
use Rattle.bpl_flow.specs.Walk.{left_by}
use Rattle.bpl_flow.proofs.jumps.innermost.Given as goal

abbrev pub invariant-loop-outer : goal.invariant-loop-outer
invariant-loop-outer l = left_by l.label l.found (drop l.outer-index l.around) ≡ left_by l.label None l.around
