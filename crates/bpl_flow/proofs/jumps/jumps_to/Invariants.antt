use Rattle.std.proofs.Common.{◌≡◌, map, take}
use Rattle.bpl_flow.specs.Walk.{jump_of}
use Rattle.bpl_flow.proofs.jumps.jumps_to.Given as goal

abbrev pub invariant-loop-name : goal.invariant-loop-name
invariant-loop-name l = l.jumps ≡ map (jump_of l.around l.places) (take l.name-index l.names)
