use Rattle.std.proofs.Common.{◌≡◌, map, take}
use Rattle.bpl_flow.specs.Flow.{target}
use Rattle.bpl_flow.proofs.blocks.target_blocks.Given as goal

abbrev pub invariant-loop-aim : goal.invariant-loop-aim
invariant-loop-aim l = l.targets ≡ map (target l.places l.exits) (take l.aim-index l.aims)
