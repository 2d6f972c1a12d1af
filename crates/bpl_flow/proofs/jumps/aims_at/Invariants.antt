use Rattle.std.proofs.Common.{◌≡◌, map, take}
use Rattle.bpl_flow.specs.declared.state.Aim.TheVariants.{Label}
use Rattle.bpl_flow.proofs.jumps.aims_at.Given as goal

abbrev pub invariant-loop-target : goal.invariant-loop-target
invariant-loop-target l = l.aims ≡ map (λ n. Label n.text) (take l.target-index l.names)
