use Rattle.std.proofs.Common.{◌≡◌, ◌++◌, drop}
use Rattle.bpl_flow.specs.Flow.{faults_of_jumps}
use Rattle.bpl_flow.proofs.faults.add_jump_faults.Given as goal

abbrev pub invariant-loop-jump : goal.invariant-loop-jump
invariant-loop-jump l = l.faults ++ faults_of_jumps l.places (drop l.jump-index l.jumps) ≡ l.initial.faults ++ faults_of_jumps l.places l.jumps
