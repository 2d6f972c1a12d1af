use Rattle.type_pass.specs.Commands.{condition_faults}
use Rattle.type_pass.proofs.CommandLaws.{flat-turn}
use Rattle.type_pass.proofs.commands.invariants_fault.Goals as goal

pub loop-invariant-preserved : goal.loop-invariant-preserved
loop-invariant-preserved c =
    flat-turn (λ i. condition_faults c.args.known.now c.args.scope.now i.condition) c.args.invariants.now c.loop-invariant.invariant-index c.invariant-item.result c.loop-invariant.so_far c.condition_fault-so_far.result _
    c.loop-invariant-test.true c.invariant-item.is c.condition_fault-so_far.ensures c.loop-invariant.invariant
