use Rattle.type_pass.specs.Commands.{target_faults}
use Rattle.type_pass.proofs.CommandLaws.{flat-turn}
use Rattle.type_pass.proofs.commands.targets_fault.Goals as goal

pub loop-target-preserved : goal.loop-target-preserved
loop-target-preserved c =
    flat-turn (target_faults c.args.known.now c.args.scope.now) c.args.targets.now c.loop-target.target-index c.target-item.result c.loop-target.so_far c.target_fault-so_far.result _
    c.loop-target-test.true c.target-item.is c.target_fault-so_far.ensures c.loop-target.invariant
