use Rattle.type_pass.specs.Commands.{sort_of_target}
use Rattle.type_pass.proofs.CommandLaws.{values-turn}
use Rattle.type_pass.proofs.commands.assigned_fault.Goals as goal

pub loop-number-preserved : goal.loop-number-preserved
loop-number-preserved c =
    values-turn (sort_of_target c.args.known.now c.args.scope.now) c.args.targets.now c.args.known.now c.args.scope.now c.args.values.now c.loop-number.number c.index-values-number.result c.target_sort_at-wanted.result c.loop-number.so_far c.value_fault-so_far.result _
    c.target_sort_at-wanted.ensures c.loop-number-test.true c.index-values-number.is c.value_fault-so_far.ensures c.loop-number.invariant
