use Rattle.std.proofs.Common.{Some, ◌∙◌}
use Rattle.std.specs.Prelude.{slice_get}
use Rattle.type_pass.proofs.CommandLaws.{values-turn, sort-some}
use Rattle.type_pass.proofs.commands.arguments_fault.Goals as goal

pub loop-number-preserved : goal.loop-number-preserved
loop-number-preserved c =
    values-turn (λ s. Some s) c.args.ins.now c.args.known.now c.args.scope.now c.args.arguments.now c.loop-number.number c.index-arguments-number.result c.sort_at.result c.loop-number.so_far c.value_fault-so_far.result _
    (c.sort_at.ensures ∙ sort-some (slice_get c.args.ins.now c.loop-number.number)) c.loop-number-test.true c.index-arguments-number.is c.value_fault-so_far.ensures c.loop-number.invariant
