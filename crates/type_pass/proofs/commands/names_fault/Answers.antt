use Rattle.std.proofs.Common.{ap, ◌∙◌}
use Rattle.type_pass.specs.Commands.{name_faults, seen_faults}
use Rattle.type_pass.specs.Faults.{earlier, first}
use Rattle.type_pass.specs.Scopes.{find_name}
use Rattle.type_pass.proofs.CommandLaws.{flat-turn}
use Rattle.type_pass.proofs.commands.names_fault.Goals as goal

pub loop-name-preserved : goal.loop-name-preserved
loop-name-preserved c =
    flat-turn (name_faults c.args.known.now c.args.scope.now) c.args.names.now c.loop-name.name-index c.name-item.result c.loop-name.so_far c.seen_fault-so_far.result _
    c.loop-name-test.true c.name-item.is
    (c.seen_fault-so_far.ensures ∙ ap (λ o. earlier c.loop-name.so_far (first (seen_faults c.args.scope.now c.name-item.result.at o))) (c.find-seen.ensures ∙ ap (find_name c.args.known.now c.args.scope.now) c.as_slice.ensures))
    c.loop-name.invariant
