use Rattle.std.proofs.Common.{[], ◌∷◌, ap, map, ◌∙◌}
use Rattle.type_pass.specs.declared.fault.TypeKind.TheVariants.{Unknown}
use Rattle.type_pass.specs.Commands.{called_faults, values_faults}
use Rattle.type_pass.specs.ExprSorts.{part}
use Rattle.type_pass.specs.Faults.{earlier, fault, first}
use Rattle.type_pass.specs.Scopes.{procedure_named}
use Rattle.type_pass.proofs.CommandLaws.{two-steps}
use Rattle.type_pass.proofs.commands.called_fault.Goals as goal

pub returns-in-None : goal.returns-in-None
returns-in-None c =
    let parts = map (part c.args.known.now c.args.scope.now) c.args.arguments.now in
    two-steps c.args.found c.told-so_far.result c.arguments_fault.result (fault c.args.procedure.now.at Unknown ∷ []) (values_faults [] parts) c.told-so_far.ensures c.arguments_fault.ensures
    ∙ ap (λ o. earlier c.args.found (first (called_faults c.args.known.now c.args.scope.now c.args.procedure.now.at o c.args.outs.now parts))) (c.in-None.ensures ∙ ap (procedure_named c.args.known.now) c.as_slice.ensures)
