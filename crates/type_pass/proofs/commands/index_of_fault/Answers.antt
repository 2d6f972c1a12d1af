use Rattle.std.proofs.Common.{[], ◌∷◌, None, ap, ◌∙◌}
use Rattle.hy_val.specs.declared.sort.Sort.{Sort}
use Rattle.type_pass.specs.declared.fault.TypeKind.TheVariants.{Mismatch}
use Rattle.type_pass.specs.Commands.{value_faults, index_of_faults}
use Rattle.type_pass.specs.ExprSorts.{part}
use Rattle.type_pass.specs.Faults.{earlier, fault, first}
use Rattle.type_pass.proofs.CommandLaws.{two-steps}
use Rattle.type_pass.proofs.commands.index_of_fault.Goals as goal

pub returns-in-Scalar : goal.returns-in-Scalar
returns-in-Scalar c =
    let index = part c.args.known.now c.args.scope.now c.args.index.now in
    two-steps c.args.found c.told-so_far.result c.value_fault.result (fault c.args.at Mismatch ∷ []) (value_faults None index) c.told-so_far.ensures c.value_fault.ensures
    ∙ ap (λ (v : Sort). earlier c.args.found (first (index_of_faults c.args.at v index))) c.in-Scalar.ensures
