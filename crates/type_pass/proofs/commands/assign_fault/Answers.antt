use Rattle.std.proofs.Common.{◌≡◌, length, map, ap, ◌∙◌}
use Rattle.std.specs.Prelude.{flat_map}
use Rattle.type_pass.specs.declared.fault.TypeKind.TheVariants.{Arity}
use Rattle.type_pass.specs.Commands.{differ, target_faults, sort_of_target, values_faults}
use Rattle.type_pass.specs.ExprSorts.{part}
use Rattle.type_pass.specs.Faults.{earlier, first, told}
use Rattle.type_pass.specs.Names.{repeats}
use Rattle.type_pass.proofs.CommandLaws.{four-steps}
use Rattle.type_pass.proofs.commands.assign_fault.Goals as goal

pub returns : goal.returns
returns c =
    let ts = c.args.targets.now in
    let twice : c.in_ok-twice.twice ≡ first (repeats (map (λ t. t.name) ts)) = c.in_ok-twice.ensures ∙ ap (λ ns. first (repeats ns)) (ap (map (λ n. n.now)) c.as_slice.ensures.value ∙ c.in_ok-names.ensures) in
    four-steps c.args.found c.told_if-counted.result c.targets_fault-named.result c.earlier-so_far.result c.assigned_fault.result
    (told (differ (length ts) (length c.args.values.now)) c.args.at Arity) (flat_map (target_faults c.args.known.now c.args.scope.now) ts) (repeats (map (λ t. t.name) ts)) (values_faults (map (sort_of_target c.args.known.now c.args.scope.now) ts) (map (part c.args.known.now c.args.scope.now) c.args.values.now))
    (c.told_if-counted.ensures ∙ ap (λ b. earlier c.args.found (first (told b c.args.at Arity))) c.differ.ensures)
    c.targets_fault-named.ensures (c.earlier-so_far.ensures ∙ ap (earlier c.targets_fault-named.result) twice) c.assigned_fault.ensures
