use Rattle.std.proofs.Common.{◌≡◌, ap, ◌∙◌}
use Rattle.std.specs.Option.{option_map}
use Rattle.type_pass.specs.Commands.{name_faults, seen_faults, index_faults}
use Rattle.type_pass.specs.ExprSorts.{part}
use Rattle.type_pass.specs.Faults.{earlier, first}
use Rattle.type_pass.specs.Scopes.{find_name}
use Rattle.type_pass.proofs.CommandLaws.{two-steps}
use Rattle.type_pass.proofs.commands.target_fault.Goals as goal

pub returns : goal.returns
returns c =
    let name = c.args.target.now.name in
    let seen : c.find-seen.result ≡ find_name c.args.known.now c.args.scope.now name.text = c.find-seen.ensures ∙ ap (find_name c.args.known.now c.args.scope.now) c.as_slice.ensures in
    two-steps c.args.found c.seen_fault-so_far.result c.index_fault.result (name_faults c.args.known.now c.args.scope.now name) (index_faults name.at (find_name c.args.known.now c.args.scope.now name.text) (option_map (part c.args.known.now c.args.scope.now) c.args.target.now.index))
    (c.seen_fault-so_far.ensures ∙ ap (λ o. earlier c.args.found (first (seen_faults c.args.scope.now name.at o))) seen)
    (c.index_fault.ensures ∙ ap (λ o. earlier c.seen_fault-so_far.result (first (index_faults name.at o (option_map (part c.args.known.now c.args.scope.now) c.args.target.now.index)))) seen)
