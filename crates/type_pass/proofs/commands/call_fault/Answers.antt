use Rattle.std.proofs.Common.{◌≡◌, map, ap, ◌∙◌}
use Rattle.std.specs.Prelude.{flat_map}
use Rattle.type_pass.specs.Commands.{name_faults, called_faults}
use Rattle.type_pass.specs.ExprSorts.{part}
use Rattle.type_pass.specs.Faults.{earlier, first}
use Rattle.type_pass.specs.Names.{repeats}
use Rattle.type_pass.specs.Scopes.{procedure_named}
use Rattle.type_pass.proofs.CommandLaws.{three-steps}
use Rattle.type_pass.proofs.commands.call_fault.Goals as goal

pub returns : goal.returns
returns c =
    let p = c.args.procedure.now in
    let twice : c.in_ok-twice.twice ≡ first (repeats c.args.outs.now) = c.in_ok-twice.ensures ∙ ap (λ ns. first (repeats ns)) (ap (map (λ n. n.now)) c.as_slice.ensures.value ∙ c.in_ok-refs.ensures) in
    three-steps c.args.found c.names_fault-named.result c.earlier-so_far.result c.called_fault.result
    (flat_map (name_faults c.args.known.now c.args.scope.now) c.args.outs.now) (repeats c.args.outs.now) (called_faults c.args.known.now c.args.scope.now p.at (procedure_named c.args.known.now p.text) c.args.outs.now (map (part c.args.known.now c.args.scope.now) c.args.arguments.now))
    c.names_fault-named.ensures (c.earlier-so_far.ensures ∙ ap (earlier c.names_fault-named.result) twice) c.called_fault.ensures
