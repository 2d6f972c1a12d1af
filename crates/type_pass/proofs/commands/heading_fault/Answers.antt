use Rattle.std.proofs.Common.{◌≡◌, ◌||◌, Some, length, map, not, ap, sym, ◌∙◌}
use Rattle.std.proofs.lemmas.List.{length-map}
use Rattle.bpl_ast.specs.declared.word.Word.TheVariants.{NoBody}
use Rattle.type_pass.specs.declared.fault.TypeKind.TheVariants.{Arity, LeftOut}
use Rattle.type_pass.specs.Commands.{differ, outs_faults, values_faults}
use Rattle.type_pass.specs.ExprSorts.{part}
use Rattle.type_pass.specs.Faults.{earlier, first, told}
use Rattle.type_pass.proofs.CommandLaws.{four-steps}
use Rattle.type_pass.proofs.commands.heading_fault.Goals as goal

pub returns : goal.returns
returns c =
    let p = c.args.heading.now in
    let parts = map (part c.args.known.now c.args.scope.now) c.args.arguments.now in
    let counts : c.counts_differ-differs.result ≡ (differ (length p.ins) (length parts) || differ (length p.outs) (length c.args.outs.now)) =
    c.counts_differ-differs.ensures ∙ ap (λ n. differ (length p.ins) n || differ (length p.outs) (length c.args.outs.now)) (sym (length-map c.args.arguments.now (part c.args.known.now c.args.scope.now))) in
    four-steps c.args.found c.told_if-counted.result c.told_if-formed.result c.outs_fault-taken.result c.arguments_fault.result
    (told (differ (length p.ins) (length parts) || differ (length p.outs) (length c.args.outs.now)) c.args.at Arity) (told (not p.has_body) c.args.at (LeftOut NoBody)) (outs_faults c.args.known.now c.args.scope.now p.outs c.args.outs.now) (values_faults (map (λ s. Some s) p.ins) parts)
    (c.told_if-counted.ensures ∙ ap (λ b. earlier c.args.found (first (told b c.args.at Arity))) counts)
    c.told_if-formed.ensures
    (c.outs_fault-taken.ensures ∙ ap (λ ss. earlier c.told_if-formed.result (first (outs_faults c.args.known.now c.args.scope.now ss c.args.outs.now))) c.as_slice.ensures)
    (c.arguments_fault.ensures ∙ ap (λ ss. earlier c.outs_fault-taken.result (first (values_faults (map (λ s. Some s) ss) parts))) c.as_slice-2.ensures)
