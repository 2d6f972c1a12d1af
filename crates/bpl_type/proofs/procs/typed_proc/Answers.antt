use Rattle.std.proofs.Common.{◌≡◌, None, Some, map, sym, ◌∙◌, ap, subst}
use Rattle.std.specs.Option.{option_copied}
use Rattle.std.specs.Result.{IfOk}
use Rattle.bpl_type.specs.TypedOf.{Formed, formed_proc}
use Rattle.bpl_type.proofs.ProgramMade.{implementation-faultless, form-is}
use Rattle.bpl_type.proofs.procs.typed_proc.Goals as goal

pub formed-requires-in-Some-named-clause-faultless : goal.formed-requires-in-Some-named-clause-faultless
formed-requires-in-Some-named-clause-faultless c =
    implementation-faultless c.args.program.now c.args.procedure.now c.in-Some-named.found.now (map (λ i. i.now) c.args.implementations.now.items.items) c.as_slice.result.now c.requires.implementations c.as_slice.ensures
    (sym c.named.ensures ∙ ap option_copied c.in-Some-named.is)

pub returns-in-None-named : goal.returns-in-None-named
returns-in-None-named c =
    subst (λ (f : Formed). IfOk c.formed-in-None-named.result (λ made. made ≡ formed_proc c.args.program.now.ast.now c.args.procedure.now.name.text f))
    (sym (form-is c.args.program.now.ast.now c.args.procedure.now None (map (λ i. i.now) c.args.implementations.now.items.items) c.as_slice.result.now c.in-None.is c.requires.implementations c.as_slice.ensures
    (sym c.named.ensures ∙ ap option_copied c.in-None-named.is)))
    c.formed-in-None-named.ensures

pub returns-in-Some-named : goal.returns-in-Some-named
returns-in-Some-named c =
    subst (λ (f : Formed). IfOk c.formed-in-Some-named.result (λ made. made ≡ formed_proc c.args.program.now.ast.now c.args.procedure.now.name.text f))
    (sym (form-is c.args.program.now.ast.now c.args.procedure.now (Some c.in-Some-named.found.now) (map (λ i. i.now) c.args.implementations.now.items.items) c.as_slice.result.now c.in-None.is c.requires.implementations c.as_slice.ensures
    (sym c.named.ensures ∙ ap option_copied c.in-Some-named.is)))
    c.formed-in-Some-named.ensures
