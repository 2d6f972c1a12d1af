use Rattle.std.proofs.Common.{◌≡◌, ◌<◌, List, length, get_or, subst, ap, ◌∙◌, arith}
use Rattle.std.specs.Prelude.{slice_get}
use Rattle.bpl_ast.specs.declared.decl.Decl.{Decl}
use Rattle.type_pass.specs.declared.tables.Signature.{Signature}
use Rattle.type_pass.specs.Declarations.{synonyms}
use Rattle.type_pass.specs.Passes.{command_faults}
use Rattle.type_pass.proofs.BodyLaws.{decl-is, decls-further}
use Rattle.type_pass.proofs.CommandLaws.{flat-turn}
use Rattle.type_pass.proofs.bodies.commands_fault.Goals as goal

pub loop-decl-preserved : goal.loop-decl-preserved
loop-decl-preserved c =
    let ast = c.args.ast.now in
    let i = c.loop-decl.decl-index in
    let d = c.decl-item.result in
    let within : i < length ast.decls = subst (λ (ds : List Decl). i < length ds) c.as_slice-decl-items.ensures c.loop-decl-test.true in
    let is : d ≡ get_or ast.decls i d = subst (λ (ds : List Decl). d ≡ get_or ds i d) c.as_slice-decl-items.ensures c.decl-item.is in
    record {
      found = flat-turn (command_faults ast) ast.decls i d c.loop-decl.so_far c.in_ok-so_far.so_far _ within is
          (decl-is ast c.args.known.now c.args.types.now i d c.loop-decl.number _ c.loop-decl.so_far c.in_ok-so_far.so_far c.requires.tables c.requires.types within is c.loop-decl.invariant.functions
          (c.at.ensures ∙ ap (λ (fs : List Signature). slice_get fs c.loop-decl.number) c.functions-functions.ensures) c.in_ok-so_far.ensures)
          c.loop-decl.invariant.found;
      functions = decls-further (synonyms ast) ast.decls i d c.args.known.now.functions c.loop-decl.number c.functions_in-number.result within is c.functions_in-number.ensures.value c.loop-decl.invariant.functions;
      within = omega (arith, c.functions_in-number.ensures.one, c.loop-decl.invariant.within);
    }
