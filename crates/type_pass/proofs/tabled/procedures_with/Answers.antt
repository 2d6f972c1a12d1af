use Rattle.std.proofs.Common.{◌∙◌}
use Rattle.type_pass.proofs.SpaceLaws.{list-done}
use Rattle.type_pass.proofs.TableLaws.{procedure_piece, all-procedures}
use Rattle.type_pass.proofs.tabled.procedures_with.Goals as goal

pub returns : goal.returns
returns c =
    list-done (procedure_piece c.args.types.now c.args.implemented.now) c.args.ast.now.decls c.as_slice-decl-items.result.now c.loop-decl.decl-index c.loop-decl.headings _
    c.as_slice-decl-items.ensures c.loop-decl-test.false c.loop-decl.invariant
    ∙ all-procedures c.args.types.now c.args.implemented.now c.args.ast.now
