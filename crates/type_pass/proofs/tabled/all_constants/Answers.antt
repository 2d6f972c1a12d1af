use Rattle.std.proofs.Common.{◌∙◌}
use Rattle.type_pass.proofs.SpaceLaws.{list-done}
use Rattle.type_pass.proofs.TableLaws.{constant_piece, all-constants}
use Rattle.type_pass.proofs.tabled.all_constants.Goals as goal

pub returns : goal.returns
returns c =
    list-done (constant_piece c.args.types.now) c.args.ast.now.decls c.as_slice-decl-items.result.now c.loop-decl.decl-index c.loop-decl.named _ c.as_slice-decl-items.ensures c.loop-decl-test.false c.loop-decl.invariant
    ∙ all-constants c.args.types.now c.args.ast.now
