use Rattle.std.proofs.Common.{◌∙◌}
use Rattle.type_pass.proofs.SpaceLaws.{list-done}
use Rattle.type_pass.proofs.UsedNumbers.{function_piece, graph-is}
use Rattle.type_pass.proofs.uses.use_graph.Goals as goal

pub returns : goal.returns
returns c =
    list-done (function_piece c.args.numbers.now) c.args.ast.now.decls c.as_slice-decl-items.result.now c.loop-decl.decl-index c.loop-decl.graph.items _ c.as_slice-decl-items.ensures c.loop-decl-test.false c.loop-decl.invariant
    ∙ graph-is c.args.ast.now c.args.numbers.now c.requires
