use Rattle.std.proofs.Common.{◌+◌, arith}
use Rattle.bpl_type.proofs.TallyTemplates.{sizes-ok}
use Rattle.bpl_type.proofs.sizes.sizes_fault.Goals as goal

pub returns : goal.returns
returns c =
    sizes-ok c.large_decls.result c.args.limit (c.args.limit + 1) c.args.ast.now c.requires.heads c.requires.commands c.requires.circles c.in_ok-templates.templates c.as_slice-2.result.now
    c.args.known.now c.args.types.now c.as_slice-3.result.now (omega arith) c.in_ok-templates.ensures c.as_slice-2.ensures c.requires.known c.requires.types c.as_slice-3.ensures c.large_decls.ensures
