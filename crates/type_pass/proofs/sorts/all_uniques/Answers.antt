use Rattle.std.proofs.Common.{◌∙◌, ap}
use Rattle.type_pass.specs.Faults.{earlier}
use Rattle.type_pass.specs.Passes.{unique_faults}
use Rattle.type_pass.proofs.SpaceLaws.{faults-further}
use Rattle.type_pass.proofs.sorts.all_uniques.Goals as goal

pub loop-decl-preserved : goal.loop-decl-preserved
loop-decl-preserved c =
    faults-further (unique_faults c.args.types.now) c.args.ast.now.decls c.as_slice-decl-items.result.now c.loop-decl.decl-index c.decl-item.result c.loop-decl.found c.earlier-found.result _
    c.as_slice-decl-items.ensures c.loop-decl-test.true c.decl-item.is (c.earlier-found.ensures ∙ ap (earlier c.loop-decl.found) c.unique_fault.ensures) c.loop-decl.invariant
