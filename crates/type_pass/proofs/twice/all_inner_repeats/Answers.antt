use Rattle.std.proofs.Common.{◌∙◌, ap}
use Rattle.type_pass.specs.Faults.{earlier}
use Rattle.type_pass.specs.Passes.{inner_repeats}
use Rattle.type_pass.proofs.SpaceLaws.{faults-further}
use Rattle.type_pass.proofs.twice.all_inner_repeats.Goals as goal

pub loop-decl-preserved : goal.loop-decl-preserved
loop-decl-preserved c =
    faults-further inner_repeats c.args.ast.now.decls c.as_slice-decl-items.result.now c.loop-decl.decl-index c.decl-item.result c.loop-decl.found c.earlier-found.result _
    c.as_slice-decl-items.ensures c.loop-decl-test.true c.decl-item.is (c.earlier-found.ensures ∙ ap (earlier c.loop-decl.found) c.in_ok-more.ensures) c.loop-decl.invariant
