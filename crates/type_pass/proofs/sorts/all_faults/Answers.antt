use Rattle.std.proofs.Common.{◌∙◌, ap}
use Rattle.std.specs.Prelude.{flat_map}
use Rattle.type_pass.specs.Faults.{earlier}
use Rattle.type_pass.specs.Sorts.{sort_faults}
use Rattle.type_pass.specs.Passes.{sorts_in}
use Rattle.type_pass.proofs.SpaceLaws.{faults-further}
use Rattle.type_pass.proofs.sorts.all_faults.Goals as goal

pub loop-decl-preserved : goal.loop-decl-preserved
loop-decl-preserved c =
    faults-further (λ d. flat_map (sort_faults c.args.types.now) (sorts_in d)) c.args.ast.now.decls c.as_slice-decl-items.result.now c.loop-decl.decl-index c.decl-item.result c.loop-decl.found c.earlier-found.result _
    c.as_slice-decl-items.ensures c.loop-decl-test.true c.decl-item.is (c.earlier-found.ensures ∙ ap (earlier c.loop-decl.found) c.decl_fault.ensures) c.loop-decl.invariant
