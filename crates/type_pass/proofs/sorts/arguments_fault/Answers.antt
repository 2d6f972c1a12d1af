use Rattle.std.proofs.Common.{refl, ◌∙◌, ap}
use Rattle.type_pass.specs.Faults.{earlier}
use Rattle.type_pass.specs.Sorts.{sort_faults}
use Rattle.type_pass.proofs.SpaceLaws.{faults-further}
use Rattle.type_pass.proofs.sorts.arguments_fault.Goals as goal

pub loop-argument-preserved : goal.loop-argument-preserved
loop-argument-preserved c =
    faults-further (λ a. sort_faults c.args.types.now a.sort) c.args.arguments.now c.args.arguments.now c.loop-argument.argument-index c.argument-item.result c.loop-argument.found c.earlier-found.result _
    refl c.loop-argument-test.true c.argument-item.is (c.earlier-found.ensures ∙ ap (earlier c.loop-argument.found) c.fault_of.ensures) c.loop-argument.invariant
