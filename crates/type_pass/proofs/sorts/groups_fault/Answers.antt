use Rattle.std.proofs.Common.{refl, ◌∙◌, ap}
use Rattle.type_pass.specs.Faults.{earlier}
use Rattle.type_pass.specs.Sorts.{sort_faults}
use Rattle.type_pass.proofs.SpaceLaws.{faults-further}
use Rattle.type_pass.proofs.sorts.groups_fault.Goals as goal

pub loop-group-preserved : goal.loop-group-preserved
loop-group-preserved c =
    faults-further (λ g. sort_faults c.args.types.now g.sort) c.args.groups.now c.args.groups.now c.loop-group.group-index c.group-item.result c.loop-group.found c.earlier-found.result _
    refl c.loop-group-test.true c.group-item.is (c.earlier-found.ensures ∙ ap (earlier c.loop-group.found) c.fault_of.ensures) c.loop-group.invariant
