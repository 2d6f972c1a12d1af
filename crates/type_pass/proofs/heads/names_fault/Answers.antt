use Rattle.std.proofs.Common.{refl, ◌∙◌, ap}
use Rattle.type_pass.specs.Faults.{earlier}
use Rattle.type_pass.specs.Passes.{modifies_faults}
use Rattle.type_pass.proofs.SpaceLaws.{faults-further}
use Rattle.type_pass.proofs.heads.names_fault.Goals as goal

pub loop-name-preserved : goal.loop-name-preserved
loop-name-preserved c =
    faults-further (modifies_faults c.args.known.now) c.args.names.now c.args.names.now c.loop-name.name-index c.name-item.result c.loop-name.found c.earlier-found.result _
    refl c.loop-name-test.true c.name-item.is (c.earlier-found.ensures ∙ ap (earlier c.loop-name.found) c.name_fault.ensures) c.loop-name.invariant
