use Rattle.std.proofs.Common.{refl, ◌∙◌, ap}
use Rattle.std.specs.Prelude.{flat_map}
use Rattle.type_pass.specs.Faults.{earlier, first}
use Rattle.type_pass.specs.Passes.{modifies_faults}
use Rattle.type_pass.proofs.SpaceLaws.{faults-further}
use Rattle.type_pass.proofs.heads.specs_fault.Goals as goal

pub loop-spec-preserved : goal.loop-spec-preserved
loop-spec-preserved c =
    faults-further (λ s. flat_map (modifies_faults c.args.known.now) s.names) c.args.specs.now c.args.specs.now c.loop-spec.spec-index c.spec-item.result c.loop-spec.found c.earlier-found.result _
    refl c.loop-spec-test.true c.spec-item.is (c.earlier-found.ensures ∙ ap (earlier c.loop-spec.found) (c.names_fault.ensures ∙ ap (λ ns. first (flat_map (modifies_faults c.args.known.now) ns)) c.as_slice.ensures)) c.loop-spec.invariant
