use Rattle.std.proofs.Common.{refl, ◌∙◌, ap}
use Rattle.std.specs.Prelude.{flat_map}
use Rattle.type_pass.specs.Faults.{earlier, first}
use Rattle.type_pass.specs.Sorts.{sort_faults}
use Rattle.type_pass.proofs.SpaceLaws.{faults-further}
use Rattle.type_pass.proofs.sorts.lines_fault.Goals as goal

pub loop-line-preserved : goal.loop-line-preserved
loop-line-preserved c =
    faults-further (λ v. flat_map (λ g. sort_faults c.args.types.now g.sort) v.groups) c.args.lines.now c.args.lines.now c.loop-line.line-index c.line-item.result c.loop-line.found c.earlier-found.result _
    refl c.loop-line-test.true c.line-item.is (c.earlier-found.ensures ∙ ap (earlier c.loop-line.found) (c.groups_fault.ensures ∙ ap (λ gs. first (flat_map (λ g. sort_faults c.args.types.now g.sort) gs)) c.as_slice.ensures)) c.loop-line.invariant
