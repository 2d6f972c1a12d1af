use Rattle.std.proofs.Common.{◌∙◌, ap}
use Rattle.type_pass.specs.Faults.{earlier, first}
use Rattle.type_pass.specs.Passes.{sorts_in}
use Rattle.std.specs.Prelude.{flat_map}
use Rattle.type_pass.specs.Sorts.{sort_faults}
use Rattle.type_pass.proofs.PassLaws.{sorts-told}
use Rattle.type_pass.proofs.sorts.sorts_fault.Goals as goal

pub returns : goal.returns
returns c =
    c.earlier-2.ensures ∙ ap (λ o. earlier o c.all_uniques-uniques.result) (c.earlier.ensures ∙ ap (λ o. earlier o c.in_ok-circles.circles) c.all_faults-sorts.ensures)
    ∙ ap (λ o. earlier (earlier (first (flat_map (λ d. flat_map (sort_faults c.args.types.now) (sorts_in d)) c.args.ast.now.decls)) o) c.all_uniques-uniques.result) c.in_ok-circles.ensures
    ∙ ap (earlier (earlier (first (flat_map (λ d. flat_map (sort_faults c.args.types.now) (sorts_in d)) c.args.ast.now.decls)) _)) c.all_uniques-uniques.ensures
    ∙ sorts-told c.args.ast.now c.args.types.now c.requires
