use Rattle.std.proofs.Common.{◌∙◌, ap}
use Rattle.std.specs.Prelude.{flat_map}
use Rattle.type_pass.specs.Declarations.{result_sort}
use Rattle.type_pass.specs.Faults.{earlier, first}
use Rattle.type_pass.specs.Sorts.{sort_faults}
use Rattle.type_pass.proofs.PassLaws.{function-faults}
use Rattle.type_pass.proofs.sorts.function_fault.Goals as goal

pub returns : goal.returns
returns c =
    c.earlier.ensures ∙ ap (λ o. earlier o c.fault_of.result) (c.arguments_fault-arguments.ensures ∙ ap (λ as'. first (flat_map (λ a. sort_faults c.args.types.now a.sort) as')) c.as_slice.ensures)
    ∙ ap (earlier (first (flat_map (λ a. sort_faults c.args.types.now a.sort) c.args.function.now.arguments))) (c.fault_of.ensures ∙ ap (λ s. first (sort_faults c.args.types.now s)) c.result_sort.ensures)
    ∙ function-faults c.args.types.now c.args.function.now.arguments (result_sort c.args.function.now.output)
