use Rattle.std.proofs.Common.{ℕ, List, None, sym, ◌∙◌, ap}
use Rattle.hy_val.specs.NodeSorts.{as_scalar}
use Rattle.type_pass.specs.Memos.{noted, number_among}
use Rattle.type_pass.specs.Sorts.{resolved_by, map_sort}
use Rattle.type_pass.proofs.SortEquations.{resolved-map}
use Rattle.type_pass.proofs.types.+resolve.Goals as goal

pub returns-in-Map : goal.returns-in-Map
returns-in-Map t c =
    let f = λ (n : List ℕ). noted None c.args.sorts.now (number_among c.args.numbers.now n) in
    c.map_sort.ensures ∙ ap (λ v. map_sort v c.as_scalar-in-Map.result) (c.as_scalar.ensures ∙ ap as_scalar (c.resolve.ensures ∙ ap (resolved_by f) c.get.ensures))
    ∙ ap (λ v. map_sort (as_scalar (resolved_by f c.in-Map.index)) v) (c.as_scalar-in-Map.ensures ∙ ap as_scalar (c.resolve-in-Map.ensures ∙ ap (resolved_by f) c.get-in-Map.ensures))
    ∙ sym (ap (resolved_by f) c.in-Map.is ∙ resolved-map f c.in-Map.at c.in-Map.index c.in-Map.elem)
