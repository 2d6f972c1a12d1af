use Rattle.std.proofs.Common.{◌≡◌, drop}
use Rattle.std.specs.List.{list_all}
use Rattle.hy_val.specs.NodeSorts.{is_sort}
use Rattle.flat_parts.proofs.procs.sorts_fit.Given as goal

abbrev pub invariant-loop-sort : goal.invariant-loop-sort
invariant-loop-sort l = list_all is_sort (drop l.sort-index l.sorts) ≡ list_all is_sort l.sorts
