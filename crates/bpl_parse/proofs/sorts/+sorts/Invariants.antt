use Rattle.std.proofs.Common.{◌+◌, ◌*◌}
use Rattle.bpl_parse.proofs.sorts.+sorts.Given as goal

abbrev pub decreases-inside_map : goal.decreases-inside_map
decreases-inside_map l = 4 * l.depth + 0

abbrev pub decreases-inside_group : goal.decreases-inside_group
decreases-inside_group l = 4 * l.depth + 0

abbrev pub decreases-map_sort : goal.decreases-map_sort
decreases-map_sort l = 4 * l.depth + 1

abbrev pub decreases-sort_group : goal.decreases-sort_group
decreases-sort_group l = 4 * l.depth + 1

abbrev pub decreases-unnamed_sort : goal.decreases-unnamed_sort
decreases-unnamed_sort l = 4 * l.depth + 2

abbrev pub decreases-sort : goal.decreases-sort
decreases-sort l = 4 * l.depth + 3
