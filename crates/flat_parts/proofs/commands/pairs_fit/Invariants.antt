use Rattle.std.proofs.Common.{◌≡◌, drop}
use Rattle.std.specs.List.{list_all}
use Rattle.hy_val.specs.Scope.{pair_fits}
use Rattle.flat_parts.proofs.commands.pairs_fit.Given as goal

abbrev pub invariant-loop-pair : goal.invariant-loop-pair
invariant-loop-pair l = list_all (pair_fits l.known) (drop l.pair-index l.pairs) ≡ list_all (pair_fits l.known) l.pairs
