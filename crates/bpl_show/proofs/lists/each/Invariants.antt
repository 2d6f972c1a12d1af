use Rattle.std.proofs.Common.{◌≡◌, drop}
use Rattle.std.specs.Prelude.{flat_map}
use Rattle.bpl_show.specs.Tokens.{written}
use Rattle.bpl_show.proofs.lists.each.Given as goal

abbrev pub invariant-loop-item : goal.invariant-loop-item
invariant-loop-item g l = written l.out (flat_map g.T.Show.tokens (drop l.item-index l.items)) ≡ written l.initial.out (flat_map g.T.Show.tokens l.items)
