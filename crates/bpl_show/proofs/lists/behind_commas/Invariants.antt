use Rattle.std.proofs.Common.{◌≡◌, ◌++◌, drop}
use Rattle.std.specs.Prelude.{flat_map, codes}
use Rattle.bpl_show.specs.Tokens.{written, word}
use Rattle.bpl_show.proofs.lists.behind_commas.Given as goal

abbrev pub invariant-loop-item : goal.invariant-loop-item
invariant-loop-item g l = written l.out (flat_map (λ x. word (codes ",") ++ g.T.Show.tokens x) (drop l.item-index l.items)) ≡ written l.initial.out (flat_map (λ x. word (codes ",") ++ g.T.Show.tokens x) l.items)
