use Rattle.std.proofs.Common.{◌≡◌, map, take}
use Rattle.extract_def.specs.Renaming.{moved_pair}
use Rattle.loop_extract.proofs.renaming.moved_pairs.Given as goal

abbrev pub invariant-loop-pair : goal.invariant-loop-pair
invariant-loop-pair l = l.all ≡ map (moved_pair l.by) (take l.pair-index l.pairs)
