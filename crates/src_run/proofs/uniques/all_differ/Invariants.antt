use Rattle.std.proofs.Common.{◌≡◌, drop}
use Rattle.hy_val.specs.Stores.{all_differ}
use Rattle.src_run.specs.Uniques.{all_left_differ}
use Rattle.src_run.proofs.uniques.all_differ.Given as goal

abbrev pub invariant-loop-index : goal.invariant-loop-index
invariant-loop-index l = all_left_differ l.consts (drop l.index l.numbers) l.seen ≡ all_differ l.consts l.numbers
