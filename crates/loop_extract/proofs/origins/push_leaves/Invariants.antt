use Rattle.std.proofs.Common.{◌≡◌, ◌-◌, ◌++◌, map}
use Rattle.flat_prog.specs.Sites.{numbers_from}
use Rattle.extract_def.specs.declared.origin.Origin.TheVariants.{Leave}
use Rattle.loop_extract.proofs.origins.push_leaves.Given as goal

abbrev pub invariant-loop-k : goal.invariant-loop-k
invariant-loop-k l = (l.initial.origins ++ map Leave (numbers_from 0 l.count)) ≡ (l.origins ++ map Leave (numbers_from l.k (l.count - l.k)))
