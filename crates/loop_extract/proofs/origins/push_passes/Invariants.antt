use Rattle.std.proofs.Common.{◌≡◌, ◌-◌, ◌++◌, map}
use Rattle.flat_prog.specs.Sites.{numbers_from}
use Rattle.extract_def.specs.declared.origin.Origin.TheVariants.{Pass}
use Rattle.loop_extract.proofs.origins.push_passes.Given as goal

abbrev pub invariant-loop-k : goal.invariant-loop-k
invariant-loop-k l = (l.initial.origins ++ map (Pass l.head) (numbers_from 0 l.count)) ≡ (l.origins ++ map (Pass l.head) (numbers_from l.k (l.count - l.k)))
