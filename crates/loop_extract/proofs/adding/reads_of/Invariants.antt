use Rattle.std.proofs.Common.{◌≡◌, ◌+◌, ◌++◌, drop}
use Rattle.extract_def.specs.Renaming.{reads_of}
use Rattle.loop_extract.proofs.adding.reads_of.Given as goal

abbrev pub invariant-loop-k : goal.invariant-loop-k
invariant-loop-k l = reads_of l.first l.sorts ≡ l.reads ++ reads_of (l.first + l.k) (drop l.k l.sorts)
