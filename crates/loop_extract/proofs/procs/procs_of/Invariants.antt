use Rattle.std.proofs.Common.{◌≡◌, ◌+◌, ◌++◌, drop, take, length, map}
use Rattle.extract_def.specs.Extraction.{source_procs, loop_procs, loops_count}
use Rattle.std.specs.List.{flat_map}
use Rattle.extract_def.specs.Origins.{origins_of}
use Rattle.extract_def.specs.Scopes.{reached_loops}
use Rattle.extract_def.specs.declared.scope.Scope.TheVariants.{Whole, In}
use Rattle.loop_extract.proofs.procs.procs_of.Given as goal

abbrev pub invariant-loop-k : goal.invariant-loop-k
invariant-loop-k l = record {
  sources : source_procs l.prog 0 l.procs ≡ l.made.sources ++ source_procs l.prog l.k (drop l.k l.procs);
  loops : loop_procs l.prog 0 l.procs ≡ l.made.loops ++ loop_procs l.prog l.k (drop l.k l.procs);
  base : l.made.base ≡ length l.procs + loops_count (take l.k l.procs);
  source_origins : l.made.source_origins ≡ map (λ proc. origins_of proc Whole) (take l.k l.procs);
  loop_origins : l.made.loop_origins ≡ flat_map (λ proc. map (λ l. origins_of proc (In l.head l.exit)) (reached_loops proc)) (take l.k l.procs);
}
