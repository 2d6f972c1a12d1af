use Rattle.std.proofs.Common.{◌≡◌, [], take}
use Rattle.sat_watch.proofs.store.WatchStore.of_cnf.Given as goal

abbrev pub invariant-loop-clause : goal.invariant-loop-clause
invariant-loop-clause l = record {
  clauses : l.store.clauses ≡ take l.clause-index l.clause-items;
  trail : l.store.trail ≡ [];
}
