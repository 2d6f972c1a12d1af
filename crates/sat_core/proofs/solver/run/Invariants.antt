use Rattle.std.proofs.Common.{◌≡◌, [], length}
use Rattle.sat_core.specs.Searching.{IsSearching, HasLearnt, to_go}
use Rattle.sat_core.proofs.solver.run.Given as goal

abbrev pub invariant-search : goal.invariant-search
invariant-search g l = record {
  searching : IsSearching (g.S.ClauseStore.clauses l.store) (g.S.ClauseStore.assigned l.store) l.search;
  sized : length l.search.places.items ≡ l.variables;
  learnt : HasLearnt (g.S.ClauseStore.clauses l.fn.store) [] (g.S.ClauseStore.clauses l.store) l.search.lines;
}

abbrev pub decreases-search : goal.decreases-search
decreases-search g l = to_go (length l.search.places.items) l.search.starts.items (length l.search.trail.items)
