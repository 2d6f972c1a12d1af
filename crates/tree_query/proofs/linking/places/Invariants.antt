use Rattle.std.proofs.Common.{◌≡◌, map, take}
use Rattle.tree_query.specs.Tabled.{place_by}
use Rattle.tree_query.proofs.linking.places.Given as goal

-- the paths so far have their nodes
abbrev pub invariant-loop-path : goal.invariant-loop-path
invariant-loop-path l = l.places ≡ map (place_by l.flat l.entry l.tree) (take l.path-index l.tree)
