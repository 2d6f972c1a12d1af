use Rattle.std.proofs.Common.{◌≡◌, take, map}
use Rattle.tree_terms.specs.declared.linked.EdgeTerms.{EdgeTerms}
use Rattle.tree_words.proofs.track.places_by.Given as goal

abbrev pub invariant-loop-edge : goal.invariant-loop-edge
invariant-loop-edge l = l.places.items ≡ map (λ (e : EdgeTerms). e.place) (take l.edge-index l.passed)
