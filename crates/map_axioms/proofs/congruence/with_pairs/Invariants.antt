use Rattle.std.proofs.Common.{◌≡◌, drop, length, ◌+◌, ◌*◌, ◌-◌, ◌≤◌}
use Rattle.std.specs.Prelude.{slice_get, Some}
use Rattle.map_axioms.specs.declared.entry.Entry.{Entry}
use Rattle.map_axioms.specs.Steps.{of_map, pairs_on}
use Rattle.map_axioms.proofs.Conjoining.{SoFar}
use Rattle.map_axioms.proofs.congruence.with_pairs.Given as goal

abbrev pub invariant-pairs : goal.invariant-pairs
invariant-pairs l = record {
  so_far : SoFar l.base l.nodes l.fn.out.nodes l.entries l.out.nodes l.all l.whole (λ vs. pairs_on vs l.one (drop (l.place + 1) l.entries)) (λ vs. pairs_on vs l.one (drop l.next l.entries));
  same : (x : Entry) → slice_get l.entries l.next ≡ Some x → x.map ≡ l.one.map;
  nodes : length l.out.nodes + 4 * of_map l.one (drop l.next l.entries) ≤ length l.fn.out.nodes + 4 * of_map l.one (drop (l.place + 1) l.entries);
}

abbrev pub decreases-pairs : goal.decreases-pairs
decreases-pairs l = length l.entries - l.next
