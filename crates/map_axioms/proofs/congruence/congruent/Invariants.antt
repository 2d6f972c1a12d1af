use Rattle.std.proofs.Common.{drop, length, ◌+◌, ◌*◌, ◌≤◌}
use Rattle.map_axioms.specs.Steps.{congruent, pairs}
use Rattle.map_axioms.proofs.Conjoining.{SoFar}
use Rattle.map_axioms.proofs.congruence.congruent.Given as goal

abbrev pub invariant-loop-i : goal.invariant-loop-i
invariant-loop-i l = record {
  so_far : SoFar l.base l.nodes l.fn.out.nodes l.entries l.out.nodes l.all l.whole (λ vs. congruent vs l.entries) (λ vs. congruent vs (drop l.i l.entries));
  nodes : length l.out.nodes + 4 * pairs (drop l.i l.entries) ≤ length l.fn.out.nodes + 4 * pairs l.entries;
}
