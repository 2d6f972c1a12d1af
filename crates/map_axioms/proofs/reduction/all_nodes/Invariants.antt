use Rattle.std.proofs.Common.{◌-◌, ◌+◌, ◌*◌, ◌≤◌, length}
use Rattle.std.specs.Prelude.{nat_eq}
use Rattle.indexmap.specs.IndexMap.{get}
use Rattle.map_axioms.specs.Steps.{State, AllReduced, AreFirsts, RowsStand, known}
use Rattle.map_axioms.proofs.reduction.all_nodes.Given as goal

abbrev pub invariant-nodes : goal.invariant-nodes
invariant-nodes l = record {
  state : State l.base l.terms.nodes l.out.nodes l.entries;
  within : length l.reds ≤ length l.terms.nodes;
  each : AllReduced l.terms.nodes l.out.nodes l.entries l.reds;
  firsts : AreFirsts l.terms.nodes l.reds (get nat_eq l.firsts);
  stands : RowsStand l.terms.nodes l.out.nodes l.entries l.rows;
  nodes : length l.out.nodes ≤ 1 + length l.reds + 2 * known (length l.terms.nodes) l.rows;
  entries : length l.entries ≤ known (length l.terms.nodes) l.rows;
}

abbrev pub decreases-nodes : goal.decreases-nodes
decreases-nodes l = l.count - length l.reds
