use Rattle.std.proofs.Common.{drop}
use Rattle.map_axioms.specs.Steps.{chosen_by}
use Rattle.map_axioms.proofs.Evaluating.{Evaluated}
use Rattle.map_axioms.proofs.values.atoms_of.Given as goal

abbrev pub invariant-loop-node : goal.invariant-loop-node
invariant-loop-node l = Evaluated (chosen_by l.variables l.atoms) l.nodes (drop l.node-index l.nodes) l.known
