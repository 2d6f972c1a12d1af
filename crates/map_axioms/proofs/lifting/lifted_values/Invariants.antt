use Rattle.std.proofs.Common.{◌≡◌, ◌++◌, drop, map}
use Rattle.hy_term.specs.Variables.{numbers_of}
use Rattle.map_axioms.specs.Reduction.{of_atoms}
use Rattle.map_axioms.specs.Steps.{lifted}
use Rattle.map_axioms.proofs.lifting.lifted_values.Given as goal

abbrev pub invariant-loop-variable : goal.invariant-loop-variable
invariant-loop-variable l =
    l.lifted ++ map (lifted l.source.nodes l.reduced.nodes l.entries (of_atoms l.reduced.nodes l.atoms)) (numbers_of (drop l.variable-index l.wanted))
    ≡ map (lifted l.source.nodes l.reduced.nodes l.entries (of_atoms l.reduced.nodes l.atoms)) (numbers_of l.wanted)
