use Rattle.std.proofs.Common.{◌≡◌, drop}
use Rattle.std.specs.Prelude.{IsTrue}
use Rattle.hy_term.specs.Variables.{ascend, numbers_of, variables_onto, variables}
use Rattle.hy_term.proofs.variables.variables_of.Given as goal

-- with those of the rest, the variables so far are those of the whole
abbrev pub invariant-loop-node : goal.invariant-loop-node
invariant-loop-node l = record {
  ascend : IsTrue (ascend (numbers_of l.variables.items));
  rest : variables_onto l.variables.items (drop l.node-index l.nodes) ≡ variables l.nodes;
}
