use Rattle.std.proofs.Common.{drop}
use Rattle.hy_val.proofs.Evaluating.{Evaluates}
use Rattle.hy_val.proofs.plain.values_of.Given as goal

-- the values so far are those of the nodes so far, and the rest fits behind them
abbrev pub invariant-loop-node : goal.invariant-loop-node
invariant-loop-node l = Evaluates l.env l.nodes l.values.items (drop l.node-index l.nodes)
