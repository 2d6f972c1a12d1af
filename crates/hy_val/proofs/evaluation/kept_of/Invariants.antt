use Rattle.std.proofs.Common.{drop}
use Rattle.hy_val.proofs.Keeping.{Stands}
use Rattle.hy_val.proofs.evaluation.kept_of.Given as goal

-- what is kept stands for the values of the nodes so far, and the rest fits behind them
abbrev pub invariant-loop-node : goal.invariant-loop-node
invariant-loop-node l = Stands l.env l.nodes l.kept.items (drop l.node-index l.nodes)
