use Rattle.std.proofs.Common.{◌≡◌, drop}
use Rattle.hy_val.specs.Exprs.{reads}
use Rattle.hy_val.proofs.expr.Env.reads.Given as goal

-- the nodes so far are there
abbrev pub invariant-loop-node : goal.invariant-loop-node
invariant-loop-node l = reads l.self (drop l.node-index l.nodes) ≡ reads l.self l.nodes
