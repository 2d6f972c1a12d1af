use Rattle.std.proofs.Common.{ℕ, ◌≤◌, drop}
use Rattle.std.specs.Prelude.{IsTrue}
use Rattle.hy_term.specs.Variables.{below}
use Rattle.hy_term.proofs.terms.Terms.fresh.Given as goal

-- what is below in the rest is below in the whole
abbrev pub invariant-loop-node : goal.invariant-loop-node
invariant-loop-node l = (k : ℕ) → l.next ≤ k → IsTrue (below k (drop l.node-index l.self.nodes)) → IsTrue (below k l.self.nodes)
