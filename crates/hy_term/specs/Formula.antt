-- Terms: nodes that name nodes of lower numbers, and the node that they are about.
use Rattle.std.specs.Prelude.{ℕ, List}
use Rattle.hy_term.specs.declared.node.TermNode.{TermNode}

pub record Formula : Type 0 where
  pub nodes : List TermNode
  pub root : ℕ
