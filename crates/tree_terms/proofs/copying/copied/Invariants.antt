use Rattle.tree_terms.specs.Copying.{IsCopying, AreDone}
use Rattle.tree_terms.proofs.copying.copied.Given as goal

abbrev pub invariant-loop-node : goal.invariant-loop-node
invariant-loop-node l = IsCopying l.q l.fn.terms.nodes l.terms.nodes l.places × AreDone l.q l.places l.node
