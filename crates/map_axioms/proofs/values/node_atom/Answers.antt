use Rattle.std.proofs.Common.{subst}
use Rattle.std.specs.Prelude.{IsSome}
use Rattle.hy_term.specs.TermSorts.{sort_of_node}
use Rattle.hy_term.specs.declared.node.TermNode.{TermNode}
use Rattle.map_axioms.specs.Steps.{atom_sorts}
use Rattle.map_axioms.proofs.Evaluating.{unary_ready, binary_ready}
use Rattle.map_axioms.proofs.values.node_atom.Goals as goal

pub apply1-requires : goal.apply1-requires
apply1-requires c =
    unary_ready c.args.known.now c.in-Unary.op c.in-Unary.child c.atom_at.result (subst (λ (n : TermNode). IsSome (sort_of_node (atom_sorts c.args.known.now) n)) c.in-Unary.is c.requires.sorts) c.atom_at.ensures

pub apply-requires : goal.apply-requires
apply-requires c =
    binary_ready c.args.known.now c.in-Binary.op c.in-Binary.left c.in-Binary.right c.atom_at-in-Binary.result c.atom_at-in-Binary-2.result
    (subst (λ (n : TermNode). IsSome (sort_of_node (atom_sorts c.args.known.now) n)) c.in-Binary.is c.requires.sorts) c.atom_at-in-Binary.ensures c.atom_at-in-Binary-2.ensures
