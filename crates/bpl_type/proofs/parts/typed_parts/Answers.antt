use Rattle.std.proofs.Common.{List, ℕ, sym, subst}
use Rattle.type_pass.specs.Graphs.{Graph}
use Rattle.type_pass.specs.Orders.{IsOrder}
use Rattle.bpl_type.proofs.parts.typed_parts.Goals as goal

pub bodies-requires-clause-order : goal.bodies-requires-clause-order
bodies-requires-clause-order c =
    subst (λ (g : Graph). IsOrder g c.as_slice.result.now) c.requires.graph
    (subst (λ (ns : List ℕ). IsOrder c.args.graph.now ns) (sym c.as_slice.ensures.value) c.in_ok-nodes.ensures)
