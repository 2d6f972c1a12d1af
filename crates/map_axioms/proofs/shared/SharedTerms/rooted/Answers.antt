use Rattle.std.proofs.Common.{List, sym, subst}
use Rattle.hy_term.specs.declared.node.TermNode.{TermNode}
use Rattle.indexmap.specs.IndexMap.{get}
use Rattle.map_axioms.specs.Shared.{IsIndex, same_node}
use Rattle.map_axioms.proofs.Numbers.{all_differ}
use Rattle.map_axioms.proofs.shared.SharedTerms.rooted.Goals as goal

pub returns-clause-shares : goal.returns-clause-shares
returns-clause-shares c =
    all_differ c.set_root.new.self.nodes (get same_node c.self.inside.numbers)
    (subst (λ (ns : List TermNode). IsIndex ns (get same_node c.self.inside.numbers)) (sym c.set_root.ensures.nodes) c.self.invariant)
