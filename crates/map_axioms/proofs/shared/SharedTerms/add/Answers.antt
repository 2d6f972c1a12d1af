use Rattle.std.proofs.Common.{◌≡◌, List, None, ap, sym, subst, ◌∙◌, length}
use Rattle.hy_term.specs.declared.node.TermNode.{TermNode}
use Rattle.indexmap.specs.IndexMap.{get}
use Rattle.map_axioms.specs.Shared.{IsIndex, same_node}
use Rattle.map_axioms.proofs.Numbers.{index_push, index_back}
use Rattle.map_axioms.proofs.shared.SharedTerms.add.Goals as goal

pub invariant_of-self-in-Ok : goal.invariant_of-self-in-Ok
invariant_of-self-in-Ok c =
    let none : get same_node c.self.inside.numbers c.args.node ≡ None = sym c.get.ensures.value ∙ sym c.in_default.ensures in
    subst (λ (ns : List TermNode). IsIndex ns (get same_node c.insert.new.self)) (sym c.in-Ok.ensures.added)
    (index_push c.self.inside.terms.nodes c.args.node (length c.nodes-number.result.now) (get same_node c.self.inside.numbers) (get same_node c.insert.new.self) c.self.invariant none c.in_ok-insert.ensures.updates.0
    (ap length c.nodes-number.ensures.value))

pub invariant_of-self-in-Err : goal.invariant_of-self-in-Err
invariant_of-self-in-Err c =
    let none : get same_node c.self.inside.numbers c.args.node ≡ None = sym c.get.ensures.value ∙ sym c.in_default.ensures in
    subst (λ (ns : List TermNode). IsIndex ns (get same_node c.swap_remove.new.self)) (sym c.in-Err.ensures.err)
    (index_back c.self.inside.terms.nodes c.args.node (length c.nodes-number.result.now) (get same_node c.self.inside.numbers) (get same_node c.insert.new.self) c.self.invariant none c.in_ok-insert.ensures.updates.0
    (get same_node c.swap_remove.new.self) c.swap_remove.ensures.updates.0)
