use Rattle.std.proofs.Common.{ℕ, List, ap, sym, subst}
use Rattle.std.specs.Map.{lookup}
use Rattle.indexmap.specs.IndexMap.{get}
use Rattle.hy_term.specs.declared.node.TermNode.{TermNode}
use Rattle.tree_terms.specs.Shared.{same_node, AreFound}
use Rattle.tree_terms.proofs.Found.{found_pushed, found_same}
use Rattle.tree_terms.proofs.shared.SharedTerms.push.Goals as goal

pub invariant_of-self : goal.invariant_of-self
invariant_of-self c =
    found_same c.self.inside.terms.nodes (get same_node c.self.inside.numbers) (get same_node c.reserve.new.self) c.self.invariant
    (λ q. ap (λ (es : List (TermNode × ℕ)). lookup (same_node q) es) c.reserve.ensures.entries)

pub invariant_of-self-in_err-number : goal.invariant_of-self-in_err-number
invariant_of-self-in_err-number c =
    subst (λ (ns : List TermNode). AreFound ns (get same_node c.reserve.new.self)) (sym c.in_err-number.ensures.err)
    (found_same c.self.inside.terms.nodes (get same_node c.self.inside.numbers) (get same_node c.reserve.new.self) c.self.invariant
    (λ q. ap (λ (es : List (TermNode × ℕ)). lookup (same_node q) es) c.reserve.ensures.entries))

pub invariant_of-self-2 : goal.invariant_of-self-2
invariant_of-self-2 c =
    subst (λ (ns : List TermNode). AreFound ns (get same_node c.note.new.numbers)) (sym c.in_ok-number.ensures.added)
    (found_pushed c.self.inside.terms.nodes c.args.node c.in_ok-number.number (get same_node c.reserve.new.self) (get same_node c.note.new.numbers)
    (found_same c.self.inside.terms.nodes (get same_node c.self.inside.numbers) (get same_node c.reserve.new.self) c.self.invariant
    (λ q. ap (λ (es : List (TermNode × ℕ)). lookup (same_node q) es) c.reserve.ensures.entries))
    c.in_ok-number.ensures.number c.note.ensures)
