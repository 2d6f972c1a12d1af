use Rattle.std.proofs.Common.{ℕ, List, ◌+◌, length, arith, sym, subst}
use Rattle.tree_terms.specs.Rules.{IsBit, bit}
use Rattle.tree_terms.specs.Reach.{ReachTo, reach_by}
use Rattle.tree_terms.proofs.Reaching.{always_stays, reach_next, sites_later}
use Rattle.tree_terms.proofs.Ruling.{false_stays}
use Rattle.tree_terms.proofs.reach.reaches.Goals as goal

pub reach_term-requires-clause-always : goal.reach_term-requires-clause-always
reach_term-requires-clause-always c = always_stays c.args.terms.now.nodes c.loop.terms.nodes c.args.always c.requires.sorted c.loop.invariant.sorted c.loop.invariant.grows c.requires.always

pub reach_term-requires-clause-never : goal.reach_term-requires-clause-never
reach_term-requires-clause-never c = false_stays c.args.terms.now.nodes c.loop.terms.nodes c.args.never c.requires.sorted c.loop.invariant.sorted c.loop.invariant.grows c.requires.never

pub reach_term-requires-clause-sites : goal.reach_term-requires-clause-sites
reach_term-requires-clause-sites c = sites_later c.args.q.now c.args.terms.now.nodes c.loop.terms.nodes c.args.places.now c.requires.sorted c.loop.invariant.sorted c.loop.invariant.grows c.requires.sites

pub loop-preserved : goal.loop-preserved
loop-preserved c =
    subst (λ (r : List ℕ). ReachTo c.args.q.now c.args.places.now c.args.terms.now.nodes c.reach_term.new.terms.nodes r (c.loop.counter + 1)) (sym c.in_ok-push.ensures.items)
    (reach_next c.args.q.now c.args.places.now c.args.terms.now.nodes c.loop.terms.nodes c.reach_term.new.terms.nodes c.loop.reach.items c.loop.counter c.in_ok-place.place
    (sites_later c.args.q.now c.args.terms.now.nodes c.loop.terms.nodes c.args.places.now c.requires.sorted c.loop.invariant.sorted c.loop.invariant.grows c.requires.sites)
    (omega (arith, c.loop-test.true, c.len-end.ensures)) c.loop.invariant
    (subst (λ (r : List ℕ). IsBit c.loop.terms.nodes c.reach_term.new.terms.nodes (λ a. reach_by c.args.q.now c.args.places.now r (bit a c.loop.terms.nodes) (length r)) c.in_ok-place.place) c.as_slice.ensures.value
    c.in_ok-place.ensures))
