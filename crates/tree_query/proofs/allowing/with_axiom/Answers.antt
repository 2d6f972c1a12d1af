-- The term of the axiom, and the conjunction with it.
use Rattle.hy_val.specs.Stores.{holds}
use Rattle.tree_terms.specs.Standing.{all_at}
use Rattle.tree_query.proofs.Conjoining.{bit_later, bool_stays}
use Rattle.tree_query.proofs.Differing.{with_bit}
use Rattle.tree_query.proofs.Holding.{axiom_bit, axiom_reads, env_of}
use Rattle.tree_query.proofs.allowing.with_axiom.Goals as goal

pub translate-requires-clause-reads : goal.translate-requires-clause-reads
translate-requires-clause-reads c = axiom_reads c.args.terms.now.nodes c.args.consts.now c.args.sorts.now c.args.claim.now c.requires.consts c.requires.claim

pub both-requires-clause-left : goal.both-requires-clause-left
both-requires-clause-left c =
    bool_stays c.args.terms.now.nodes c.translate.new.terms.nodes c.args.all
    (bit_later c.args.terms.now.nodes c.translate.new.terms.nodes (λ a. holds (env_of (all_at a c.args.terms.now.nodes c.args.consts.now)) c.args.claim.now) c.in_ok-holds.holds
    (axiom_bit c.only_variables_matter.ensures c.args.terms.now.nodes c.translate.new.terms.nodes c.args.consts.now c.args.sorts.now c.args.claim.now c.in_ok-holds.holds c.requires.claim c.in_ok-holds.ensures.later
    c.in_ok-holds.ensures.plain c.in_ok-holds.ensures.says))
    c.requires.all

pub returns : goal.returns
returns c =
    with_bit c.args.terms.now.nodes c.translate.new.terms.nodes c.both.new.terms.nodes (λ a. holds (env_of (all_at a c.args.terms.now.nodes c.args.consts.now)) c.args.claim.now) c.args.all c.in_ok-holds.holds
    c.in_ok-node.node c.requires.all
    (axiom_bit c.only_variables_matter.ensures c.args.terms.now.nodes c.translate.new.terms.nodes c.args.consts.now c.args.sorts.now c.args.claim.now c.in_ok-holds.holds c.requires.claim c.in_ok-holds.ensures.later
    c.in_ok-holds.ensures.plain c.in_ok-holds.ensures.says)
    c.in_ok-node.ensures
