-- The unique constants differ, and the axioms hold.
use Rattle.std.proofs.Common.{◌&&◌, true, List, sym, ◌∙◌, ap, subst}
use Rattle.hy_val.specs.Stores.{all_differ}
use Rattle.hy_val.specs.declared.sort.Sort.{Sort}
use Rattle.tree_terms.specs.Rules.{bit}
use Rattle.tree_terms.specs.Standing.{AreOf, all_at}
use Rattle.tree_terms.proofs.Growth.{are_later, later_then}
use Rattle.tree_query.specs.Allowing.{are_scalars}
use Rattle.tree_query.proofs.Conjoining.{bit_later}
use Rattle.tree_query.proofs.Distinct.{allowed_bit}
use Rattle.tree_query.proofs.allowing.allowed.Goals as goal

pub with_uniques-requires-clause-consts : goal.with_uniques-requires-clause-consts
with_uniques-requires-clause-consts c =
    subst (λ (ss : List Sort). AreOf c.always.new.terms.nodes c.args.consts.now ss) (sym c.consts-sorts.ensures.value)
    (are_later c.args.terms.now.nodes c.always.new.terms.nodes c.args.consts.now c.args.flat.now.consts (bit_later c.args.terms.now.nodes c.always.new.terms.nodes (λ a. true) c.in_ok-start.start c.in_ok-start.ensures) c.requires)

pub with_axioms-requires-clause-consts : goal.with_axioms-requires-clause-consts
with_axioms-requires-clause-consts c =
    subst (λ (ss : List Sort). AreOf c.with_uniques.new.terms.nodes c.args.consts.now ss) (sym c.consts-sorts.ensures.value)
    (are_later c.args.terms.now.nodes c.with_uniques.new.terms.nodes c.args.consts.now c.args.flat.now.consts
    (later_then c.args.terms.now.nodes c.always.new.terms.nodes c.with_uniques.new.terms.nodes (bit_later c.args.terms.now.nodes c.always.new.terms.nodes (λ a. true) c.in_ok-start.start c.in_ok-start.ensures)
    (bit_later c.always.new.terms.nodes c.with_uniques.new.terms.nodes (λ a. bit a c.always.new.terms.nodes c.in_ok-start.start && all_differ (all_at a c.always.new.terms.nodes c.args.consts.now) c.uniques-2.result.now)
    c.in_ok-distinct.distinct c.in_ok-distinct.ensures))
    c.requires)

pub returns : goal.returns
returns c = (
  sym (c.are_scalars.ensures ∙ ap (λ (ss : List Sort). are_scalars ss c.uniques.result.now) c.consts-sorts.ensures.value ∙ ap (are_scalars c.args.flat.now.consts) c.uniques.ensures) ∙ c.if-not-are_scalars.false,
  allowed_bit c.args.flat.now c.args.terms.now.nodes c.always.new.terms.nodes c.with_uniques.new.terms.nodes c.with_axioms.new.terms.nodes c.args.consts.now c.args.flat.now.consts c.uniques-2.result.now c.axioms.result.now
      c.in_ok-start.start c.in_ok-distinct.distinct c.in_ok-node.node c.uniques-2.ensures c.axioms.ensures c.requires c.in_ok-start.ensures c.in_ok-distinct.ensures c.in_ok-node.ensures,
)
