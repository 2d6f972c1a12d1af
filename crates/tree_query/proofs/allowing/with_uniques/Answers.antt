-- One constant more that differs from those behind it.
use Rattle.std.proofs.Common.{◌≡◌, ◌+◌, ◌&&◌, true, List, ℕ, get_or, sym, subst}
use Rattle.std.specs.List.{list_all}
use Rattle.std.proofs.lemmas.List.{take_rest}
use Rattle.std.proofs.lemmas.Option.{slice_get-get_or}
use Rattle.tree_terms.specs.Rules.{IsBit, bit}
use Rattle.tree_terms.specs.Standing.{all_at}
use Rattle.tree_query.specs.Allowing.{differ, is_scalar_at}
use Rattle.tree_query.proofs.Differing.{all_behind}
use Rattle.tree_query.proofs.Distinct.{are_after, different_next}
use Rattle.tree_query.proofs.allowing.with_uniques.Goals as goal

pub with_differences-requires-clause-consts : goal.with_differences-requires-clause-consts
with_differences-requires-clause-consts c =
    are_after c.args.terms.now.nodes c.loop-index.terms.nodes c.args.consts.now c.args.sorts.now _ _ c.loop-index.node c.requires.consts c.loop-index.invariant

pub with_differences-requires-clause-others : goal.with_differences-requires-clause-others
with_differences-requires-clause-others c =
    subst (λ (ns : List ℕ). list_all (is_scalar_at c.args.sorts.now) ns ≡ true) (sym (take_rest c.args.uniques.now (c.loop-index.index + 1)))
    (all_behind (is_scalar_at c.args.sorts.now) c.args.uniques.now (c.loop-index.index + 1) c.requires.uniques)

pub loop-index-preserved : goal.loop-index-preserved
loop-index-preserved c =
    different_next c.args.terms.now.nodes c.loop-index.terms.nodes c.with_differences.new.terms.nodes c.args.consts.now c.args.sorts.now c.args.uniques.now c.loop-index.index (get_or c.args.uniques.now c.loop-index.index 0)
    c.loop-index.node c.in_ok-node.node _ c.requires.consts (slice_get-get_or c.args.uniques.now c.loop-index.index 0 c.loop-index-test.true) c.loop-index.invariant
    (subst
    (λ (ns : List ℕ). IsBit c.loop-index.terms.nodes c.with_differences.new.terms.nodes
    (λ a. bit a c.loop-index.terms.nodes c.loop-index.node && list_all (differ (all_at a c.loop-index.terms.nodes c.args.consts.now) (get_or c.args.uniques.now c.loop-index.index 0)) ns) c.in_ok-node.node)
    (take_rest c.args.uniques.now (c.loop-index.index + 1)) c.in_ok-node.ensures)
