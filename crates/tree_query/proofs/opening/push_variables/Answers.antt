use Rattle.std.proofs.Common.{length, refl, ◌∙◌}
use Rattle.std.proofs.lemmas.Option.{slice_get_read}
use Rattle.tree_query.proofs.Bases.{pushed}
use Rattle.tree_query.proofs.opening.push_variables.Goals as goal

pub loop-sort-preserved : goal.loop-sort-preserved
loop-sort-preserved c = (
  pushed c.args.terms.now.nodes c.args.sorts.now c.loop-sort.terms.nodes c.push_variable.new.terms.nodes c.loop-sort.numbers c.push.new.self c.loop-sort.sort-index c.in_ok-node.node c.sort-item.result
      (slice_get_read c.args.sorts.now (length c.args.sorts.now) c.loop-sort.sort-index c.sort-item.result refl c.loop-sort-test.true c.sort-item.is) c.loop-sort.invariant.0 c.in_ok-node.ensures.number c.in_ok-node.ensures.nodes
      c.in_ok-node.ensures.low c.in_ok-push.ensures.ok,
  c.in_ok-node.ensures.root ∙ c.loop-sort.invariant.1,
)
