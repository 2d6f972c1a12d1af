use Rattle.std.proofs.Common.{take}
use Rattle.proc_template.proofs.Beginning.{adds_next, are_take, begun_still, next_is_sort}
use Rattle.proc_template.proofs.starting.add_variables.Goals as goal

pub add_variable-requires-clause-begun : goal.add_variable-requires-clause-begun
add_variable-requires-clause-begun c =
    begun_still c.args.terms.now.nodes c.loop-sort.terms.nodes (take c.loop-sort.sort-index c.args.sorts.now) c.loop-sort.added c.requires.begun (are_take c.loop-sort.sort-index c.args.sorts.now c.requires.sorts) c.loop-sort.invariant

pub add_variable-requires-clause-sort : goal.add_variable-requires-clause-sort
add_variable-requires-clause-sort c = next_is_sort c.args.sorts.now c.loop-sort.sort-index c.sort-item.result c.requires.sorts c.loop-sort-test.true c.sort-item.is

pub loop-sort-preserved : goal.loop-sort-preserved
loop-sort-preserved c =
    adds_next c.args.terms.now.nodes c.loop-sort.terms.nodes c.add_variable.new.terms.nodes c.args.sorts.now c.loop-sort.sort-index c.sort-item.result c.loop-sort.added c.push.new.self c.in_ok-term.term c.loop-sort-test.true c.sort-item.is
    c.in_ok-push.ensures.ok c.loop-sort.invariant c.in_ok-term.ensures
