use Rattle.std.proofs.Common.{drop, subst}
use Rattle.src_run.specs.Uniques.{Steps}
use Rattle.src_run.proofs.Unseen.{none_seen, one_more, rest_is}
use Rattle.src_run.proofs.uniques.all_differ.Goals as goal

pub loop-index-init : goal.loop-index-init
loop-index-init c = none_seen c.args.consts.now c.args.numbers.now c.new-seen.result c.new-seen.ensures.empty

pub loop-index-preserved : goal.loop-index-preserved
loop-index-preserved c =
    one_more c.args.consts.now c.args.numbers.now c.loop-index.index c.loop-index.seen c.first_differs.new.seen c.loop-index.invariant
    (subst (λ b. Steps c.args.consts.now (drop c.loop-index.index c.args.numbers.now) c.loop-index.seen c.first_differs.new.seen b) c.if-not-branch.false
    (subst (λ ms. Steps c.args.consts.now ms c.loop-index.seen c.first_differs.new.seen c.in_ok-first_differs.field-0) (rest_is c.loop-index.index c.args.numbers.now) c.in_ok-first_differs.ensures))
