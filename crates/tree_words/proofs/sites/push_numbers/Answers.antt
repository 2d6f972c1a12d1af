use Rattle.std.proofs.Common.{arith}
use Rattle.tree_words.proofs.Listing.{pushed_more}
use Rattle.tree_words.proofs.sites.push_numbers.Goals as goal

pub loop-preserved : goal.loop-preserved
loop-preserved c =
    let next = c.loop.invariant.1 in
    let more = c.in_ok-next.ensures in (
      pushed_more c.args.sites.now c.loop.sites c.push.new.self c.args.first c.loop.counter c.loop.next c.loop.invariant.0 next c.in_ok-push.ensures.ok,
      omega (arith, next, more),
    )
