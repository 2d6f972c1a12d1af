use Rattle.std.proofs.Common.{slice_index_or}
use Rattle.frontier.specs.Wanted.{takes}
use Rattle.frontier.proofs.Lists.{same_index}
use Rattle.frontier.proofs.Sites.{taken_next}
use Rattle.frontier.proofs.listing.push_sites.Goals as goal

pub loop-callee-preserved : goal.loop-callee-preserved
loop-callee-preserved c =
    taken_next (takes c.args.flat.now c.args.bound c.args.nodes.now c.args.wanted c.args.way.now) c.args.path.now c.args.callees.now c.loop-callee.callee-index (slice_index_or c.args.callees.now c.loop-callee.callee-index 0)
    c.loop-callee.site c.in_ok-site.site c.args.found.now.items c.loop-callee.found.items c.push_site.new.found.items c.loop-callee-test.true (same_index c.args.callees.now c.loop-callee.callee-index 0 c.loop-callee-test.true)
    c.loop-callee.invariant (c.in_ok-site.ensures {u = tt}) (c.in_ok-push_site.ensures {u = tt})
