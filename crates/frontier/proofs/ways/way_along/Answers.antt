use Rattle.std.proofs.Common.{sym, ◌∙◌, slice_index_or}
use Rattle.frontier.proofs.Lists.{way_next, way_ends, way_done, same_index}
use Rattle.frontier.proofs.ways.way_along.Goals as goal

pub loop-site-preserved : goal.loop-site-preserved
loop-site-preserved c =
    way_next c.args.lists.now c.args.from c.args.path.now c.loop-site.site-index c.loop-site.at (slice_index_or c.args.path.now c.loop-site.site-index 0) c.in-Some.next c.loop-site.way.items c.push.new.self.items c.loop-site-test.true
    (same_index c.args.path.now c.loop-site.site-index 0 c.loop-site-test.true) c.loop-site.invariant (sym c.callee_at.ensures ∙ c.in-Some.is) (c.in_ok-push.ensures {u = tt}).items

pub returns-in-None : goal.returns-in-None
returns-in-None c =
    way_ends c.args.lists.now c.args.from c.args.path.now c.loop-site.site-index c.loop-site.at (slice_index_or c.args.path.now c.loop-site.site-index 0) c.loop-site.way.items c.push.new.self.items c.loop-site-test.true
    (same_index c.args.path.now c.loop-site.site-index 0 c.loop-site-test.true) c.loop-site.invariant (sym c.callee_at.ensures ∙ c.in-None.is) (c.in_ok-push.ensures {u = tt}).items

pub returns : goal.returns
returns c =
    way_done c.args.lists.now c.args.from c.args.path.now c.loop-site.site-index c.loop-site.at c.loop-site.way.items c.push-2.new.self.items c.loop-site-test.false c.loop-site.invariant (c.in_ok-push-2.ensures {u = tt}).items
