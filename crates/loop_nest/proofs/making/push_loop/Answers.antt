use Rattle.std.proofs.Common.{length}
use Rattle.loop_nest.proofs.ListLaws.{inner-opened}
use Rattle.loop_nest.proofs.making.push_loop.Goals as goal

pub returns-clause-around : goal.returns-clause-around
returns-clause-around c =
    inner-opened c.push-2.result c.args.making.now.opened.items c.close-outer.new.opened.items c.push.new.self.items c.args.span.head c.args.span.exit c.len-place.result (length c.args.making.now.loops)
    c.close-outer.ensures.kept c.in_ok-push.ensures.items c.len-place.ensures
