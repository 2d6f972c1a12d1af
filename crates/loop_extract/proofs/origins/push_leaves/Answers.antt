use Rattle.std.proofs.Common.{◌++◌, map}
use Rattle.flat_prog.specs.Sites.{numbers_from}
use Rattle.extract_def.specs.declared.origin.Origin.TheVariants.{Leave}
use Rattle.loop_extract.proofs.Locals.{map_more}
use Rattle.loop_extract.proofs.origins.push_leaves.Goals as goal

pub loop-k-preserved : goal.loop-k-preserved
loop-k-preserved c =
    map_more (Leave) (c.args.origins.now ++ map (Leave) (numbers_from 0 c.args.count)) c.loop-k.origins c.push.new.self c.loop-k.k c.args.count c.in_ok-exit.exit c.loop-k.invariant c.loop-k-test.true c.in_ok-exit.ensures.value c.in_ok-push.ensures.ok
