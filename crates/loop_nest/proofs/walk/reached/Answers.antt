use Rattle.std.proofs.Common.{length, refl}
use Rattle.loop_nest.proofs.WalkLaws.{none-found-of, walking-start-of}
use Rattle.loop_nest.proofs.walk.reached.Goals as goal

pub find-requires-clause-found : goal.find-requires-clause-found
find-requires-clause-found c = none-found-of (length c.args.blocks.now) c.in_ok-walk.walk.found.items c.in_ok-walk.walk.seen.items c.in_ok-walk.ensures.found c.in_ok-walk.ensures.seen

pub find_rest-requires-clause-walking : goal.find_rest-requires-clause-walking
find_rest-requires-clause-walking c =
    walking-start-of c.args.blocks.now c.in_ok-walk.walk.found.items c.find.new.walk.found.items (length c.args.blocks.now) c.in_ok-walk.walk.seen.items c.find.new.walk.seen.items
    c.in_ok-walk.ensures.found c.in_ok-walk.ensures.seen refl c.in_ok-find.ensures
