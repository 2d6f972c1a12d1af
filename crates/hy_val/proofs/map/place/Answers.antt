-- Where the search stops, the pairs before are below the index, and the others aren't.
use Rattle.std.proofs.Common.{rules, of_calls}
use Rattle.std.specs.Prelude.{nat_lt}
use Rattle.std.proofs.lemmas.Fn.{always_returns_same}
use Rattle.hy_val.specs.Sorts.{rank}
use Rattle.hy_val.proofs.Tables.{partitioned, place_is}
use Rattle.hy_val.proofs.map.place.Goals as goal

pub returns : goal.returns
returns c =
    let point = c.partition_point.ensures.partitioned (λ p. nat_lt (rank p.0) (rank c.args.i)) (always_returns_same _ _ _ (λ a r f k. search (rules, of_calls)))
    (partitioned c.args.i c.args.pairs.now c.requires) in
    place_is c.args.i c.args.pairs.now c.partition_point.result c.partition_point.ensures.bound point.0 point.1
