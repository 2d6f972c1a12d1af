use Rattle.std.proofs.Common.{sym, ◌∙◌}
use Rattle.engine.proofs.Holding.{least_is_live}
use Rattle.engine.proofs.solo.search.Goals as goal

pub hold-requires : goal.hold-requires
hold-requires c = least_is_live c.loop-node.book c.in-Some.node (sym c.live.ensures ∙ c.in-Some.is)
