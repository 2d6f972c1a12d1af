use Rattle.std.proofs.Common.{◌≡◌, ◌++◌, drop}
use Rattle.frontier.specs.Ways.{way_on}
use Rattle.frontier.proofs.ways.way_along.Given as goal

abbrev pub invariant-loop-site : goal.invariant-loop-site
invariant-loop-site l = way_on l.lists l.from l.path ≡ l.way.items ++ way_on l.lists l.at (drop l.site-index l.path)
