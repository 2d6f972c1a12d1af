use Rattle.std.proofs.Common.{◌≡◌, take, filter}
use Rattle.call_tree.specs.Trees.{has_path}
use Rattle.frontier.proofs.passing.passed_among.Given as goal

abbrev pub invariant-loop-site : goal.invariant-loop-site
invariant-loop-site l = l.found.items ≡ filter (has_path l.passed) (take l.site-index l.sites)
