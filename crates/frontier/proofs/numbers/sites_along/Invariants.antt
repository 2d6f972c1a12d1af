use Rattle.std.proofs.Common.{◌≡◌, take}
use Rattle.frontier.specs.Passed.{sites_on}
use Rattle.frontier.proofs.numbers.sites_along.Given as goal

abbrev pub invariant-loop-block : goal.invariant-loop-block
invariant-loop-block l = l.sites.items ≡ sites_on l.table (take l.block-index l.path)
