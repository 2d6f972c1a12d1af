use Rattle.std.proofs.Common.{◌≡◌, ◌++◌, take}
use Rattle.frontier.specs.Wanted.{takes, taken}
use Rattle.frontier.proofs.listing.push_sites.Given as goal

abbrev pub invariant-loop-callee : goal.invariant-loop-callee
invariant-loop-callee l =
    (l.site ≡ l.callee-index) × (l.found.items ≡ l.fn.found.items ++ taken (takes l.flat l.bound l.nodes l.wanted l.way) l.path 0 (take l.callee-index l.callees))
