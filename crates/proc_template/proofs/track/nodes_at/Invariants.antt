use Rattle.std.proofs.Common.{◌≡◌, take}
use Rattle.proc_template.specs.Track.{nodes_at}
use Rattle.proc_template.proofs.track.nodes_at.Given as goal

abbrev pub invariant-loop-number : goal.invariant-loop-number
invariant-loop-number l = l.nodes ≡ nodes_at l.variables (take l.number-index l.numbers)
