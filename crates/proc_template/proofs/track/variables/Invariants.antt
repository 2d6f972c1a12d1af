use Rattle.std.proofs.Common.{◌≡◌, ◌++◌, drop}
use Rattle.proc_template.specs.Track.{variables_from}
use Rattle.proc_template.proofs.track.variables.Given as goal

abbrev pub invariant-loop-place : goal.invariant-loop-place
invariant-loop-place l = variables_from 0 l.nodes ≡ l.found ++ variables_from l.place (drop l.place l.nodes)
