use Rattle.std.proofs.Common.{◌≡◌, map, take}
use Rattle.proc_template.specs.Track.{value_terms}
use Rattle.proc_template.proofs.track.value_terms.Given as goal

abbrev pub invariant-loop-value : goal.invariant-loop-value
invariant-loop-value l = l.found ≡ map value_terms (take l.value-index l.values)
