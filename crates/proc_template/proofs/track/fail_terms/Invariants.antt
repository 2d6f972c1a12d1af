use Rattle.std.proofs.Common.{◌≡◌, map, take}
use Rattle.proc_template.specs.Track.{fail_terms}
use Rattle.proc_template.proofs.track.fail_terms.Given as goal

abbrev pub invariant-loop-assert : goal.invariant-loop-assert
invariant-loop-assert l = l.found ≡ map fail_terms (take l.assert-index l.asserts)
