use Rattle.std.proofs.Common.{◌≡◌, drop}
use Rattle.src_run.specs.Plain.{are_bools}
use Rattle.src_run.proofs.plain.are_bools.Given as goal

abbrev pub invariant-loop-name : goal.invariant-loop-name
invariant-loop-name l = are_bools (drop l.name-index l.names) ≡ are_bools l.names
