use Rattle.std.proofs.Common.{◌≡◌, map, take}
use Rattle.proof_check.specs.Trimming.{new_number}
use Rattle.proof_check.proofs.trimmer.renumber_line.Given as goal

abbrev pub invariant-loop-id : goal.invariant-loop-id
invariant-loop-id l = l.hints ≡ map (new_number l.offset l.numbers) (take l.id-index l.old)
