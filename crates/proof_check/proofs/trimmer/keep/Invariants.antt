use Rattle.std.proofs.Common.{◌≡◌, ◌+◌, ◌++◌, [], length, drop}
use Rattle.proof_check.specs.Trimming.{kept_lines}
use Rattle.proof_check.proofs.trimmer.keep.Given as goal

abbrev pub invariant-loop-i : goal.invariant-loop-i
invariant-loop-i l = kept_lines l.offset [] l.needed l.lines l.offset ≡ l.kept ++ kept_lines l.offset l.numbers.items (drop l.i l.needed) (drop l.i l.lines) (l.offset + length l.kept)
