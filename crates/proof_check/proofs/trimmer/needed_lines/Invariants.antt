use Rattle.std.proofs.Common.{◌≡◌, ◌-◌, ◌≤◌, true, length}
use Rattle.proof_check.specs.Trimming.{is_set, ClosedFrom, UsedFrom}
use Rattle.proof_check.proofs.trimmer.needed_lines.Given as goal

abbrev pub invariant-loop-place : goal.invariant-loop-place
invariant-loop-place l = record {
  within : l.place ≤ length l.lines;
  same_length : length l.needed.items ≡ length l.lines;
  last : is_set l.needed.items (length l.lines - 1) ≡ true;
  closed : ClosedFrom l.offset l.lines l.needed.items l.place;
  used : UsedFrom l.offset l.lines l.needed.items l.place;
}

abbrev pub decreases-loop-place : goal.decreases-loop-place
decreases-loop-place l = l.place
