use Rattle.std.proofs.Common.{◌≡◌, ◌≤◌, ◌+◌, drop}
use Rattle.replay_text.proofs.Comparing.{differs_from}
use Rattle.replay_text.proofs.lines.first_difference.Given as goal

abbrev pub invariant-loop-index : goal.invariant-loop-index
invariant-loop-index l = record {
  lines : l.line ≤ l.index + 1;
  same : differs_from l.line (drop l.index l.one) (drop l.index l.other) ≡ differs_from 1 l.one l.other;
}
