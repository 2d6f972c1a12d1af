use Rattle.std.proofs.Common.{◌≡◌, ◌+◌, ◌-◌, ◌≤◌, drop, length, option_map}
use Rattle.bpl_tok.specs.Pieces.{comment_len}
use Rattle.bpl_tok.proofs.piece.comments.comment_len.Given as goal

abbrev pub invariant-loop-at : goal.invariant-loop-at
invariant-loop-at l = (l.at ≤ length l.bytes) × (l.depth ≤ l.at) × (option_map (λ n. l.at + n) (comment_len l.depth (drop l.at l.bytes)) ≡ comment_len 0 l.bytes)

abbrev pub decreases-loop-at : goal.decreases-loop-at
decreases-loop-at l = length l.bytes - l.at
