use Rattle.std.proofs.Common.{◌≡◌, ◌++◌, length, map, reverse}
use Rattle.replay_text.proofs.replaying.last_first.Given as goal

abbrev pub invariant-loop-item : goal.invariant-loop-item
invariant-loop-item l = map (λ item. item.choice) l.items ++ reverse l.choices.items ≡ map (λ item. item.choice) l.fn.items

abbrev pub decreases-loop-item : goal.decreases-loop-item
decreases-loop-item l = length l.items
