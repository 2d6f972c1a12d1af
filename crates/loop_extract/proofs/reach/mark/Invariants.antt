use Rattle.std.proofs.Common.{◌≡◌, ℕ, ◌<◌, ◌||◌, false, length, get_or, drop}
use Rattle.extract_def.specs.Scopes.{is_in}
use Rattle.loop_extract.proofs.reach.mark.Given as goal

abbrev pub invariant-loop-target : goal.invariant-loop-target
invariant-loop-target l = record {
  size : length l.flags.items ≡ length l.initial.flags.items;
  marks : (n : ℕ) → n < length l.flags.items → (get_or l.flags.items n false || is_in n (drop l.target-index l.targets)) ≡ (get_or l.initial.flags.items n false || is_in n l.targets);
}
