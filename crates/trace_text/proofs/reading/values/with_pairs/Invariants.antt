use Rattle.std.proofs.Common.{◌≡◌, drop, map}
use Rattle.trace_text.proofs.Pairs.{with_each}
use Rattle.trace_text.proofs.reading.values.with_pairs.Given as goal

abbrev pub invariant-loop-text : goal.invariant-loop-text
invariant-loop-text l = with_each l.found (drop l.text-index (map (λ t. t.now) l.texts)) ≡ with_each l.initial.found (map (λ t. t.now) l.texts)
