use Rattle.std.proofs.Common.{◌≡◌, ◌++◌, drop}
use Rattle.trace_text.specs.Values.{more_pairs_text}
use Rattle.trace_text.proofs.values.put_more_pairs.Given as goal

abbrev pub invariant-loop-pair : goal.invariant-loop-pair
invariant-loop-pair l = l.text ++ more_pairs_text (drop l.pair-index l.pairs) ≡ l.initial.text ++ more_pairs_text l.pairs
