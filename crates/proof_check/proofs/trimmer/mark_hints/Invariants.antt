use Rattle.std.proofs.Common.{◌≡◌, ℕ, ◌+◌, ◌||◌, take}
use Rattle.cnf_form.specs.Literal.{is_among}
use Rattle.proof_check.specs.Trimming.{is_set}
use Rattle.proof_check.proofs.trimmer.mark_hints.Given as goal

abbrev pub invariant-loop-hint : goal.invariant-loop-hint
invariant-loop-hint l = (k : ℕ) → is_set l.needed k ≡ (is_set l.initial.needed k || is_among (take l.hint-index l.hints) (l.offset + k))
