use Rattle.std.proofs.Common.{◌≡◌, ℕ, true, false, length, get_or}
use Rattle.cnf_form.specs.Literal.{is_among}
use Rattle.cnf_form.proofs.literal_set.LiteralSet.clear.Given as goal

-- each flag that is set is of a literal that is left
abbrev pub invariant-loop-lit : goal.invariant-loop-lit
invariant-loop-lit l = (k : ℕ) → get_or l.self-inside.flags.items k false ≡ true → is_among l.self-inside.added.items k ≡ true

abbrev pub decreases-loop-lit : goal.decreases-loop-lit
decreases-loop-lit l = length l.self-inside.added.items
