use Rattle.std.proofs.Common.{◌+◌, ℕ, length, reverse}
use Rattle.flat_prog.proofs.Searching.{Down, Searching, waiting}
use Rattle.flat_prog.proofs.ordering.order_blocks.Given as goal

abbrev pub invariant-loop-visit : goal.invariant-loop-visit
invariant-loop-visit l = (d : ℕ → ℕ) → Down l.proc d → Searching l.proc d l.search.visits l.search.entered (reverse l.search.left)

abbrev pub decreases-loop-visit : goal.decreases-loop-visit
decreases-loop-visit l = waiting l.proc.blocks l.search.entered + length l.search.visits
