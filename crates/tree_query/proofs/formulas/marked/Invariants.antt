use Rattle.std.proofs.Common.{◌≡◌, take}
use Rattle.flat_prog.specs.Limits.{numbers_of}
use Rattle.tree_query.proofs.formulas.marked.Given as goal

-- the numbers of the marks so far
abbrev pub invariant-loop-number : goal.invariant-loop-number
invariant-loop-number l = l.numbers ≡ numbers_of (take l.number l.marks)
