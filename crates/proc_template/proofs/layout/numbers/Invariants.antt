use Rattle.std.proofs.Common.{◌≡◌, ◌-◌}
use Rattle.flat_prog.specs.Sites.{numbers_from}
use Rattle.proc_template.proofs.layout.numbers.Given as goal

abbrev pub invariant-loop-number : goal.invariant-loop-number
invariant-loop-number l = l.numbers ≡ numbers_from l.first (l.number - l.first)
