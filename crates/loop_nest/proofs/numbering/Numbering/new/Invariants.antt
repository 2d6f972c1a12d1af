use Rattle.std.proofs.Common.{take}
use Rattle.loop_nest.specs.Listed.{IsNumbering}
use Rattle.loop_nest.proofs.numbering.Numbering.new.Given as goal

abbrev pub invariant-loop-number : goal.invariant-loop-number
invariant-loop-number l = IsNumbering (take l.number l.flag-items) l.numbers.items l.before.items
