use Rattle.std.proofs.Common.{take}
use Rattle.loop_nest.specs.Listed.{IsMade}
use Rattle.loop_nest.proofs.making.loops.Given as goal

abbrev pub invariant-loop-at : goal.invariant-loop-at
invariant-loop-at l = IsMade l.numbering.flags.items (take l.at l.spans) l.making.loops l.making.opened.items
