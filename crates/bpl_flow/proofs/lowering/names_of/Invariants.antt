use Rattle.std.proofs.Common.{◌≡◌, map, take}
use Rattle.bpl_type.specs.WellTyped.{named}
use Rattle.bpl_flow.proofs.lowering.names_of.Given as goal

abbrev pub invariant-loop-entry : goal.invariant-loop-entry
invariant-loop-entry l = l.copies ≡ map named (take l.entry-index l.names)
