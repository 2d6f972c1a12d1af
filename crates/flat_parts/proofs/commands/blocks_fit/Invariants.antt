use Rattle.std.proofs.Common.{◌≡◌, drop, length}
use Rattle.flat_parts.specs.Parts.{blocks_fit}
use Rattle.flat_parts.proofs.commands.blocks_fit.Given as goal

abbrev pub invariant-loop-number : goal.invariant-loop-number
invariant-loop-number l = blocks_fit l.procs l.known (length l.blocks) l.number (drop l.number l.blocks) ≡ blocks_fit l.procs l.known (length l.blocks) 0 l.blocks
