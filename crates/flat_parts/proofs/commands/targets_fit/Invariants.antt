use Rattle.std.proofs.Common.{◌≡◌, drop}
use Rattle.flat_prog.specs.Shape.{targets_fit}
use Rattle.flat_parts.proofs.commands.targets_fit.Given as goal

abbrev pub invariant-loop-place : goal.invariant-loop-place
invariant-loop-place l = targets_fit l.known (drop l.place l.sorts) (drop l.place l.vars) ≡ targets_fit l.known l.sorts l.vars
