use Rattle.std.proofs.Common.{◌≡◌, drop}
use Rattle.flat_prog.specs.Shape.{args_fit}
use Rattle.flat_parts.proofs.commands.args_fit.Given as goal

abbrev pub invariant-loop-place : goal.invariant-loop-place
invariant-loop-place l = args_fit l.known (drop l.place l.sorts) (drop l.place l.args) ≡ args_fit l.known l.sorts l.args
