use Rattle.std.proofs.Common.{◌≡◌, ◌++◌, drop}
use Rattle.passive_form.specs.Local.{picked}
use Rattle.passive_form.proofs.sites.picked.Given as goal

abbrev pub invariant-loop-place : goal.invariant-loop-place
invariant-loop-place l = picked l.marks l.sorts ≡ l.found ++ picked (drop l.place l.marks) (drop l.place l.sorts)
