use Rattle.std.proofs.Common.{◌≡◌, ◌≤◌, ◌++◌, drop}
use Rattle.passive_form.specs.Local.{replaced}
use Rattle.passive_form.proofs.sites.replaced.Given as goal

abbrev pub invariant-loop-place : goal.invariant-loop-place
invariant-loop-place l = record { so : replaced l.marks l.versions l.fresh ≡ l.found ++ replaced (drop l.place l.marks) (drop l.place l.versions) (drop l.used l.fresh); few : l.used ≤ l.place }
