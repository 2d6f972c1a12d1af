use Rattle.std.proofs.Common.{◌≡◌, ◌++◌, drop}
use Rattle.proc_template.specs.Layout.{after_roles}
use Rattle.proc_template.proofs.layout.push_after.Given as goal

abbrev pub invariant-loop-number : goal.invariant-loop-number
invariant-loop-number l = l.initial.roles ++ after_roles l.site l.changes 0 l.before ≡ l.roles ++ after_roles l.site l.changes l.number (drop l.number l.before)
