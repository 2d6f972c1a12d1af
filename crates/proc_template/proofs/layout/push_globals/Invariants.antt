use Rattle.std.proofs.Common.{◌≡◌, ◌++◌, drop}
use Rattle.tree_terms.specs.declared.linked.Role.TheVariants.{Global}
use Rattle.proc_template.specs.Layout.{numbered}
use Rattle.proc_template.proofs.layout.push_globals.Given as goal

abbrev pub invariant-loop-number : goal.invariant-loop-number
invariant-loop-number l = l.initial.roles ++ numbered Global 0 l.sorts ≡ l.roles ++ numbered Global l.number (drop l.number l.sorts)
