use Rattle.std.proofs.Common.{◌≡◌, ◌++◌, drop}
use Rattle.tree_terms.specs.declared.linked.Role.TheVariants.{In}
use Rattle.proc_template.specs.Layout.{numbered}
use Rattle.proc_template.proofs.layout.push_ins.Given as goal

abbrev pub invariant-loop-number : goal.invariant-loop-number
invariant-loop-number l = l.initial.roles ++ numbered In 0 l.sorts ≡ l.roles ++ numbered In l.number (drop l.number l.sorts)
