use Rattle.std.proofs.Common.{◌≡◌, ◌++◌, drop}
use Rattle.tree_terms.specs.declared.linked.Role.TheVariants.{Out}
use Rattle.proc_template.specs.Layout.{numbered}
use Rattle.proc_template.proofs.layout.push_outs.Given as goal

abbrev pub invariant-loop-number : goal.invariant-loop-number
invariant-loop-number l = l.initial.roles ++ numbered (Out l.site) 0 l.sorts ≡ l.roles ++ numbered (Out l.site) l.number (drop l.number l.sorts)
