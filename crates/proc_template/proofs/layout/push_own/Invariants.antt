use Rattle.std.proofs.Common.{◌≡◌, ◌++◌, replicate}
use Rattle.tree_terms.specs.declared.linked.Role.TheVariants.{Own}
use Rattle.proc_template.proofs.layout.push_own.Given as goal

abbrev pub invariant-loop : goal.invariant-loop
invariant-loop l = l.roles ≡ l.initial.roles ++ replicate l.counter Own
