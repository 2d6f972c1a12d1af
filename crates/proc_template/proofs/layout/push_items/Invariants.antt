use Rattle.std.proofs.Common.{◌≡◌, ◌++◌, drop}
use Rattle.proc_template.specs.Layout.{items_roles}
use Rattle.proc_template.proofs.layout.push_items.Given as goal

abbrev pub invariant-loop-item : goal.invariant-loop-item
invariant-loop-item l = l.initial.roles ++ items_roles l.site l.items ≡ l.roles ++ items_roles l.next (drop l.item-index l.items)
