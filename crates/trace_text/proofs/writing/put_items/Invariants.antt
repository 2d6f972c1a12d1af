use Rattle.std.proofs.Common.{◌≡◌, ◌++◌, drop}
use Rattle.std.specs.List.{flat_map}
use Rattle.trace_text.specs.Traces.{item_line}
use Rattle.trace_text.proofs.writing.put_items.Given as goal

abbrev pub invariant-loop-item : goal.invariant-loop-item
invariant-loop-item l = l.text ++ flat_map item_line (drop l.item-index l.items) ≡ l.initial.text ++ flat_map item_line l.items
