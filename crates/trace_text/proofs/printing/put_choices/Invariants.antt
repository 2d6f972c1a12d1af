use Rattle.std.proofs.Common.{◌≡◌, ◌++◌, drop}
use Rattle.std.specs.List.{flat_map}
use Rattle.trace_text.specs.Printing.{items_of}
use Rattle.trace_text.specs.Traces.{item_line}
use Rattle.trace_text.proofs.printing.put_choices.Given as goal

abbrev pub invariant-loop-index : goal.invariant-loop-index
invariant-loop-index l = l.text ++ flat_map item_line (items_of (drop l.index l.names) (drop l.index l.choices)) ≡ l.initial.text ++ flat_map item_line (items_of l.names l.choices)
