use Rattle.std.proofs.Common.{◌≡◌, drop}
use Rattle.std.specs.List.{list_all}
use Rattle.flat_parts.specs.Parts.{is_behind}
use Rattle.flat_parts.proofs.commands.are_behind.Given as goal

abbrev pub invariant-loop-target : goal.invariant-loop-target
invariant-loop-target l = list_all (is_behind l.number l.count) (drop l.target-index l.targets) ≡ list_all (is_behind l.number l.count) l.targets
