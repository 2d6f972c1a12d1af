use Rattle.std.proofs.Common.{◌≡◌, ◌++◌, drop}
use Rattle.std.specs.Prelude.{flat_map}
use Rattle.type_pass.proofs.TableLaws.{group_piece}
use Rattle.type_pass.proofs.tabled.push_groups.Given as goal

abbrev pub invariant-loop-group : goal.invariant-loop-group
invariant-loop-group l = l.named ++ flat_map (group_piece l.fn.types) (drop l.group-index l.groups) ≡ l.initial.named ++ flat_map (group_piece l.fn.types) l.groups
