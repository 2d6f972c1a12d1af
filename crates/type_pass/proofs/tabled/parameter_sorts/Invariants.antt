use Rattle.std.proofs.Common.{◌≡◌, ◌++◌, drop}
use Rattle.std.specs.Prelude.{flat_map}
use Rattle.type_pass.proofs.TableLaws.{sort_piece}
use Rattle.type_pass.proofs.tabled.parameter_sorts.Given as goal

abbrev pub invariant-loop-group : goal.invariant-loop-group
invariant-loop-group l = l.sorts ++ flat_map (sort_piece l.fn.types) (drop l.group-index l.groups) ≡ flat_map (sort_piece l.fn.types) l.groups
