use Rattle.std.proofs.Common.{◌≡◌, ◌++◌, map, drop}
use Rattle.type_pass.specs.Tabled.{named_as}
use Rattle.type_pass.proofs.tabled.push_names.Given as goal

abbrev pub invariant-loop-name : goal.invariant-loop-name
invariant-loop-name l = l.named ++ map (named_as l.sort) (drop l.name-index l.names) ≡ l.initial.named ++ map (named_as l.sort) l.names
