use Rattle.std.proofs.Common.{◌≡◌, ◌++◌, map, take}
use Rattle.std.specs.Prelude.{flat_map}
use Rattle.type_pass.specs.Declarations.{in_parameters}
use Rattle.type_pass.specs.Scopes.{named_of}
use Rattle.type_pass.proofs.scopes.push_parameters.Given as goal

abbrev pub invariant-loop-group : goal.invariant-loop-group
invariant-loop-group l = l.named ≡ l.initial.named ++ map (named_of l.types) (flat_map in_parameters (take l.group-index l.groups))
