use Rattle.std.proofs.Common.{◌≡◌, ◌++◌, map, take}
use Rattle.std.specs.Prelude.{flat_map}
use Rattle.type_pass.specs.Declarations.{in_variables}
use Rattle.type_pass.specs.Scopes.{named_of}
use Rattle.type_pass.proofs.scopes.push_locals.Given as goal

abbrev pub invariant-loop-variables : goal.invariant-loop-variables
invariant-loop-variables l = l.named ≡ l.initial.named ++ map (named_of l.types) (flat_map in_variables (take l.variables-index l.locals))
