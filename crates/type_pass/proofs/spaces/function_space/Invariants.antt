use Rattle.std.proofs.Common.{◌≡◌, ◌++◌, map, drop}
use Rattle.std.specs.Prelude.{flat_map}
use Rattle.type_pass.specs.Names.{name_if}
use Rattle.type_pass.proofs.spaces.function_space.Given as goal

abbrev pub invariant-loop-argument : goal.invariant-loop-argument
invariant-loop-argument l = map (λ n. n.now) l.names.items ++ flat_map (λ a. name_if a.name) (drop l.argument-index l.fn.function.arguments) ≡ flat_map (λ a. name_if a.name) l.fn.function.arguments
