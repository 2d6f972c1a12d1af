use Rattle.std.proofs.Common.{◌≡◌, map, take}
use Rattle.type_pass.proofs.indexed.function_numbers.Given as goal

abbrev pub invariant-loop-function : goal.invariant-loop-function
invariant-loop-function l = map (λ t. t.now) l.texts.items ≡ map (λ f. f.name) (take l.function-index l.functions)
