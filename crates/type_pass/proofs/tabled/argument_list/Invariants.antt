use Rattle.std.proofs.Common.{◌≡◌, map, take}
use Rattle.type_pass.specs.Scopes.{argument_of}
use Rattle.type_pass.proofs.tabled.argument_list.Given as goal

abbrev pub invariant-loop-argument : goal.invariant-loop-argument
invariant-loop-argument l = l.named ≡ map (argument_of l.fn.types) (take l.argument-index l.arguments)
