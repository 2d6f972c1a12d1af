use Rattle.std.proofs.Common.{◌≡◌, map, take}
use Rattle.type_pass.proofs.indexed.named_numbers.Given as goal

abbrev pub invariant-loop-named : goal.invariant-loop-named
invariant-loop-named l = map (λ t. t.now) l.texts.items ≡ map (λ n. n.name) (take l.named-index l.names)
