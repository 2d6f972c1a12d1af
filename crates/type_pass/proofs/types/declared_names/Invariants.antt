use Rattle.std.proofs.Common.{◌≡◌, map, take}
use Rattle.type_pass.proofs.types.declared_names.Given as goal

abbrev pub invariant-loop-synonym : goal.invariant-loop-synonym
invariant-loop-synonym l = map (λ n. n.now) l.names.items ≡ map (λ s. s.now.name) (take l.synonym-index l.types)
