use Rattle.std.proofs.Common.{◌≡◌, map, take}
use Rattle.type_pass.proofs.types.names_of.Given as goal

abbrev pub invariant-loop-synonym : goal.invariant-loop-synonym
invariant-loop-synonym l = map (λ t. t.now) l.names.items ≡ map (λ s. s.now.name.text) (take l.synonym-index l.types)
