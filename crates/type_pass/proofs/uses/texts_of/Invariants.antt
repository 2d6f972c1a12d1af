use Rattle.std.proofs.Common.{◌≡◌, map, take}
use Rattle.type_pass.proofs.uses.texts_of.Given as goal

abbrev pub invariant-loop-name : goal.invariant-loop-name
invariant-loop-name l = map (λ t. t.now) l.texts.items ≡ map (λ n. n.now.text) (take l.name-index l.names)
