use Rattle.std.proofs.Common.{◌≡◌, map, take}
use Rattle.std.specs.Prelude.{filter_map}
use Rattle.type_pass.specs.Memos.{number_among}
use Rattle.type_pass.specs.Sorts.{mentions}
use Rattle.type_pass.proofs.types.mentions_of.Given as goal

abbrev pub invariant-loop-synonym : goal.invariant-loop-synonym
invariant-loop-synonym l = l.graph.items ≡ map (λ s. filter_map (number_among l.fn.numbers) (mentions s.now.sort)) (take l.synonym-index l.types)
