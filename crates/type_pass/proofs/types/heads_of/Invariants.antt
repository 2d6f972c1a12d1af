use Rattle.std.proofs.Common.{◌≡◌, map, take}
use Rattle.std.specs.Prelude.{filter_map}
use Rattle.type_pass.specs.Memos.{number_among, heads}
use Rattle.type_pass.proofs.types.heads_of.Given as goal

abbrev pub invariant-loop-synonym : goal.invariant-loop-synonym
invariant-loop-synonym l = l.graph.items ≡ map (λ s. filter_map (number_among l.fn.numbers) (heads s.now.sort)) (take l.synonym-index l.types)
