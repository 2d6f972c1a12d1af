use Rattle.std.proofs.Common.{◌∙◌, ap, map}
use Rattle.std.proofs.lemmas.List.{take_all}
use Rattle.std.specs.Prelude.{filter_map}
use Rattle.type_pass.specs.Memos.{number_among, heads}
use Rattle.type_pass.proofs.TypeLaws.{graph-known}
use Rattle.type_pass.proofs.types.heads_of.Goals as goal

pub returns : goal.returns
returns c =
    graph-known heads c.args.types.now c.args.numbers.now c.loop-synonym.graph.items c.requires
    (c.loop-synonym.invariant ∙ ap (λ ts. map (λ s. filter_map (number_among c.args.numbers.now) (heads s.now.sort)) ts) (take_all c.loop-synonym.synonym-index c.args.types.now c.loop-synonym-test.false))
