use Rattle.std.proofs.Common.{map, sym, subst, ◌∙◌}
use Rattle.type_pass.specs.Circles.{IsClosed}
use Rattle.type_pass.specs.Graphs.{Graph}
use Rattle.type_pass.proofs.CyclicTypes.{types-closed, cyclic-ok, numbered-types}
use Rattle.type_pass.proofs.types.Types.cyclic_type.Goals as goal

pub mentions_of-requires : goal.mentions_of-requires
mentions_of-requires c = numbered-types c.self.inside.synonyms.items c.as_slice-types.result.now c.self.inside.numbers c.self.inside.maps.items c.self.inside.sorts.items c.as_slice-types.ensures.value c.self.invariant

pub cyclic_name-requires : goal.cyclic_name-requires
cyclic_name-requires c = subst (λ (g : Graph). IsClosed g) (sym (c.as_slice.ensures.value ∙ c.in_ok-graph.ensures)) (types-closed (map (λ s. s.now) c.as_slice-types.result.now))

pub returns : goal.returns
returns c =
    cyclic-ok c.cyclic_name.result c.self.inside.synonyms.items c.as_slice-types.result.now c.args.self.now c.in_ok-graph.graph.items c.as_slice.result.now c.in_ok-names.names.items c.as_slice-2.result.now
    c.as_slice-types.ensures.value c.self.view_is c.as_slice.ensures.value c.as_slice-2.ensures.value c.in_ok-graph.ensures c.in_ok-names.ensures c.cyclic_name.ensures
