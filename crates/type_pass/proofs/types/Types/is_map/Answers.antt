use Rattle.std.proofs.Common.{map}
use Rattle.type_pass.proofs.TypeLaws.{map-noted}
use Rattle.type_pass.proofs.types.Types.is_map.Goals as goal

pub returns : goal.returns
returns c =
    map-noted (map (λ s. s.now) c.self.inside.synonyms.items) c.args.self.now c.self.inside.numbers c.self.inside.maps.items c.as_slice.result.now c.self.inside.sorts.items c.args.text.now c.noted_flag.result
    c.self.view_is c.self.invariant c.as_slice.ensures.value c.noted_flag.ensures
