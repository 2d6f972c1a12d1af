use Rattle.std.proofs.Common.{map, is_some, ◌∙◌, ap}
use Rattle.type_pass.proofs.TypeLaws.{number-noted}
use Rattle.type_pass.proofs.types.Types.is_type.Goals as goal

pub returns : goal.returns
returns c =
    c.is_some.ensures ∙ ap is_some (c.number.ensures ∙ number-noted (map (λ s. s.now) c.self.inside.synonyms.items) c.args.self.now c.self.inside.numbers c.self.inside.maps.items c.self.inside.sorts.items c.args.text.now
    c.self.view_is c.self.invariant)
