use Rattle.std.proofs.Common.{map, sym, ◌∙◌, ap}
use Rattle.std.specs.Prelude.{unwrap_or}
use Rattle.hy_val.specs.declared.sort.ScalarKind.TheVariants.{Bool as BoolSort}
use Rattle.hy_val.specs.declared.sort.SortKind.TheVariants.{Scalar as ScalarSort}
use Rattle.type_pass.proofs.TypeLaws.{sort-of-noted}
use Rattle.type_pass.proofs.types.Types.sort_of.Goals as goal

pub returns-in-None : goal.returns-in-None
returns-in-None c =
    c.scalar.ensures ∙ ap ScalarSort c.bool.ensures
    ∙ sym (ap (λ o. unwrap_or o (ScalarSort BoolSort))
    (sym (sort-of-noted (map (λ s. s.now) c.self.inside.synonyms.items) c.args.self.now c.self.inside.numbers c.self.inside.maps.items c.self.inside.sorts.items c.as_slice.result.now c.args.sort.now c.resolve.result
    c.self.view_is c.self.invariant c.as_slice.ensures.value c.resolve.ensures) ∙ c.in-None.is))

pub returns-in-Some : goal.returns-in-Some
returns-in-Some c =
    sym (ap (λ o. unwrap_or o (ScalarSort BoolSort))
    (sym (sort-of-noted (map (λ s. s.now) c.self.inside.synonyms.items) c.args.self.now c.self.inside.numbers c.self.inside.maps.items c.self.inside.sorts.items c.as_slice.result.now c.args.sort.now c.resolve.result
    c.self.view_is c.self.invariant c.as_slice.ensures.value c.resolve.ensures) ∙ c.in-Some.is))
