use Rattle.std.proofs.Common.{◌<◌, ◌∙◌, length, sym, ap, arith}
use Rattle.std.specs.Prelude.{unwrap_or}
use Rattle.type_pass.specs.Scopes.{body_number}
use Rattle.type_pass.proofs.IndexLaws.{body-at, number-within}
use Rattle.type_pass.proofs.known.Known.body_number.Goals as goal

pub overflow_cast-result : goal.overflow_cast-result
overflow_cast-result c =
    let lt : c.in-Some.number < length c.self.inside.bodies = number-within c.self.inside.bodies c.args.text.now c.in-Some.number (sym c.number.ensures ∙ c.in-Some.is) in
    let few = c.self.invariant.few_bodies in
    omega arith

pub returns-in-None : goal.returns-in-None
returns-in-None c =
    sym (ap (λ t. body_number t c.args.text.now) (sym c.self.view_is) ∙ body-at c.self.inside.tables.now c.self.inside.bodies c.args.text.now c.self.invariant.of_bodies
    ∙ ap (λ o. unwrap_or o 0) (sym c.number.ensures ∙ c.in-None.is))

pub returns-in-Some : goal.returns-in-Some
returns-in-Some c =
    sym (ap (λ t. body_number t c.args.text.now) (sym c.self.view_is) ∙ body-at c.self.inside.tables.now c.self.inside.bodies c.args.text.now c.self.invariant.of_bodies
    ∙ ap (λ o. unwrap_or o 0) (sym c.number.ensures ∙ c.in-Some.is))
