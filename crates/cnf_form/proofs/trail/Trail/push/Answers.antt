use Rattle.std.proofs.Common.{◌≡◌, ℕ, ◌<◌, false, [], ◌∷◌, ◌++◌, length, get_or, rules, ◌∙◌}
use Rattle.cnf_form.specs.Literal.{is_among}
use Rattle.cnf_form.proofs.Trails.{flags_push, is_distinct-push}
use Rattle.cnf_form.proofs.trail.Trail.push.Goals as goal

pub invariant_of-self-2 : goal.invariant_of-self-2
invariant_of-self-2 c =
    let xs = c.self.inside.literals.items in
    let e : c.push.new.self.items ≡ xs ++ c.code-code.result ∷ [] = search rules in
    let absent : is_among xs c.code-code.result ≡ false = search rules in
    let flagged : (k : ℕ) → get_or c.make_place.new.flags.items k false ≡ is_among xs k =
    λ k. c.make_place.ensures.same k ∙ c.self.invariant.0 k in
    let within : c.code-code.result < length c.make_place.new.flags.items = search rules in
    rw e (flags_push c.make_place.new.flags.items xs c.code-code.result flagged within, is_distinct-push xs c.code-code.result absent c.self.invariant.1)
