use Rattle.std.proofs.Common.{◌≡◌, refl, sym, ◌∙◌, ap, subst}
use Rattle.std.specs.Prelude.{IfOk}
use Rattle.hy_val.specs.declared.value.Value.{Value}
use Rattle.hy_val.specs.Values.{at}
use Rattle.tree_query.proofs.Evaluating.{listed_value}
use Rattle.tree_query.proofs.valuing.variable_value.Goals as goal

pub returns : goal.returns
returns c =
    let same = ap (at c.args.model.now) c.place_of.ensures ∙ sym (listed_value c.args.number c.args.variables.now c.args.model.now (record { number = c.args.number; sort = c.requires.listed.0 }) c.requires.listed.1 refl) in
    subst (λ (x : Value). IfOk c.value_at.result (λ v. v ≡ x)) same c.value_at.ensures
