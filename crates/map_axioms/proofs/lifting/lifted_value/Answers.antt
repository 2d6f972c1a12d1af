use Rattle.std.proofs.Common.{◌∙◌, ap, sym, subst, List}
use Rattle.std.specs.Prelude.{Some}
use Rattle.hy_val.specs.declared.value.Value.{Value}
use Rattle.map_axioms.specs.Steps.{Fillable, chosen_by}
use Rattle.map_axioms.proofs.WayBack.{plan_fillable}
use Rattle.map_axioms.proofs.lifting.lifted_value.Goals as goal

pub filled-requires-clause-sorts : goal.filled-requires-clause-sorts
filled-requires-clause-sorts c =
    subst (λ (vs : List Value). Fillable (chosen_by c.args.variables.now c.args.atoms.now) vs c.args.variable.number c.in-Map.index c.in-Map.elem c.args.entries.now) (sym c.requires.known)
    (plan_fillable c.args.source.now c.args.reduced.now c.args.entries.now c.requires.plan (chosen_by c.args.variables.now c.args.atoms.now) c.requires.fits c.args.variable.number c.in-Map.index c.in-Map.elem
    (c.requires.sort ∙ ap Some (sym c.kind.ensures ∙ c.in-Map.is)))
