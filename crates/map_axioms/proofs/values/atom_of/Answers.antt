use Rattle.std.proofs.Common.{◌∙◌, ap, sym}
use Rattle.hy_val.specs.declared.value.Value.TheVariants.{Atom as AtomValue}
use Rattle.map_axioms.proofs.Evaluating.{look_there, look_other, look_none}
use Rattle.map_axioms.proofs.values.atom_of.Goals as goal

pub returns-then-variable-number : goal.returns-then-variable-number
returns-then-variable-number c =
    look_there c.args.number c.place_of-place.result c.args.variables.now c.args.atoms.now c.in-Some.variable.now c.atom_at.result c.requires c.place_of-place.ensures (sym c.in-Some.ensures) c.if-variable-number.true c.atom_at.ensures

pub returns-else-variable-number : goal.returns-else-variable-number
returns-else-variable-number c =
    ap (λ a. AtomValue a) c.bool.ensures
    ∙ look_other c.args.number c.place_of-place.result c.args.variables.now c.args.atoms.now c.in-Some.variable.now c.requires c.place_of-place.ensures (sym c.in-Some.ensures) c.if-variable-number.false

pub returns-in-None : goal.returns-in-None
returns-in-None c =
    ap (λ a. AtomValue a) c.bool-in-None.ensures ∙ look_none c.args.number c.place_of-place.result c.args.variables.now c.args.atoms.now c.requires c.place_of-place.ensures (sym c.in-None.ensures)
