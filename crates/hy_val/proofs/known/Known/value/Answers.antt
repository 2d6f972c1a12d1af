use Rattle.std.proofs.Common.{sym, ◌∙◌, ap}
use Rattle.hy_val.specs.declared.value.Value.TheVariants.{Atom as AtomValue}
use Rattle.hy_val.proofs.Keeping.{variable_map, written_map, atom_value, none_known}
use Rattle.hy_val.proofs.known.Known.value.Goals as goal

pub map-requires-clause-map : goal.map-requires-clause-map
map-requires-clause-map c =
    variable_map c.args.self.now.env.now c.args.self.now.kept.now c.args.place c.in-Some-Variable.field-0-0 c.requires
    (rw c.in-Some-Variable.field-0-is at (c.in-Some-Variable.ensures {u = tt}))

pub map-requires-in-Some-Written-clause-map : goal.map-requires-in-Some-Written-clause-map
map-requires-in-Some-Written-clause-map c =
    written_map c.args.self.now.env.now c.args.self.now.kept.now c.args.place
    c.in-Some-Written.field-0-0 c.in-Some-Written.field-0-1 c.in-Some-Written.field-0-2 c.requires
    (rw c.in-Some-Written.field-0-is at (c.in-Some-Written.ensures {u = tt}))

pub returns-in-Some-Atom : goal.returns-in-Some-Atom
returns-in-Some-Atom c =
    atom_value c.args.self.now.env.now c.args.self.now.kept.now c.args.place c.in-Some-Atom.a c.requires
    (rw c.in-Some-Atom.field-0-is at (c.in-Some-Atom.ensures {u = tt}))

pub returns-in-None : goal.returns-in-None
returns-in-None c =
    ap AtomValue c.bool.ensures ∙ sym (none_known c.args.self.now.env.now c.args.self.now.kept.now c.args.place (sym (c.in-None.ensures {u = tt})))
