use Rattle.hy_val.proofs.Keeping.{atom_known, atom_sorted, atom_of_variable, atom_of_written, atom_of_none}
use Rattle.hy_val.proofs.known.Known.atom.Goals as goal

pub returns-in-Some-Atom-clause-value : goal.returns-in-Some-Atom-clause-value
returns-in-Some-Atom-clause-value c =
    atom_known c.args.self.now.env.now c.args.self.now.kept.now c.args.place c.in-Some-Atom.a c.requires
    (rw c.in-Some-Atom.field-0-is at (c.in-Some-Atom.ensures {u = tt}))

pub returns-in-Some-Atom-clause-kept : goal.returns-in-Some-Atom-clause-kept
returns-in-Some-Atom-clause-kept c =
    atom_sorted c.args.self.now.env.now c.args.self.now.kept.now c.args.place c.in-Some-Atom.a c.requires
    (rw c.in-Some-Atom.field-0-is at (c.in-Some-Atom.ensures {u = tt}))

pub returns-in-Some-Variable-clause-value : goal.returns-in-Some-Variable-clause-value
returns-in-Some-Variable-clause-value c =
    atom_of_variable c.args.self.now.env.now c.args.self.now.kept.now c.args.place c.in-Some-Variable.field-0-0 c.bool.result c.requires
    (rw c.in-Some-Variable.field-0-is at (c.in-Some-Variable.ensures {u = tt})) c.bool.ensures

pub returns-in-Some-Written-clause-value : goal.returns-in-Some-Written-clause-value
returns-in-Some-Written-clause-value c =
    atom_of_written c.args.self.now.env.now c.args.self.now.kept.now c.args.place
    c.in-Some-Written.field-0-0 c.in-Some-Written.field-0-1 c.in-Some-Written.field-0-2 c.bool-in-Some-Written.result c.requires
    (rw c.in-Some-Written.field-0-is at (c.in-Some-Written.ensures {u = tt})) c.bool-in-Some-Written.ensures

pub returns-in-None-clause-value : goal.returns-in-None-clause-value
returns-in-None-clause-value c =
    atom_of_none c.args.self.now.env.now c.args.self.now.kept.now c.args.place c.bool-in-None.result (c.in-None.ensures {u = tt}) c.bool-in-None.ensures
