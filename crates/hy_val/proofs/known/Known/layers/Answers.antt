-- Each store goes behind what was found before, down to the variable.
use Rattle.hy_val.proofs.Keeping.{walk_lower, peel_on, peel_ends, peel_atom, peel_none}
use Rattle.hy_val.proofs.known.Known.layers.Goals as goal

pub loop-under-smaller : goal.loop-under-smaller
loop-under-smaller c =
    walk_lower c.args.self.now.env.now c.args.self.now.kept.now c.loop-under.node
    c.in-Some-Written.under c.in-Some-Written.index c.in-Some-Written.entry c.requires.keeps
    (rw c.in-Some-Written.field-0-is at (c.in-Some-Written.ensures {u = tt}))

pub loop-under-preserved : goal.loop-under-preserved
loop-under-preserved c =
    peel_on c.args.self.now.env.now c.args.self.now.kept.now c.args.place c.loop-under.node
    c.in-Some-Written.under c.in-Some-Written.index c.in-Some-Written.entry c.loop-under.writes.items c.push.new.self.items c.requires.keeps
    (rw c.in-Some-Written.field-0-is at (c.in-Some-Written.ensures {u = tt}))
    c.loop-under.invariant c.in_ok-push-in-Some-Written.ensures.items

pub returns-in-Some-Variable : goal.returns-in-Some-Variable
returns-in-Some-Variable c =
    peel_ends c.args.self.now.env.now c.args.self.now.kept.now c.args.place c.loop-under.node c.in-Some-Variable.var c.loop-under.writes.items c.requires.keeps
    (rw c.in-Some-Variable.field-0-is at (c.in-Some-Variable.ensures {u = tt})) c.loop-under.invariant

pub unreachable-requires : goal.unreachable-requires
unreachable-requires c =
    peel_atom c.args.self.now.env.now c.args.self.now.kept.now c.args.place c.loop-under.node c.in-Some-Atom.field-0-0 c.loop-under.writes.items c.requires.keeps
    (rw c.in-Some-Atom.field-0-is at (c.in-Some-Atom.ensures {u = tt})) c.loop-under.invariant

pub unreachable-requires-in-None : goal.unreachable-requires-in-None
unreachable-requires-in-None c =
    peel_none c.args.self.now.env.now c.args.self.now.kept.now c.args.place c.loop-under.node c.loop-under.writes.items
    (c.in-None.ensures {u = tt}) c.loop-under.invariant
