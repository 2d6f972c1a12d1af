-- A store that writes at another index is passed, down to the one that writes here, or to the variable.
use Rattle.std.proofs.Common.{◌≡◌, ◌∙◌, sym}
use Rattle.hy_val.specs.Sorts.{rank}
use Rattle.hy_val.proofs.Keeping.{walk_lower, walk_found, walk_on, walk_index, walk_variable, walk_atom, walk_none}
use Rattle.hy_val.proofs.known.Known.select.Goals as goal

pub returns-then-rank : goal.returns-then-rank
returns-then-rank c =
    walk_found c.args.self.now.env.now c.args.self.now.kept.now c.args.i c.args.place c.loop-under.node
    c.in-Some-Written.under c.in-Some-Written.index c.in-Some-Written.entry c.requires.keeps
    (rw c.in-Some-Written.field-0-is at (c.in-Some-Written.ensures {u = tt}))
    (sym c.rank.ensures ∙ c.if-rank.true ∙ c.rank-in-Some-Written.ensures) c.loop-under.invariant

pub loop-under-smaller : goal.loop-under-smaller
loop-under-smaller c =
    walk_lower c.args.self.now.env.now c.args.self.now.kept.now c.loop-under.node
    c.in-Some-Written.under c.in-Some-Written.index c.in-Some-Written.entry c.requires.keeps
    (rw c.in-Some-Written.field-0-is at (c.in-Some-Written.ensures {u = tt}))

pub loop-under-preserved : goal.loop-under-preserved
loop-under-preserved c =
    walk_on c.args.self.now.env.now c.args.self.now.kept.now c.args.i c.args.place c.loop-under.node
    c.in-Some-Written.under c.in-Some-Written.index c.in-Some-Written.entry c.requires.keeps
    (rw c.in-Some-Written.field-0-is at (c.in-Some-Written.ensures {u = tt}))
    (λ (same : rank c.in-Some-Written.index ≡ rank c.args.i). c.if-rank.false (c.rank.ensures ∙ same ∙ sym c.rank-in-Some-Written.ensures)) c.loop-under.invariant

pub entry_of-requires : goal.entry_of-requires
entry_of-requires c =
    walk_index c.args.self.now.env.now c.args.self.now.kept.now c.args.i c.args.place c.loop-under.node c.in-Some-Variable.var c.requires.keeps
    (rw c.in-Some-Variable.field-0-is at (c.in-Some-Variable.ensures {u = tt})) c.loop-under.invariant

pub returns-in-Some-Variable : goal.returns-in-Some-Variable
returns-in-Some-Variable c =
    walk_variable c.args.self.now.env.now c.args.self.now.kept.now c.args.i c.args.place c.loop-under.node c.in-Some-Variable.var c.entry_of.result c.requires.keeps
    (rw c.in-Some-Variable.field-0-is at (c.in-Some-Variable.ensures {u = tt})) c.loop-under.invariant c.entry_of.ensures

pub returns-in-Some-Atom : goal.returns-in-Some-Atom
returns-in-Some-Atom c =
    walk_atom c.args.self.now.env.now c.args.self.now.kept.now c.args.i c.args.place c.loop-under.node c.in-Some-Atom.field-0-0 c.bool.result c.requires.keeps
    (rw c.in-Some-Atom.field-0-is at (c.in-Some-Atom.ensures {u = tt})) c.loop-under.invariant c.bool.ensures

pub returns-in-None : goal.returns-in-None
returns-in-None c =
    walk_none c.args.self.now.env.now c.args.self.now.kept.now c.args.i c.args.place c.loop-under.node c.bool-in-None.result
    (c.in-None.ensures {u = tt}) c.loop-under.invariant c.bool-in-None.ensures
