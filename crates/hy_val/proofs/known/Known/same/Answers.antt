use Rattle.std.proofs.Common.{sym, ◌∙◌, ap}
use Rattle.hy_val.specs.declared.value.Value.TheVariants.{Atom as AtomValue}
use Rattle.hy_val.proofs.Keeping.{same_known, same_may, none_known}
use Rattle.hy_val.proofs.known.Known.same.Goals as goal

pub returns-in-Some-clause-value : goal.returns-in-Some-clause-value
returns-in-Some-clause-value c =
    same_known c.args.self.now.env.now c.args.self.now.kept.now c.args.place c.in-Some.kept.now c.requires (c.in-Some.ensures {u = tt})

pub returns-in-Some-clause-may : goal.returns-in-Some-clause-may
returns-in-Some-clause-may c =
    same_may c.args.self.now.env.now c.args.self.now.kept.now c.args.place c.in-Some.kept.now c.requires (c.in-Some.ensures {u = tt})

pub returns-in-None-clause-value : goal.returns-in-None-clause-value
returns-in-None-clause-value c =
    ap AtomValue c.bool.ensures ∙ sym (none_known c.args.self.now.env.now c.args.self.now.kept.now c.args.place (sym (c.in-None.ensures {u = tt})))
