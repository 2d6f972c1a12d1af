-- A place of a new name stands last, under its name.
use Rattle.std.proofs.Common.{◌∙◌}
use Rattle.bpl_flow.proofs.Naming.{added}
use Rattle.bpl_flow.proofs.places.Places.add.Goals as goal

pub invariant_of-self-2 : goal.invariant_of-self-2
invariant_of-self-2 c =
    (added c.in_ok-name.name c.args.place c.self.inside.by_name.entries c.insert.new.self.entries c.args.self.now ((c.in_ok-name.ensures {u = tt}).items ∙ c.as_slice.ensures) c.self.invariant c.self.view_is c.requires
    (c.in_ok-insert.ensures {u = tt}).entries).named

pub returns : goal.returns
returns c =
    (added c.in_ok-name.name c.args.place c.self.inside.by_name.entries c.insert.new.self.entries c.args.self.now ((c.in_ok-name.ensures {u = tt}).items ∙ c.as_slice.ensures) c.self.invariant c.self.view_is c.requires
    (c.in_ok-insert.ensures {u = tt}).entries).view
