use Rattle.std.proofs.Common.{ap, ◌∙◌}
use Rattle.map_axioms.specs.Steps.{asked}
use Rattle.map_axioms.proofs.Looking.{kept_index}
use Rattle.map_axioms.proofs.entries.Entries.push.Goals as goal

pub invariant_of-self-in-Ok : goal.invariant_of-self-in-Ok
invariant_of-self-in-Ok c =
    kept_index c.self.inside.list c.push.new.self c.args.entry c.self.inside.by_ask c.set.new.self c.self.invariant (ap (asked c.args.entry.map c.args.entry.place) c.self.view_is ∙ c.requires) c.in_ok-push.ensures.ok
    (λ a b. c.in-Ok.ensures.set a b)
