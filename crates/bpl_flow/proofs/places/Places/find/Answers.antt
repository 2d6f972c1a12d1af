-- The map has the place under its name.
use Rattle.std.proofs.Common.{◌∙◌, ap}
use Rattle.bpl_flow.proofs.Naming.{lookup-place}
use Rattle.bpl_flow.specs.Flow.{place_of}
use Rattle.bpl_flow.proofs.places.Places.find.Goals as goal

pub returns : goal.returns
returns c = c.get.ensures.value ∙ lookup-place c.args.name.now c.self.inside.by_name.entries c.self.invariant ∙ ap (place_of c.args.name.now) c.self.view_is
