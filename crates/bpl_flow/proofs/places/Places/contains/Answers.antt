-- The map has a key for each name.
use Rattle.std.proofs.Common.{◌∙◌, ap, is_some}
use Rattle.bpl_flow.proofs.Naming.{lookup-place, place-some}
use Rattle.bpl_flow.specs.Walk.{is_placed}
use Rattle.bpl_flow.proofs.places.Places.contains.Goals as goal

pub returns : goal.returns
returns c =
    c.contains_key.ensures ∙ ap is_some (lookup-place c.args.name.now c.self.inside.by_name.entries c.self.invariant) ∙ place-some c.args.name.now _ ∙ ap (is_placed c.args.name.now) c.self.view_is
