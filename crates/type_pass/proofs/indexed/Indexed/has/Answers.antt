use Rattle.std.proofs.Common.{is_some, sym, ◌∙◌, ap}
use Rattle.type_pass.proofs.IndexLaws.{place-in}
use Rattle.type_pass.proofs.indexed.Indexed.has.Goals as goal

pub returns : goal.returns
returns c = c.is_some.ensures ∙ sym (ap is_some (place-in c.self.inside.names.now c.args.self.now c.self.inside.numbers c.args.text.now c.number.result c.self.view_is c.self.invariant.0 c.number.ensures))
