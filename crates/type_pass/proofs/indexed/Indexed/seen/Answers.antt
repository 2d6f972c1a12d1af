use Rattle.std.proofs.Common.{sym, ◌∙◌, ap}
use Rattle.std.specs.Option.{option_copied}
use Rattle.type_pass.proofs.IndexLaws.{seen-none, seen-past, seen-some}
use Rattle.type_pass.proofs.indexed.Indexed.seen.Goals as goal

pub returns-in-None : goal.returns-in-None
returns-in-None c = seen-none c.self.inside.names.now c.args.self.now c.self.inside.numbers c.args.text.now c.number.result c.self.view_is c.self.invariant.0 c.number.ensures c.in-None.is

pub returns-in-None-at : goal.returns-in-None-at
returns-in-None-at c =
    seen-past c.self.inside.names.now c.args.self.now c.self.inside.numbers c.args.text.now c.number.result c.in-Some.place c.self.view_is c.self.invariant.0 c.number.ensures c.in-Some.is
    (sym c.at.ensures ∙ ap option_copied c.in-None-at.is)

pub returns-in-Some-at : goal.returns-in-Some-at
returns-in-Some-at c =
    seen-some c.self.inside.names.now c.args.self.now c.self.inside.numbers c.args.text.now c.number.result c.in-Some.place c.in-Some-at.named.now c.self.view_is c.self.invariant.0 c.number.ensures c.in-Some.is
    (sym c.at.ensures ∙ ap option_copied c.in-Some-at.is)
