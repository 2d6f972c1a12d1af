use Rattle.std.proofs.Common.{sym, ◌∙◌, false}
use Rattle.std.proofs.lemmas.List.{get_or_default}
use Rattle.loop_nest.proofs.WalkLaws.{finds-new}
use Rattle.loop_nest.proofs.walk.find.Goals as goal

pub returns : goal.returns
returns c =
    finds-new c.args.block c.args.walk.now.found.items c.push.new.self.items c.args.walk.now.seen.items c.requires.found c.requires.within
    (sym (get_or_default c.args.walk.now.seen.items c.args.block c.index.result.now false c.requires.within) ∙ sym c.index.ensures ∙ c.if-index.false) c.in_ok-push.ensures.items
