use Rattle.std.proofs.Common.{sym, ap, ◌∙◌, option_copied}
use Rattle.frontier.proofs.Lists.{last_is}
use Rattle.frontier.proofs.ways.last_on.Goals as goal

pub returns-in-Some : goal.returns-in-Some
returns-in-Some c = last_is c.args.way.now 0 c.in-Some.last.now (sym c.last.ensures.value ∙ ap option_copied c.in-Some.is)
