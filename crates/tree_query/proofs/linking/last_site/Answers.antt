use Rattle.std.proofs.Common.{sym, ap, ◌∙◌, option_copied}
use Rattle.tree_query.proofs.Tables.{last_is}
use Rattle.tree_query.proofs.linking.last_site.Goals as goal

pub returns-in-Some : goal.returns-in-Some
returns-in-Some c = last_is c.args.path.now 0 c.in-Some.site.now (sym c.last.ensures.value ∙ ap option_copied c.in-Some.is)
