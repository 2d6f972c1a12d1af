use Rattle.std.proofs.Common.{sym, ap, ◌∙◌}
use Rattle.std.specs.Option.{option_copied}
use Rattle.tree_words.proofs.Listing.{row_some, row_none}
use Rattle.tree_words.proofs.lists.row_at.Goals as goal

pub returns-in-None : goal.returns-in-None
returns-in-None c = row_none c.args.rows.now c.args.index (sym c.at.ensures ∙ ap option_copied c.in-None.is)

pub returns-in-Some : goal.returns-in-Some
returns-in-Some c = c.as_slice.ensures ∙ row_some c.args.rows.now c.args.index c.in-Some.numbers.now (sym c.at.ensures ∙ ap option_copied c.in-Some.is)
