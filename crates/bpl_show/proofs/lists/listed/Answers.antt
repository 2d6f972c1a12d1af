use Rattle.std.specs.Prelude.{codes}
use Rattle.std.proofs.lemmas.Result.{on_ok_weaker}
use Rattle.bpl_show.specs.Tokens.{word}
use Rattle.bpl_show.proofs.Loops.{joined_from}
use Rattle.bpl_show.proofs.lists.listed.Goals as goal

pub returns-in_ok-show-in-len1-up : goal.returns-in_ok-show-in-len1-up
returns-in_ok-show-in-len1-up g c =
    on_ok_weaker c.behind_commas.result (joined_from g.T.Show.tokens (word (codes ",")) c.first-item.result c.args.items.now c.args.out.now c.show.new.out c.behind_commas.new.out c.in-len1-up.len_at_least c.first-item.is c.in_ok-show-in-len1-up.ensures) c.behind_commas.ensures
