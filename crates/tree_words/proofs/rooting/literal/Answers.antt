use Rattle.tree_words.proofs.RootMade.{literal_is}
use Rattle.tree_words.proofs.rooting.literal.Goals as goal

pub returns : goal.returns
returns c = literal_is c.args.terms.now.nodes c.placed.new.terms.nodes c.args.value c.bool.result c.in_ok-place.place c.requires c.bool.ensures c.in_ok-place.ensures
