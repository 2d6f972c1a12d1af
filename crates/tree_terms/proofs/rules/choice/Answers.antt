use Rattle.tree_terms.proofs.Ruling.{chosen, if_fits}
use Rattle.tree_terms.proofs.rules.choice.Goals as goal

pub placed-requires : goal.placed-requires
placed-requires c = record { fits = if_fits c.args.terms.now.nodes c.args.cond c.args.yes c.args.no c.requires.sorted c.requires.cond c.requires.yes c.requires.no; sorted = c.requires.sorted }

pub returns : goal.returns
returns c = chosen c.args.terms.now.nodes c.placed.new.terms.nodes c.args.cond c.args.yes c.args.no c.in_ok-place.place c.requires.sorted c.requires.cond c.requires.yes c.requires.no c.in_ok-place.ensures
