use Rattle.tree_words.proofs.Filling.{sorts_hold}
use Rattle.tree_words.proofs.laws.copies_hold_sorts.Goals as goal

pub returns : goal.returns
returns c = λ flat entry q track base into places f a filled signed linked done grows ok fit.
    sorts_hold c.each_value_has_its_sort.ensures flat entry q track base into places f a filled signed linked done grows ok fit
