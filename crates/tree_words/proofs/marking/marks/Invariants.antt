use Rattle.tree_words.specs.Marking.{MarksTo}
use Rattle.tree_words.proofs.marking.marks.Given as goal

abbrev pub invariant-loop-pair : goal.invariant-loop-pair
invariant-loop-pair l = MarksTo l.fn.terms.nodes l.terms.nodes l.pairs l.list.items l.pair-index
