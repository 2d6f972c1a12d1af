use Rattle.std.proofs.Common.{slice_index_or}
use Rattle.tree_terms.proofs.Ruling.{false_stays}
use Rattle.tree_words.proofs.PairBools.{pair_is, pair_bools, marks_next}
use Rattle.tree_words.proofs.marking.marks.Goals as goal

pub choice-requires-clause-cond : goal.choice-requires-clause-cond
choice-requires-clause-cond c = (pair_bools c.args.terms.now.nodes c.loop-pair.terms.nodes c.args.pairs.now c.loop-pair.list.items c.loop-pair.pair-index c.requires.sorted c.requires.pairs c.loop-pair.invariant c.loop-pair-test.true).0

pub choice-requires-clause-yes : goal.choice-requires-clause-yes
choice-requires-clause-yes c = (pair_bools c.args.terms.now.nodes c.loop-pair.terms.nodes c.args.pairs.now c.loop-pair.list.items c.loop-pair.pair-index c.requires.sorted c.requires.pairs c.loop-pair.invariant c.loop-pair-test.true).1

pub choice-requires-clause-no : goal.choice-requires-clause-no
choice-requires-clause-no c = (false_stays c.args.terms.now.nodes c.loop-pair.terms.nodes c.args.never c.requires.sorted c.loop-pair.invariant.sorted c.loop-pair.invariant.grows c.requires.never).bool

pub loop-pair-preserved : goal.loop-pair-preserved
loop-pair-preserved c =
    marks_next c.args.terms.now.nodes c.loop-pair.terms.nodes c.choice.new.terms.nodes c.args.pairs.now c.loop-pair.list.items c.push.new.self.items c.loop-pair.pair-index c.args.never c.in_ok-place.place
    (slice_index_or c.args.pairs.now c.loop-pair.pair-index (0, 0)) c.requires.sorted c.requires.never c.requires.pairs c.loop-pair.invariant (pair_is c.args.pairs.now c.loop-pair.pair-index c.loop-pair-test.true)
    c.in_ok-place.ensures c.in_ok-push.ensures.items
