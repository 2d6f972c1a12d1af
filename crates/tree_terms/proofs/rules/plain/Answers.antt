use Rattle.tree_terms.proofs.Growth.{grows_on}
use Rattle.tree_terms.proofs.Ruling.{bool_stays, rule_on}
use Rattle.tree_terms.proofs.rules.plain.Goals as goal

pub choice-requires-2-clause-cond : goal.choice-requires-2-clause-cond
choice-requires-2-clause-cond c = bool_stays c.args.terms.now.nodes c.choice.new.terms.nodes c.args.rule.one c.requires.sorted c.in_ok-other.ensures.sorted c.in_ok-other.ensures.grows c.requires.rule.one

pub choice-requires-2-clause-yes : goal.choice-requires-2-clause-yes
choice-requires-2-clause-yes c = bool_stays c.args.terms.now.nodes c.choice.new.terms.nodes c.args.all c.requires.sorted c.in_ok-other.ensures.sorted c.in_ok-other.ensures.grows c.requires.all

pub choice-requires-3-clause-cond : goal.choice-requires-3-clause-cond
choice-requires-3-clause-cond c =
    bool_stays c.args.terms.now.nodes c.choice-2.new.terms.nodes c.args.rule.when c.requires.sorted c.in_ok-kept.ensures.sorted
    (grows_on c.args.terms.now.nodes c.choice.new.terms.nodes c.choice-2.new.terms.nodes c.in_ok-other.ensures.grows c.in_ok-kept.ensures.grows) c.requires.rule.when

pub choice-requires-3-clause-no : goal.choice-requires-3-clause-no
choice-requires-3-clause-no c =
    bool_stays c.args.terms.now.nodes c.choice-2.new.terms.nodes c.args.all c.requires.sorted c.in_ok-kept.ensures.sorted
    (grows_on c.args.terms.now.nodes c.choice.new.terms.nodes c.choice-2.new.terms.nodes c.in_ok-other.ensures.grows c.in_ok-kept.ensures.grows) c.requires.all

pub returns : goal.returns
returns c =
    rule_on c.args.terms.now.nodes c.choice.new.terms.nodes c.choice-2.new.terms.nodes c.choice-3.new.terms.nodes c.args.never c.args.all c.in_ok-other.other c.in_ok-kept.kept c.in_ok-place.place c.args.rule
    c.requires.sorted c.requires.never c.requires.all c.requires.rule c.requires.plain c.in_ok-other.ensures c.in_ok-kept.ensures c.in_ok-place.ensures
