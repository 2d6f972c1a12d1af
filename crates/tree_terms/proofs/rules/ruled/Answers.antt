use Rattle.std.proofs.Common.{get_or, false}
use Rattle.std.proofs.lemmas.Option.{slice_get-get_or}
use Rattle.tree_terms.specs.declared.rules.Rule.{Rule}
use Rattle.tree_terms.proofs.Ruling.{false_stays, fits_later, ruled_next}
use Rattle.tree_terms.proofs.rules.ruled.Goals as goal

-- what stands for a rule that is not there
abbrev absent : Rule
absent = record { when = 0; negated = false; one = 0; other = 0 }

pub with_rule-requires-clause-never : goal.with_rule-requires-clause-never
with_rule-requires-clause-never c =
    false_stays c.args.terms.now.nodes c.loop-rule.terms.nodes c.args.never c.requires.sorted c.loop-rule.invariant.sorted c.loop-rule.invariant.grows c.requires.never

pub with_rule-requires-clause-rule : goal.with_rule-requires-clause-rule
with_rule-requires-clause-rule c =
    let r = get_or c.args.rules.now c.loop-rule.rule-index absent in
    fits_later c.args.terms.now.nodes c.loop-rule.terms.nodes r c.requires.sorted c.loop-rule.invariant.sorted c.loop-rule.invariant.grows
    (c.requires.rules c.loop-rule.rule-index r (slice_get-get_or c.args.rules.now c.loop-rule.rule-index absent c.loop-rule-test.true))

pub loop-rule-preserved : goal.loop-rule-preserved
loop-rule-preserved c =
    let r = get_or c.args.rules.now c.loop-rule.rule-index absent in
    ruled_next c.args.terms.now.nodes c.loop-rule.terms.nodes c.with_rule.new.terms.nodes c.args.start c.loop-rule.all c.in_ok-all.all c.loop-rule.rule-index c.args.rules.now r
    c.requires.sorted c.requires.rules (slice_get-get_or c.args.rules.now c.loop-rule.rule-index absent c.loop-rule-test.true) c.loop-rule.invariant c.in_ok-all.ensures
