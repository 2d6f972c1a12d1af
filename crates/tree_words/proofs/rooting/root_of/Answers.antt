use Rattle.std.proofs.Common.{ℕ, List, sym, ap, ◌∙◌, subst}
use Rattle.std.specs.Prelude.{slice_index}
use Rattle.tree_terms.specs.Linked.{template_of}
use Rattle.tree_terms.specs.Tables.{row}
use Rattle.tree_terms.specs.declared.rules.Rule.{Rule}
use Rattle.tree_terms.specs.Rules.{RulesFit}
use Rattle.tree_terms.proofs.Ruling.{false_stays}
use Rattle.tree_words.specs.Linking.{fails_by}
use Rattle.tree_words.specs.Rooting.{term}
use Rattle.tree_words.specs.Asking.{may_by, rules_of}
use Rattle.tree_words.proofs.RootMade.{ready_fit, all_later, made}
use Rattle.tree_words.proofs.rooting.root_of.Goals as goal

pub ruled-requires-clause-never : goal.ruled-requires-clause-never
ruled-requires-clause-never c = false_stays c.args.terms.now.nodes c.choice.new.terms.nodes c.args.never c.requires.sorted c.in_ok-start.ensures.sorted c.in_ok-start.ensures.grows c.requires.never

pub ruled-requires-clause-rules : goal.ruled-requires-clause-rules
ruled-requires-clause-rules c =
    let fit = ready_fit c.args.q.now c.args.terms.now.nodes c.args.places.now c.args.reach.now (may_by c.args.may.now) c.args.always c.args.never c.args.piece.now c.requires.ready c.requires.always c.requires.never in
    subst (λ (rs : List Rule). RulesFit c.choice.new.terms.nodes rs) (sym (c.as_slice.ensures ∙ c.in_ok-rules.ensures))
    (all_later c.args.terms.now.nodes c.choice.new.terms.nodes (rules_of c.args.q.now c.args.places.now c.args.reach.now (may_by c.args.may.now) c.args.always c.args.never c.args.piece.now)
    c.requires.sorted c.in_ok-start.ensures.sorted c.in_ok-start.ensures.grows fit)

pub returns : goal.returns
returns c =
    let fit = ready_fit c.args.q.now c.args.terms.now.nodes c.args.places.now c.args.reach.now (may_by c.args.may.now) c.args.always c.args.never c.args.piece.now c.requires.ready c.requires.always c.requires.never in
    made c.args.terms.now.nodes c.choice.new.terms.nodes c.ruled.new.terms.nodes (term c.args.places.now 0 (fails_by (template_of c.args.q.now 0))) c.number_at-fails.result c.args.axioms c.args.never c.in_ok-start.start
    c.in_ok-root.root (rules_of c.args.q.now c.args.places.now c.args.reach.now (may_by c.args.may.now) c.args.always c.args.never c.args.piece.now) c.as_slice.result.now
    (c.number_at-fails.ensures ∙ (ap (λ (r : List ℕ). slice_index r c.fails_node.result) c.row.ensures ∙ ap (slice_index (row c.args.places.now 0)) c.fails_node.ensures))
    (c.as_slice.ensures ∙ c.in_ok-rules.ensures) c.requires.sorted c.requires.never fit c.in_ok-start.ensures c.in_ok-root.ensures
