-- The formulas are moved into the table.
use Rattle.std.proofs.Common.{List, ℕ, subst, sym}
use Rattle.template_law.specs.Formulas.{AreChanges}
use Rattle.tree_terms.specs.declared.linked.Template.{Template}
use Rattle.tree_query.specs.Tabled.{HaveSites}
use Rattle.tree_query.proofs.Tabling.{table_is}
use Rattle.tree_query.proofs.formulas.Formulas.tried.Goals as goal

pub places-requires-clause-templates : goal.places-requires-clause-templates
places-requires-clause-templates c =
    subst (λ (ts : List Template). HaveSites c.args.flat.now ts) (sym c.as_slice.ensures) (c.formulas_have_sites.ensures c.args.flat.now c.args.self.now c.requires.formulas)

pub answer-result-requires-clause-changes : goal.answer-result-requires-clause-changes
answer-result-requires-clause-changes c = subst (λ (cs : List (List ℕ)). AreChanges c.args.flat.now cs) (sym c.as_slice-2.ensures) c.requires.formulas.changes_are

pub answer-result-requires-clause-table : goal.answer-result-requires-clause-table
answer-result-requires-clause-table c =
    let x = c.in_ok-foundation.foundation in
    table_is c.tables_are_ready.ensures c.args.flat.now c.args.entry c.args.bound c.args.tree.now c.args.piece.now c.args.self.now
    (record { templates = c.replace.result; tree = c.in_ok-nodes.nodes; consts = x.consts; globals = x.globals; args = x.args }) x.terms.nodes x.bools.allowed x.bools.always x.bools.never c.requires.formulas
    c.requires.asked c.in_ok-foundation.ensures c.in_ok-nodes.ensures c.replace.ensures.value
