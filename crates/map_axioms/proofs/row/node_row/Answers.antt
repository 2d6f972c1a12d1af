use Rattle.std.proofs.Common.{◌∙◌, ap, subst}
use Rattle.std.specs.Prelude.{Some}
use Rattle.hy_term.specs.declared.node.TermNode.{TermNode}
use Rattle.map_axioms.specs.Steps.{MapsKnown}
use Rattle.map_axioms.proofs.Rows.{row_no_lit, row_no_unary, row_no_binary, row_no_select}
use Rattle.map_axioms.proofs.Walking.{maps_known}
use Rattle.map_axioms.proofs.Arms.{formula_agrees, arm_zero}
use Rattle.map_axioms.proofs.row.node_row.Goals as goal

pub returns-in_ok-entry-in-ZeroMap-clause-entry : goal.returns-in_ok-entry-in-ZeroMap-clause-entry
returns-in_ok-entry-in-ZeroMap-clause-entry c =
    arm_zero c.args.base c.args.terms.now.nodes c.args.out.now.nodes c.args.entries.now c.args.reds.now c.args.rows.now c.args.top c.args.place (formula_agrees c.args.terms.now c.nodes-nodes.ensures.kept) c.requires.under c.requires.row (maps_known c.args.terms.now.nodes c.args.rows.now c.args.top c.args.place c.args.node c.requires.node c.requires.known) c.in-ZeroMap.index c.in-ZeroMap.elem c.zero.result c.add.new.self.nodes c.in_ok-entry-in-ZeroMap.entry (c.requires.node ∙ ap Some c.in-ZeroMap.is) c.zero.ensures c.in_ok-entry-in-ZeroMap.ensures.node

pub variable_row-requires-clause-node : goal.variable_row-requires-clause-node
variable_row-requires-clause-node c = c.requires.node ∙ ap Some c.in-Variable.is

pub if_row-requires-clause-node : goal.if_row-requires-clause-node
if_row-requires-clause-node c = c.requires.node ∙ ap Some c.in-If.is

pub if_row-requires-clause-known : goal.if_row-requires-clause-known
if_row-requires-clause-known c = subst (λ (x : TermNode). MapsKnown c.args.rows.now c.args.place x) c.in-If.is c.requires.known

pub store_row-requires-clause-node : goal.store_row-requires-clause-node
store_row-requires-clause-node c = c.requires.node ∙ ap Some c.in-Store.is

pub store_row-requires-clause-known : goal.store_row-requires-clause-known
store_row-requires-clause-known c = subst (λ (x : TermNode). MapsKnown c.args.rows.now c.args.place x) c.in-Store.is c.requires.known

pub unreachable-requires : goal.unreachable-requires
unreachable-requires c = row_no_lit c.args.base c.args.terms.now.nodes c.args.out.now.nodes c.args.entries.now c.args.reds.now c.args.rows.now c.args.top c.args.place (formula_agrees c.args.terms.now c.nodes-nodes.ensures.kept) c.requires.under c.requires.row (maps_known c.args.terms.now.nodes c.args.rows.now c.args.top c.args.place c.args.node c.requires.node c.requires.known) c.in-Lit.field-0 (c.requires.node ∙ ap Some c.in-Lit.is)

pub unreachable-requires-in-Unary : goal.unreachable-requires-in-Unary
unreachable-requires-in-Unary c = row_no_unary c.args.base c.args.terms.now.nodes c.args.out.now.nodes c.args.entries.now c.args.reds.now c.args.rows.now c.args.top c.args.place (formula_agrees c.args.terms.now c.nodes-nodes.ensures.kept) c.requires.under c.requires.row (maps_known c.args.terms.now.nodes c.args.rows.now c.args.top c.args.place c.args.node c.requires.node c.requires.known) c.in-Unary.op c.in-Unary.child (c.requires.node ∙ ap Some c.in-Unary.is)

pub unreachable-requires-in-Binary : goal.unreachable-requires-in-Binary
unreachable-requires-in-Binary c = row_no_binary c.args.base c.args.terms.now.nodes c.args.out.now.nodes c.args.entries.now c.args.reds.now c.args.rows.now c.args.top c.args.place (formula_agrees c.args.terms.now c.nodes-nodes.ensures.kept) c.requires.under c.requires.row (maps_known c.args.terms.now.nodes c.args.rows.now c.args.top c.args.place c.args.node c.requires.node c.requires.known) c.in-Binary.op c.in-Binary.left c.in-Binary.right (c.requires.node ∙ ap Some c.in-Binary.is)

pub unreachable-requires-in-Select : goal.unreachable-requires-in-Select
unreachable-requires-in-Select c = row_no_select c.args.base c.args.terms.now.nodes c.args.out.now.nodes c.args.entries.now c.args.reds.now c.args.rows.now c.args.top c.args.place (formula_agrees c.args.terms.now c.nodes-nodes.ensures.kept) c.requires.under c.requires.row (maps_known c.args.terms.now.nodes c.args.rows.now c.args.top c.args.place c.args.node c.requires.node c.requires.known) c.in-Select.map c.in-Select.index (c.requires.node ∙ ap Some c.in-Select.is)
