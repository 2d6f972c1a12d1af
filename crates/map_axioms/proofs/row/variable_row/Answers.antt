use Rattle.std.proofs.Common.{◌∙◌, sym, subst, List}
use Rattle.hy_val.specs.Values.{select_value}
use Rattle.hy_term.specs.Meaning.{value}
use Rattle.hy_term.specs.declared.node.TermNode.{TermNode}
use Rattle.hy_term.specs.declared.node.TermNode.TheVariants.{Variable}
use Rattle.map_axioms.specs.Steps.{IsAsked, Placed}
use Rattle.map_axioms.proofs.Walking.{maps_known}
use Rattle.map_axioms.proofs.Arms.{formula_agrees, arm_asked, arm_variable, arm_no_scalar}
use Rattle.map_axioms.proofs.row.variable_row.Goals as goal

pub variable_entry-requires-clause-ask : goal.variable_entry-requires-clause-ask
variable_entry-requires-clause-ask c =
    subst (λ (ns : List TermNode). IsAsked c.args.base ns c.args.out.now.nodes c.args.entries.now c.args.number c.args.place c.reduced_at-index.result c.in-Map.elem) (sym c.nodes-nodes.ensures.value)
    (arm_asked c.args.base c.args.terms.now.nodes c.args.out.now.nodes c.args.entries.now c.args.reds.now c.args.rows.now c.args.top c.args.place (formula_agrees c.args.terms.now c.nodes-nodes.ensures.kept) c.requires.under c.requires.row (maps_known c.args.terms.now.nodes c.args.rows.now c.args.top c.args.place (Variable c.args.number c.args.sort) c.requires.node tt) c.args.number c.reduced_at-index.result c.args.sort c.in-Map.index c.in-Map.elem c.requires.node (sym c.kind.ensures ∙ c.in-Map.is) c.reduced_at-index.ensures)

pub unreachable-requires : goal.unreachable-requires
unreachable-requires c = arm_no_scalar c.args.base c.args.terms.now.nodes c.args.out.now.nodes c.args.entries.now c.args.reds.now c.args.rows.now c.args.top c.args.place (formula_agrees c.args.terms.now c.nodes-nodes.ensures.kept) c.requires.under c.requires.row (maps_known c.args.terms.now.nodes c.args.rows.now c.args.top c.args.place (Variable c.args.number c.args.sort) c.requires.node tt) c.args.number c.args.sort c.in-Scalar.field-0 c.requires.node (sym c.kind.ensures ∙ c.in-Scalar.is)

pub returns-clause-entry : goal.returns-clause-entry
returns-clause-entry c =
    arm_variable c.args.base c.args.terms.now.nodes c.args.out.now.nodes c.args.entries.now c.args.reds.now c.args.rows.now c.args.top c.args.place (formula_agrees c.args.terms.now c.nodes-nodes.ensures.kept) c.requires.under c.requires.row (maps_known c.args.terms.now.nodes c.args.rows.now c.args.top c.args.place (Variable c.args.number c.args.sort) c.requires.node tt) c.args.number c.args.sort c.in-Map.index c.in-Map.elem c.variable_entry.new.out.nodes c.variable_entry.new.entries c.in_ok-entry-in-Map.entry c.requires.node (sym c.kind.ensures ∙ c.in-Map.is)
    (subst (λ (ns : List TermNode). Placed c.args.base ns c.args.out.now.nodes c.args.entries.now c.variable_entry.new.out.nodes c.variable_entry.new.entries c.in-Map.elem c.in_ok-entry-in-Map.entry (λ a. select_value (a c.args.number) (value a ns c.args.place)))
    c.nodes-nodes.ensures.value c.in_ok-entry-in-Map.ensures.entry)
