use Rattle.hy_term.specs.declared.node.TermNode.TheVariants.{If}
use Rattle.map_axioms.proofs.Walking.{maps_known}
use Rattle.map_axioms.proofs.Arms.{formula_agrees, arm_if_fits, arm_if}
use Rattle.map_axioms.proofs.row.if_row.Goals as goal

pub add-requires : goal.add-requires
add-requires c =
    arm_if_fits c.args.base c.args.terms.now.nodes c.args.out.now.nodes c.args.entries.now c.args.reds.now c.args.rows.now c.args.top c.args.place (formula_agrees c.args.terms.now c.nodes-nodes.ensures.kept) c.requires.under c.requires.row (maps_known c.args.terms.now.nodes c.args.rows.now c.args.top c.args.place (If c.args.cond c.args.yes c.args.no) c.requires.node c.requires.known) c.args.cond c.args.yes c.args.no c.reduced_at.result c.entry_at.result c.entry_at-2.result c.requires.node c.reduced_at.ensures c.entry_at.ensures c.entry_at-2.ensures

pub returns-clause-entry : goal.returns-clause-entry
returns-clause-entry c =
    arm_if c.args.base c.args.terms.now.nodes c.args.out.now.nodes c.args.entries.now c.args.reds.now c.args.rows.now c.args.top c.args.place (formula_agrees c.args.terms.now c.nodes-nodes.ensures.kept) c.requires.under c.requires.row (maps_known c.args.terms.now.nodes c.args.rows.now c.args.top c.args.place (If c.args.cond c.args.yes c.args.no) c.requires.node c.requires.known) c.args.cond c.args.yes c.args.no c.reduced_at.result c.entry_at.result c.entry_at-2.result c.add.new.self.nodes c.in_ok-entry.entry c.requires.node c.reduced_at.ensures c.entry_at.ensures c.entry_at-2.ensures
    c.in_ok-entry.ensures.node
