use Rattle.hy_term.specs.declared.node.TermNode.TheVariants.{Store}
use Rattle.map_axioms.proofs.Walking.{maps_known}
use Rattle.map_axioms.proofs.Arms.{formula_agrees, arm_same_fits, arm_store_fits, arm_store}
use Rattle.map_axioms.proofs.row.store_row.Goals as goal

pub add-requires : goal.add-requires
add-requires c = arm_same_fits c.args.base c.args.terms.now.nodes c.args.out.now.nodes c.args.entries.now c.args.reds.now c.args.rows.now c.args.top c.args.place (formula_agrees c.args.terms.now c.nodes-nodes.ensures.kept) c.requires.under c.requires.row (maps_known c.args.terms.now.nodes c.args.rows.now c.args.top c.args.place (Store c.args.under c.args.index c.args.value) c.requires.node c.requires.known) c.args.under c.args.index c.args.value c.reduced_at.result c.reduced_at-2.result c.requires.node c.reduced_at.ensures c.reduced_at-2.ensures

pub add-requires-2 : goal.add-requires-2
add-requires-2 c =
    arm_store_fits c.args.base c.args.terms.now.nodes c.args.out.now.nodes c.args.entries.now c.args.reds.now c.args.rows.now c.args.top c.args.place (formula_agrees c.args.terms.now c.nodes-nodes.ensures.kept) c.requires.under c.requires.row (maps_known c.args.terms.now.nodes c.args.rows.now c.args.top c.args.place (Store c.args.under c.args.index c.args.value) c.requires.node c.requires.known) c.args.under c.args.index c.args.value c.reduced_at.result c.reduced_at-2.result c.requires.node c.reduced_at.ensures c.reduced_at-2.ensures c.add.new.self.nodes c.in_ok-same.same c.in_ok-same.ensures.node c.reduced_at-3.result c.entry_at.result c.reduced_at-3.ensures c.entry_at.ensures

pub returns-clause-entry : goal.returns-clause-entry
returns-clause-entry c =
    arm_store c.args.base c.args.terms.now.nodes c.args.out.now.nodes c.args.entries.now c.args.reds.now c.args.rows.now c.args.top c.args.place (formula_agrees c.args.terms.now c.nodes-nodes.ensures.kept) c.requires.under c.requires.row (maps_known c.args.terms.now.nodes c.args.rows.now c.args.top c.args.place (Store c.args.under c.args.index c.args.value) c.requires.node c.requires.known) c.args.under c.args.index c.args.value c.reduced_at.result c.reduced_at-2.result c.requires.node c.reduced_at.ensures c.reduced_at-2.ensures c.add.new.self.nodes c.in_ok-same.same c.in_ok-same.ensures.node c.reduced_at-3.result c.entry_at.result c.add-2.new.self.nodes c.in_ok-entry.entry c.reduced_at-3.ensures c.entry_at.ensures
    c.in_ok-entry.ensures.node
