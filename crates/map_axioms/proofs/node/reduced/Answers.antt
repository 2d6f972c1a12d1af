use Rattle.std.proofs.Common.{◌∙◌, ap, sym}
use Rattle.std.specs.Prelude.{Some}
use Rattle.map_axioms.proofs.Nodes.{Ground}
use Rattle.map_axioms.proofs.Rows.{taken_none}
use Rattle.map_axioms.proofs.Arms.{formula_agrees}
use Rattle.map_axioms.proofs.node.reduced.Goals as goal

pub returns-in-Map-clause-node : goal.returns-in-Map-clause-node
returns-in-Map-clause-node c =
    let g : Ground c.args.base c.args.terms.now.nodes c.args.out.now.nodes c.args.entries.now c.args.reds.now =
    record { agree = formula_agrees c.args.terms.now c.nodes-nodes.ensures.kept; under = c.requires.under; state = c.requires.state; each = c.requires.reds } in
    taken_none c.args.base c.args.terms.now.nodes c.args.out.now.nodes c.args.entries.now c.args.reds.now g c.in-Map.index c.in-Map.elem 0 (c.sort_of.ensures ∙ ap Some (sym c.kind.ensures ∙ c.in-Map.is))
