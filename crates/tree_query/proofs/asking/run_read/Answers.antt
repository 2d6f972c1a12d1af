-- The nodes that are read off the values.
use Rattle.std.proofs.Common.{◌∙◌, List, subst, sym}
use Rattle.std.specs.Prelude.{IsTrue}
use Rattle.hy_term.specs.Meaning.{values}
use Rattle.hy_term.specs.Variables.{numbers, of_list}
use Rattle.flat_prog.specs.Nodes.{are_nodes}
use Rattle.flat_prog.specs.declared.run.RunNode.{RunNode}
use Rattle.tree_query.proofs.Answering.{read_same}
use Rattle.tree_query.proofs.asking.run_read.Goals as goal

pub new-requires : goal.new-requires
new-requires c =
    let x = c.args.question.now in
    let vs = values (of_list (numbers x.terms.nodes) c.args.model.now) x.terms.nodes in
    let same = read_same c.args.flat.now.procs c.procs.result.now c.args.changes.now c.args.q.now x.places x.reach c.as_slice.result.now vs c.as_slice-2.result.now c.in_ok-nodes.nodes c.procs.ensures c.as_slice.ensures
    (c.as_slice-2.ensures ∙ c.in_ok-values.ensures.values) c.in_ok-nodes.ensures in
    subst (λ (ns : List RunNode). IsTrue (are_nodes ns)) (sym same) c.requires.nodes

pub returns : goal.returns
returns c =
    let x = c.args.question.now in
    let vs = values (of_list (numbers x.terms.nodes) c.args.model.now) x.terms.nodes in
    c.new.ensures
    ∙ read_same c.args.flat.now.procs c.procs.result.now c.args.changes.now c.args.q.now x.places x.reach c.as_slice.result.now vs c.as_slice-2.result.now c.in_ok-nodes.nodes c.procs.ensures c.as_slice.ensures
    (c.as_slice-2.ensures ∙ c.in_ok-values.ensures.values) c.in_ok-nodes.ensures
