-- Each node fits behind the values so far, and all values have their sorts.
use Rattle.std.proofs.Common.{◌≡◌, true, List, refl, sym, ap, ◌∙◌, subst, length}
use Rattle.std.specs.Prelude.{IsTrue}
use Rattle.std.proofs.lemmas.Option.{slice_get_read}
use Rattle.hy_val.specs.Stores.{have_sorts}
use Rattle.hy_val.specs.declared.value.Value.{Value}
use Rattle.hy_term.specs.TermSorts.{sorts}
use Rattle.hy_term.specs.Meaning.{fits}
use Rattle.hy_term.specs.Variables.{numbers, of_list}
use Rattle.hy_term.specs.declared.node.TermNode.{TermNode}
use Rattle.tree_query.proofs.Evaluating.{next_sorted, values_sorted, at_end}
use Rattle.tree_query.proofs.valuing.term_values.Goals as goal

pub node_value-requires-clause-sorts : goal.node_value-requires-clause-sorts
node_value-requires-clause-sorts c =
    rw c.as_slice.ensures
    (next_sorted c.each_node_has_its_sort.ensures c.each_value_has_its_sort.ensures (of_list (numbers c.args.terms.now.nodes) c.args.model.now) c.args.terms.now c.nodes-nodes.result.now c.loop-node.values c.loop-node.node-index
    c.node-item.result c.nodes-nodes.ensures.kept c.nodes-nodes.ensures.value
    (subst (λ (ns : List TermNode). IsTrue (fits (of_list (numbers c.args.terms.now.nodes) c.args.model.now) ns)) (sym c.nodes-nodes.ensures.value) c.requires.fits) c.loop-node-test.true
    (slice_get_read c.nodes-nodes.result.now (length c.nodes-nodes.result.now) c.loop-node.node-index c.node-item.result refl c.loop-node-test.true c.node-item.is) c.loop-node.invariant)

pub returns-clause-sorts : goal.returns-clause-sorts
returns-clause-sorts c = λ ss is.
    let a = of_list (numbers c.args.terms.now.nodes) c.args.model.now in
    let all = at_end a c.nodes-nodes.result.now c.loop-node.values c.loop-node.node-index c.loop-node-test.false c.loop-node.invariant in
    subst (λ (vs : List Value). have_sorts vs ss ≡ true) (sym all)
    (values_sorted c.each_value_has_its_sort.ensures a c.nodes-nodes.result.now ss
    (subst (λ (ns : List TermNode). IsTrue (fits a ns)) (sym c.nodes-nodes.ensures.value) c.requires.fits)
    (ap sorts c.nodes-nodes.ensures.value ∙ is))
