use Rattle.std.proofs.Common.{◌<◌, refl, arith, List, length, ap, sym, subst, ◌∙◌}
use Rattle.std.specs.Prelude.{slice_get}
use Rattle.std.proofs.lemmas.Option.{slice_get_read}
use Rattle.indexmap.specs.IndexMap.{get}
use Rattle.hy_term.specs.Formula.{Formula}
use Rattle.hy_term.specs.declared.node.TermNode.{TermNode}
use Rattle.tree_terms.specs.Shared.{same_node, AreFound}
use Rattle.tree_terms.proofs.Found.{found_noted}
use Rattle.tree_terms.proofs.shared.SharedTerms.new.Goals as goal

pub loop-number-preserved : goal.loop-number-preserved
loop-number-preserved c =
    let same = ap length c.nodes.ensures.value in
    let count = ap length c.nodes-number-end.ensures.value in
    let within : c.loop-number.number < length c.nodes.result.now = omega (arith, same, count, c.loop-number-test.true) in
    let here = ap (λ (f : Formula). slice_get f.nodes c.loop-number.number) c.terms.view_is ∙ ap (λ (ns : List TermNode). slice_get ns c.loop-number.number) (sym c.nodes.ensures.value) ∙ slice_get_read c.nodes.result.now (length c.nodes.result.now) c.loop-number.number c.index-nodes-number.result refl within c.index-nodes-number.is in
    found_noted c.terms.inside.nodes c.index-nodes-number.result c.loop-number.number (get same_node c.loop-number.numbers) (get same_node c.insert.new.self) c.loop-number.invariant here
    c.in_ok-insert.ensures.updates.0

pub invariant_of-result : goal.invariant_of-result
invariant_of-result c = subst (λ (f : Formula). AreFound f.nodes (get same_node c.loop-number.numbers)) c.terms.view_is c.loop-number.invariant
