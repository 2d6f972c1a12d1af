use Rattle.std.proofs.Common.{◌≡◌, ◌∙◌, ◌+◌, ◌∷◌, ap, sym, subst, List, ℕ, drop, map, refl, arith, length}
use Rattle.std.specs.Prelude.{IsTrue, Some, slice_get}
use Rattle.std.proofs.lemmas.List.{drop_more}
use Rattle.std.proofs.lemmas.Option.{slice_get_read}
use Rattle.hy_val.specs.declared.value.Value.{Value}
use Rattle.hy_term.specs.TermSorts.{are_plain}
use Rattle.hy_term.specs.Variables.{ascend, numbers_of, variables}
use Rattle.hy_term.specs.declared.node.TermNode.{TermNode}
use Rattle.hy_term.specs.declared.node.TermVariable.{TermVariable}
use Rattle.hy_term.proofs.Ordering.{variables_ascend}
use Rattle.map_axioms.specs.Reduction.{of_atoms}
use Rattle.map_axioms.specs.Steps.{chosen_by, lifted}
use Rattle.map_axioms.proofs.Whole.{plan_plain}
use Rattle.map_axioms.proofs.WayBack.{variables_named, mapped_next}
use Rattle.map_axioms.proofs.lifting.lifted_values.Goals as goal

pub atoms_of-requires-clause-ascend : goal.atoms_of-requires-clause-ascend
atoms_of-requires-clause-ascend c =
    subst (λ (vs : List TermVariable). IsTrue (ascend (numbers_of vs))) (sym (c.as_slice-variables.ensures ∙ c.in_ok-ours.ensures)) (variables_ascend c.nodes-nodes.result.now)

pub atoms_of-requires-clause-plain : goal.atoms_of-requires-clause-plain
atoms_of-requires-clause-plain c =
    subst (λ (ns : List TermNode). IsTrue (are_plain ns)) (sym c.nodes-nodes.ensures.value) (plan_plain c.args.source.now c.args.reduced.now c.args.entries.now c.requires.plan)

pub lifted_value-requires-clause-ascend : goal.lifted_value-requires-clause-ascend
lifted_value-requires-clause-ascend c =
    subst (λ (vs : List TermVariable). IsTrue (ascend (numbers_of vs))) (sym (c.as_slice-variables.ensures ∙ c.in_ok-ours.ensures)) (variables_ascend c.nodes-nodes.result.now)

pub lifted_value-requires-clause-sort : goal.lifted_value-requires-clause-sort
lifted_value-requires-clause-sort c =
    let wanted : c.as_slice-wanted.result.now ≡ variables c.args.source.now.nodes = c.as_slice-wanted.ensures ∙ c.in_ok-theirs.ensures ∙ ap variables c.nodes.ensures.value in
    let there : slice_get c.as_slice-wanted.result.now c.loop-variable.variable-index ≡ Some c.variable-item.result =
    slice_get_read c.as_slice-wanted.result.now (length c.as_slice-wanted.result.now) c.loop-variable.variable-index c.variable-item.result refl c.loop-variable-test.true c.variable-item.is in
    variables_named c.args.source.now c.nodes.ensures.kept c.loop-variable.variable-index c.variable-item.result
    (ap (λ (vs : List TermVariable). slice_get vs c.loop-variable.variable-index) (sym wanted) ∙ there)

pub loop-variable-preserved : goal.loop-variable-preserved
loop-variable-preserved c =
    let front : drop c.loop-variable.variable-index c.as_slice-wanted.result.now ≡ c.variable-item.result ∷ drop (c.loop-variable.variable-index + 1) c.as_slice-wanted.result.now =
    drop_more c.as_slice-wanted.result.now c.loop-variable.variable-index c.variable-item.result (omega arith)
    ∙ ap (λ (v : TermVariable). v ∷ drop (c.loop-variable.variable-index + 1) c.as_slice-wanted.result.now) (sym c.variable-item.is) in
    let same : chosen_by c.as_slice-variables.result.now c.args.atoms.now ≡ of_atoms c.args.reduced.now.nodes c.args.atoms.now =
    ap (λ (vs : List TermVariable). chosen_by vs c.args.atoms.now) (c.as_slice-variables.ensures ∙ c.in_ok-ours.ensures ∙ ap variables c.nodes-nodes.ensures.value) in
    let f : ℕ → Value = lifted c.args.source.now.nodes c.args.reduced.now.nodes c.args.entries.now (of_atoms c.args.reduced.now.nodes c.args.atoms.now) in
    let value : c.in_ok-value.value ≡ lifted c.args.source.now.nodes c.args.reduced.now.nodes c.args.entries.now (of_atoms c.args.reduced.now.nodes c.args.atoms.now) c.variable-item.result.number =
    c.in_ok-value.ensures ∙ ap (λ (b : ℕ → Value). lifted c.args.source.now.nodes c.args.reduced.now.nodes c.args.entries.now b c.variable-item.result.number) same in
    mapped_next (lifted c.args.source.now.nodes c.args.reduced.now.nodes c.args.entries.now (of_atoms c.args.reduced.now.nodes c.args.atoms.now))
    (drop c.loop-variable.variable-index c.as_slice-wanted.result.now) (drop (c.loop-variable.variable-index + 1) c.as_slice-wanted.result.now) c.variable-item.result c.loop-variable.lifted c.push.new.self c.in_ok-value.value
    (map (lifted c.args.source.now.nodes c.args.reduced.now.nodes c.args.entries.now (of_atoms c.args.reduced.now.nodes c.args.atoms.now)) (numbers_of c.as_slice-wanted.result.now))
    front value c.in_ok-push.ensures.ok c.loop-variable.invariant
