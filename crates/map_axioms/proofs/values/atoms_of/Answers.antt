use Rattle.std.proofs.Common.{◌≡◌, ◌∙◌, ◌∷◌, ◌+◌, ◌++◌, [], List, drop, ap, sym, subst, arith}
use Rattle.std.proofs.lemmas.List.{drop_more}
use Rattle.hy_val.specs.declared.atom.Atom.{Atom}
use Rattle.hy_val.specs.declared.value.Value.TheVariants.{Atom as AtomValue}
use Rattle.hy_term.specs.Meaning.{node_value}
use Rattle.hy_term.specs.declared.node.TermNode.{TermNode}
use Rattle.map_axioms.specs.Steps.{atom_values, chosen_by}
use Rattle.map_axioms.proofs.Evaluating.{Evaluated, next_evaluated}
use Rattle.map_axioms.proofs.values.atoms_of.Goals as goal

pub loop-node-preserved : goal.loop-node-preserved
loop-node-preserved c =
    let front : drop c.loop-node.node-index c.args.nodes.now ≡ c.node-item.result ∷ drop (c.loop-node.node-index + 1) c.args.nodes.now =
    drop_more c.args.nodes.now c.loop-node.node-index c.node-item.result (omega arith)
    ∙ ap (λ (n : TermNode). n ∷ drop (c.loop-node.node-index + 1) c.args.nodes.now) (sym c.node-item.is) in
    let before = subst (λ (ns : List TermNode). Evaluated (chosen_by c.args.variables.now c.args.atoms.now) c.args.nodes.now ns c.loop-node.known) front c.loop-node.invariant in
    let value : AtomValue c.node_atom-atom.result ≡ node_value (chosen_by c.args.variables.now c.args.atoms.now) (atom_values c.loop-node.known) c.node-item.result =
    c.node_atom-atom.ensures ∙ ap (λ (k : List Atom). node_value (chosen_by c.args.variables.now c.args.atoms.now) (atom_values k) c.node-item.result) c.as_slice.ensures in
    let pushed : c.push.new.self ≡ c.loop-node.known ++ c.node_atom-atom.result ∷ [] = c.in_ok-push.ensures.ok in
    subst (λ (k : List Atom). Evaluated (chosen_by c.args.variables.now c.args.atoms.now) c.args.nodes.now (drop (c.loop-node.node-index + 1) c.args.nodes.now) k) (sym pushed)
    (next_evaluated (chosen_by c.args.variables.now c.args.atoms.now) c.args.nodes.now (drop (c.loop-node.node-index + 1) c.args.nodes.now) c.node-item.result c.loop-node.known c.node_atom-atom.result before value)
