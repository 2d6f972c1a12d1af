-- One node more.
use Rattle.std.proofs.Common.{◌≡◌, ◌∙◌, ◌∷◌, ◌+◌, List, drop, ap, sym, subst, arith}
use Rattle.std.specs.Prelude.{IsTrue}
use Rattle.std.proofs.lemmas.List.{drop_more}
use Rattle.hy_term.specs.Variables.{ascend, numbers_of, with_variable, variables_onto}
use Rattle.hy_term.specs.declared.node.TermNode.{TermNode}
use Rattle.hy_term.specs.declared.node.TermVariable.{TermVariable}
use Rattle.hy_term.proofs.Ordering.{with-ascend}
use Rattle.hy_term.proofs.variables.variables_of.Goals as goal

pub loop-node-preserved : goal.loop-node-preserved
loop-node-preserved c =
    let new : c.insert_of.new.variables.items ≡ with_variable c.loop-node.variables.items c.node-item.result = c.in_ok-insert_of.ensures in
    let front : drop c.loop-node.node-index c.args.nodes.now ≡ c.node-item.result ∷ drop (c.loop-node.node-index + 1) c.args.nodes.now =
    drop_more c.args.nodes.now c.loop-node.node-index c.node-item.result (omega arith)
    ∙ ap (λ (n : TermNode). n ∷ drop (c.loop-node.node-index + 1) c.args.nodes.now) (sym c.node-item.is) in
    record {
      ascend = subst (λ (vs : List TermVariable). IsTrue (ascend (numbers_of vs))) (sym new) (with-ascend c.loop-node.variables.items c.node-item.result c.loop-node.invariant.ascend);
      rest =
          ap (λ (vs : List TermVariable). variables_onto vs (drop (c.loop-node.node-index + 1) c.args.nodes.now)) new
          ∙ ap (λ (ns : List TermNode). variables_onto c.loop-node.variables.items ns) (sym front)
          ∙ c.loop-node.invariant.rest;
    }
