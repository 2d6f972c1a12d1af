use Rattle.std.proofs.lemmas.Result.{on_ok_weaker}
use Rattle.hy_val.specs.declared.expr.ExprNode.TheVariants as nodes
use Rattle.bpl_type.specs.Making.{with_term}
use Rattle.type_pass.specs.Terms.{unary}
use Rattle.bpl_type.proofs.MakingLaws.{pushed, with-unary}
use Rattle.bpl_type.proofs.nodes.push_unary.Goals as goal

pub returns : goal.returns
returns c = λ o a h.
    on_ok_weaker c.push.result
    (λ e. pushed (λ n. nodes.Unary c.args.op n) c.args.out.now (with_term o a) c.push.new.self (with_term o (unary c.args.op a)) c.last-child.result h c.last-child.ensures e (with-unary o c.args.op a))
    c.push.ensures.ok
