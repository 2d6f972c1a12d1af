use Rattle.std.proofs.Common.{◌∙◌, ◌-◌, ◌++◌, ◌∷◌, [], length, sym, ap}
use Rattle.std.proofs.lemmas.Result.{on_ok_weaker}
use Rattle.hy_val.specs.declared.expr.ExprNode.TheVariants as nodes
use Rattle.hy_val.specs.declared.operator.BvOp.TheVariants.{Implies}
use Rattle.bpl_type.specs.Making.{with_term, join_term}
use Rattle.bpl_type.specs.declared.nodes.Join.{Join}
use Rattle.bpl_type.proofs.MakingLaws.{pushed, with-binary, with-implied}
use Rattle.bpl_type.proofs.nodes.push_join.Goals as goal

pub returns-in-Plain : goal.returns-in-Plain
returns-in-Plain c = λ o a b h g.
    on_ok_weaker c.push.result
    (λ e. pushed (λ n. nodes.Binary c.in-Plain.op c.args.left n) c.args.out.now (with_term (with_term o a) b) c.push.new.self (with_term o (join_term c.args.join a b)) c.last-right.result h c.last-right.ensures e
    (ap (λ (j : Join). with_term o (join_term j a b)) c.in-Plain.is ∙ with-binary o c.in-Plain.op a b
    ∙ ap (λ l. with_term (with_term o a) b ++ nodes.Binary c.in-Plain.op l (length (with_term (with_term o a) b) - 1) ∷ []) (sym g)))
    c.push.ensures.ok

pub returns-in-Swapped : goal.returns-in-Swapped
returns-in-Swapped c = λ o a b h g.
    on_ok_weaker c.push-in-Swapped.result
    (λ e. pushed (λ n. nodes.Binary Implies n c.args.left) c.args.out.now (with_term (with_term o a) b) c.push-in-Swapped.new.self (with_term o (join_term c.args.join a b)) c.last-right.result h c.last-right.ensures e
    (ap (λ (j : Join). with_term o (join_term j a b)) c.in-Swapped.is ∙ with-implied o a b
    ∙ ap (λ l. with_term (with_term o a) b ++ nodes.Binary Implies (length (with_term (with_term o a) b) - 1) l ∷ []) (sym g)))
    c.push-in-Swapped.ensures.ok
