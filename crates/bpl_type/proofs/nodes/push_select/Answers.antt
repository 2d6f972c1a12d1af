use Rattle.std.proofs.Common.{◌∙◌, ◌-◌, ◌++◌, ◌∷◌, [], length, sym, ap}
use Rattle.std.proofs.lemmas.Result.{on_ok_weaker}
use Rattle.hy_val.specs.declared.expr.ExprNode.TheVariants as nodes
use Rattle.bpl_type.specs.Making.{with_term}
use Rattle.type_pass.specs.Terms.{select}
use Rattle.bpl_type.proofs.MakingLaws.{pushed, with-select}
use Rattle.bpl_type.proofs.nodes.push_select.Goals as goal

pub returns : goal.returns
returns c = λ o a b h g.
    on_ok_weaker c.push.result
    (λ e. pushed (λ n. nodes.Select c.args.table n) c.args.out.now (with_term (with_term o a) b) c.push.new.self (with_term o (select a b)) c.last-index.result h c.last-index.ensures e
    (with-select o a b ∙ ap (λ l. with_term (with_term o a) b ++ nodes.Select l (length (with_term (with_term o a) b) - 1) ∷ []) (sym g)))
    c.push.ensures.ok
