use Rattle.std.proofs.Common.{◌∙◌, ◌-◌, ◌++◌, ◌∷◌, [], length, sym, ap}
use Rattle.std.proofs.lemmas.Result.{on_ok_weaker}
use Rattle.hy_val.specs.declared.expr.ExprNode.TheVariants as nodes
use Rattle.bpl_type.specs.Making.{with_term}
use Rattle.type_pass.specs.Terms.{store}
use Rattle.bpl_type.proofs.MakingLaws.{pushed, with-store}
use Rattle.bpl_type.proofs.nodes.push_store.Goals as goal

pub returns : goal.returns
returns c = λ o d a b h g i.
    let whole = with_term (with_term (with_term o d) a) b in
    on_ok_weaker c.push.result
    (λ e. pushed (λ n. nodes.Store c.args.table c.args.index n) c.args.out.now whole c.push.new.self (with_term o (store d a b)) c.last-value.result h c.last-value.ensures e
    (with-store o d a b ∙ ap (λ l. whole ++ nodes.Store l (length (with_term (with_term o d) a) - 1) (length whole - 1) ∷ []) (sym g)
    ∙ ap (λ l. whole ++ nodes.Store c.args.table l (length whole - 1) ∷ []) (sym i)))
    c.push.ensures.ok
