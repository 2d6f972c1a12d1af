use Rattle.std.proofs.Common.{◌≡◌, ◌∙◌, true, sym, subst}
use Rattle.hy_val.specs.Exprs.{is_expr}
use Rattle.bpl_type.proofs.ProgramLaws.{written-in}
use Rattle.bpl_type.proofs.program.expression.Goals as goal

pub new-requires : goal.new-requires
new-requires c = subst (λ ns. is_expr ns ≡ true) (sym (written-in c.args.program.now c.args.scope.now c.args.expr.now c.new-nodes.result c.write.new.out c.new-nodes.ensures c.in_ok-write.ensures)) c.requires

pub returns : goal.returns
returns c = c.new.ensures ∙ written-in c.args.program.now c.args.scope.now c.args.expr.now c.new-nodes.result c.write.new.out c.new-nodes.ensures c.in_ok-write.ensures
