use Rattle.bpl_type.specs.Sizes.{heavy_in}
use Rattle.type_pass.proofs.CommandLaws.{flat-turn}
use Rattle.bpl_type.proofs.sizes.large_exprs.Goals as goal

pub loop-expr-preserved : goal.loop-expr-preserved
loop-expr-preserved c =
    flat-turn (heavy_in c.args.counting.now) c.args.exprs.now c.loop-expr.expr-index c.expr-item.result c.loop-expr.so_far c.in_ok-so_far.so_far _
    c.loop-expr-test.true c.expr-item.is c.in_ok-so_far.ensures c.loop-expr.invariant
