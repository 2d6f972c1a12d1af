use Rattle.std.proofs.Common.{◌≡◌, arith, length, refl}
use Rattle.flat_prog.proofs.Matching.{alike_whole, alike_next}
use Rattle.flat_prog.proofs.alike.same_exprs.Goals as goal

pub loop-i-preserved : goal.loop-i-preserved
loop-i-preserved c =
    alike_next c.args.left.now c.args.right.now c.loop-i.i c.index-left-i.result c.index-right-i.result c.if-left-right.false c.loop-i-test.true
    c.index-left-i.is c.index-right-i.is (c.same_expr.ensures.0 c.if-not-same_expr.false) c.loop-i.invariant

pub returns : goal.returns
returns c =
    let all : c.loop-i.i ≡ length c.args.left.now = omega arith in
    (λ _. alike_whole c.args.left.now c.args.right.now c.loop-i.i c.if-left-right.false all c.loop-i.invariant, λ _. refl)
