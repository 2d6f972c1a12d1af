use Rattle.std.proofs.Common.{◌≡◌, ◌<◌, arith, length, refl, subst, get_or}
use Rattle.std.proofs.lemmas.List.{get_or_default}
use Rattle.hy_val.specs.declared.expr.Var.TheVariants.{Const}
use Rattle.flat_prog.proofs.Matching.{alike_whole, alike_next}
use Rattle.flat_prog.proofs.alike.same_vars.Goals as goal

pub loop-i-preserved : goal.loop-i-preserved
loop-i-preserved c =
    let less : c.loop-i.i < length c.args.right.now = subst (λ n. c.loop-i.i < n) c.if-left-right.false c.loop-i-test.true in
    alike_next c.args.left.now c.args.right.now c.loop-i.i (get_or c.args.left.now c.loop-i.i (Const 0)) (get_or c.args.right.now c.loop-i.i (Const 0)) c.if-left-right.false c.loop-i-test.true
    (get_or_default c.args.left.now c.loop-i.i _ _ c.loop-i-test.true) (get_or_default c.args.right.now c.loop-i.i _ _ less) (c.same_var.ensures.0 c.if-not-same_var.false) c.loop-i.invariant

pub returns : goal.returns
returns c =
    let all : c.loop-i.i ≡ length c.args.left.now = omega arith in
    (λ _. alike_whole c.args.left.now c.args.right.now c.loop-i.i c.if-left-right.false all c.loop-i.invariant, λ _. refl)
