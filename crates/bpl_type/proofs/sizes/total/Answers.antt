use Rattle.std.proofs.Common.{◌+◌, ◌<◌, ℕ, List, length, get_or, min, refl, ap, subst, ◌∙◌}
use Rattle.bpl_type.proofs.SizeLaws.{total-turn}
use Rattle.bpl_type.proofs.sizes.total.Goals as goal

pub loop-slope-preserved : goal.loop-slope-preserved
loop-slope-preserved c =
    let i = c.loop-slope.slope-index in
    total-turn c.args.most c.args.tally.now.base c.args.tally.now.slopes i (get_or c.args.tally.now.slopes i 0) c.loop-slope.sum c.plus-sum.result
    (subst (λ (ks : List ℕ). i < length ks) c.as_slice-slope-items.ensures c.loop-slope-test.true) refl
    (c.plus-sum.ensures ∙ ap (λ (ks : List ℕ). min (c.loop-slope.sum + get_or ks i 0) c.args.most) c.as_slice-slope-items.ensures) c.loop-slope.invariant
