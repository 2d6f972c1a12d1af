use Rattle.std.proofs.Common.{◌≡◌, ◌+◌, ℕ, map, refl, ap, ◌∙◌, arith}
use Rattle.loop_extract.specs.Ascents.{inner_head}
use Rattle.loop_extract.specs.Plans.{inners_from}
use Rattle.loop_extract.proofs.Keys.{inner_heads}
use Rattle.loop_extract.proofs.Rests.{rest_none}
use Rattle.loop_extract.proofs.inside.inners_of.Goals as goal

pub new-requires-2 : goal.new-requires-2
new-requires-2 c =
    let proc = c.args.proc.now in
    let plan = c.args.plan.now in
    let among = c.window-found.result.1.now in
    let base : c.args.plan.now.base + c.window-found.result.0 ≡ c.in_ok-base.base = omega (arith, c.in_ok-base.ensures, c.in_ok-small.ensures.value) in
    c.requires.heads ∙ inner_heads proc c.args.scope plan.base c.args.first plan.heads
    ∙ ap (map inner_head) (c.window-found.ensures.inners proc plan.base c.args.first ∙ ap (λ (n : ℕ). inners_from proc c.args.scope n c.args.first among) base
    ∙ rest_none (inners_from proc c.args.scope (c.in_ok-base.base + c.loop-k.k) c.loop-k.inners.next) (inners_from proc c.args.scope c.in_ok-base.base c.args.first among) c.loop-k.inners.inside among c.loop-k.k c.loop-k.invariant c.loop-k-test.false refl)
