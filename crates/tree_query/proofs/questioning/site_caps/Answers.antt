-- One site more.
use Rattle.std.proofs.Common.{ℕ, ◌+◌, ap, ◌∙◌}
use Rattle.tree_query.proofs.Capped.{flags_next}
use Rattle.tree_query.proofs.questioning.site_caps.Goals as goal

pub loop-index-preserved : goal.loop-index-preserved
loop-index-preserved c = (
  c.in_ok-site.ensures ∙ ap (λ (n : ℕ). n + 1) c.loop-index.invariant.0,
  flags_next c.args.flat.now c.args.entry c.args.bound c.args.path.now c.in_ok-next.next c.loop-index.index c.loop-index.site c.loop-index.flags c.push.new.self c.within_caps.result c.loop-index.invariant.0 c.in_ok-next.ensures
      c.within_caps.ensures c.loop-index.invariant.1 c.in_ok-push.ensures.ok,
)
