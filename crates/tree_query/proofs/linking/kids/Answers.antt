-- One site more.
use Rattle.std.proofs.Common.{ℕ, ◌+◌, ap, ◌∙◌}
use Rattle.tree_query.specs.Tabled.{place_in}
use Rattle.tree_query.proofs.Tables.{kids_next}
use Rattle.tree_query.proofs.linking.kids.Goals as goal

pub loop-index-preserved : goal.loop-index-preserved
loop-index-preserved c = (
  c.in_ok-site.ensures ∙ ap (λ (n : ℕ). n + 1) c.loop-index.invariant.0,
  kids_next c.args.numbers.now c.args.path.now c.in_ok-next.next c.loop-index.index c.loop-index.site c.loop-index.kids c.push.new.self c.find.result c.loop-index.invariant.0 c.in_ok-next.ensures
      (c.find.ensures ∙ ap (place_in c.args.numbers.now) c.sites.ensures) c.loop-index.invariant.1 c.in_ok-push.ensures.ok,
)
