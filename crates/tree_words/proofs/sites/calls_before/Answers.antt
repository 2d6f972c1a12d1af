use Rattle.std.proofs.Common.{◌+◌, length, arith, ap, ◌∙◌}
use Rattle.std.specs.Prelude.{ℕ, List}
use Rattle.flat_prog.specs.Sites.{calls_of}
use Rattle.flat_prog.specs.declared.block.FlatCmd.{FlatCmd}
use Rattle.tree_words.proofs.Listing.{before_more}
use Rattle.tree_words.proofs.sites.calls_before.Goals as goal

pub loop-earlier-preserved : goal.loop-earlier-preserved
loop-earlier-preserved c =
    let same = c.loop-earlier.invariant.1 in
    let below = c.loop-earlier.invariant.2 in
    let off = c.if-at-block.false in (
      before_more c.args.blocks.now c.loop-earlier.at c.loop-earlier.count c.in_ok-count.count c.earlier-item.result
          (omega (arith, same, c.loop-earlier-test.true)) (grind (arith, same, c.earlier-item.is)) c.loop-earlier.invariant.0
          (c.in_ok-count.ensures ∙ ap (λ (n : ℕ). c.loop-earlier.count + n) (c.calls_in.ensures ∙ ap (λ (cs : List FlatCmd). length (calls_of cs)) c.as_slice.ensures)),
      omega (arith, same),
      omega (arith, below, off),
    )
