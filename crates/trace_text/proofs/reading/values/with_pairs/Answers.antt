use Rattle.std.proofs.Common.{rules}
use Rattle.trace_text.proofs.Pairs.{stop_here, go_here}
use Rattle.trace_text.proofs.reading.values.with_pairs.Goals as goal

pub returns-then-not-added : goal.returns-then-not-added
returns-then-not-added c =
    stop_here (λ t. t.now) c.args.texts.now c.loop-text.text-index _ c.loop-text.found _ c.in_ok-added.added _ (search rules) c.in_ok-added.ensures (search rules) c.loop-text.invariant

pub loop-text-preserved : goal.loop-text-preserved
loop-text-preserved c =
    go_here (λ t. t.now) c.args.texts.now c.loop-text.text-index _ c.loop-text.found _ c.in_ok-added.added _ (search rules) c.in_ok-added.ensures (search rules) c.loop-text.invariant
