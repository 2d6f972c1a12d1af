use Rattle.std.proofs.Common.{ap, ◌∙◌, ◌++◌, ◌∷◌, []}
use Rattle.flat_prog.specs.Sites.{calls_of}
use Rattle.proc_template.proofs.Bucketing.{starts_next}
use Rattle.proc_template.proofs.sites.site_starts.Goals as goal

pub loop-block-preserved : goal.loop-block-preserved
loop-block-preserved c =
    starts_next c.args.blocks.now c.loop-block.block-index c.block-item.result c.loop-block.callees c.push_calls.new.callees c.loop-block.starts c.push.new.self c.loop-block-test.true c.block-item.is c.loop-block.invariant.0
    ((c.in_ok-push_calls.ensures {u = tt}) ∙ ap (λ cs. c.loop-block.callees ++ calls_of cs) c.as_slice.ensures) c.loop-block.invariant.1 (c.in_ok-push.ensures.ok ∙ ap (λ n. c.loop-block.starts ++ n ∷ []) c.len.ensures)
