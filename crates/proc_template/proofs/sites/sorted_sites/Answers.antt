use Rattle.std.proofs.Common.{◌∙◌}
use Rattle.proc_template.proofs.Bucketing.{sorted_next}
use Rattle.proc_template.proofs.sites.sorted_sites.Goals as goal

pub loop-block-preserved : goal.loop-block-preserved
loop-block-preserved c =
    sorted_next c.args.sites.now c.loop-block.block c.loop-block.sorted c.push_sites.new.sorted c.row.result.now c.loop-block.invariant (c.row.ensures ∙ (c.in_ok-table.ensures {u = tt}).places c.loop-block.block c.loop-block-test.true)
    (c.in_ok-push_sites.ensures {u = tt})
