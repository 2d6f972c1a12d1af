use Rattle.proc_template.proofs.Bucketing.{bucketed_none, bucketed_next, bucketed_all}
use Rattle.proc_template.proofs.sites.by_block.Goals as goal

pub loop-place-init : goal.loop-place-init
loop-place-init c = bucketed_none c.args.sites.now c.args.count c.in_ok-table.table (c.in_ok-table.ensures {u = tt}).count (c.in_ok-table.ensures {u = tt}).empty

pub loop-place-preserved : goal.loop-place-preserved
loop-place-preserved c =
    bucketed_next c.args.sites.now c.args.count c.loop-place.table c.note.new.table c.loop-place.place c.index-sites-place.result c.loop-place-test.true c.index-sites-place.is c.loop-place.invariant (c.in_ok-note.ensures {u = tt})

pub returns-clause-places : goal.returns-clause-places
returns-clause-places c = bucketed_all c.args.sites.now c.args.count c.loop-place.table c.loop-place.place c.loop-place-test.false c.loop-place.invariant
