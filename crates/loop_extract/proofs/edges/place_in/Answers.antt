use Rattle.loop_extract.proofs.Ordered.{found_at, missed_at, missed_past}
use Rattle.loop_extract.proofs.edges.place_in.Goals as goal

pub returns-then-first-edges : goal.returns-then-first-edges
returns-then-first-edges c = missed_past c.args.block c.args.place c.args.edges.now c.first_from-first.result c.requires c.first_from-first.ensures c.if-first-edges.true

pub returns-then-is_from : goal.returns-then-is_from
returns-then-is_from c = found_at c.args.block c.args.place c.args.edges.now c.first_from-first.result _ c.is_from.result c.first_from-first.ensures c.if-first-edges.false c.is_from.ensures c.if-is_from.true

pub returns-else-is_from : goal.returns-else-is_from
returns-else-is_from c = missed_at c.args.block c.args.place c.args.edges.now c.first_from-first.result _ c.is_from.result c.requires c.first_from-first.ensures c.if-first-edges.false c.is_from.ensures c.if-is_from.false
