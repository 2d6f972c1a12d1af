use Rattle.std.proofs.Common.{sym, subst}
use Rattle.flat_prog.specs.Marking.{AreColumns}
use Rattle.flat_prog.proofs.Marks.{columns_begin, columns_on}
use Rattle.flat_prog.proofs.changing.columns.Goals as goal

pub loop-global-init : goal.loop-global-init
loop-global-init c = subst (AreColumns c.args.procs.now 0) (sym c.new-columns.ensures) (columns_begin c.args.procs.now)

pub loop-global-preserved : goal.loop-global-preserved
loop-global-preserved c = columns_on c.args.procs.now c.loop-global.global c.loop-global.columns c.push.new.self c.in_ok-column.field-0 c.loop-global.invariant c.in_ok-column.ensures c.in_ok-push.ensures.ok
