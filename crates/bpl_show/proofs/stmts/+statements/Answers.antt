use Rattle.bpl_show.specs.Stmts as spec
use Rattle.bpl_show.proofs.Loops.{step, done}
use Rattle.bpl_show.proofs.stmts.+statements.Goals as goal

pub statements-loop-one-preserved : goal.statements-loop-one-preserved
statements-loop-one-preserved t c = step spec.stmt c.args.shown.now c.loop-one.one-index _ c.one-item.result c.loop-one.out c.stmt.new.out c.loop-one-test.true c.one-item.is c.in_ok-stmt.ensures c.loop-one.invariant

pub statements-returns : goal.statements-returns
statements-returns t c = done spec.stmt c.args.shown.now c.loop-one.one-index _ c.loop-one.out c.loop-one-test.false c.loop-one.invariant
