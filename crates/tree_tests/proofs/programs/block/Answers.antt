use Rattle.std.proofs.Common.{slice_index_or}
use Rattle.tree_tests.proofs.Fitting.{calls_more}
use Rattle.tree_tests.proofs.programs.block.Goals as goal

pub loop-callee-preserved : goal.loop-callee-preserved
loop-callee-preserved c =
    calls_more c.args.looping c.args.callees.now c.loop-callee.callee-index c.in_ok-call.field-0 c.loop-callee.cmds.items c.push.new.self.items c.loop-callee-test.true (c.in_ok-call.ensures {u = tt})
    c.loop-callee.invariant (c.in_ok-push.ensures {u = tt}).items
