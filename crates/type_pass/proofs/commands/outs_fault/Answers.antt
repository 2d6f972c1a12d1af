use Rattle.std.proofs.Common.{drop, arith}
use Rattle.type_pass.proofs.CommandLaws.{outs-turn, outs-end}
use Rattle.type_pass.proofs.commands.outs_fault.Goals as goal

pub loop-number-preserved : goal.loop-number-preserved
loop-number-preserved c =
    outs-turn c.args.known.now c.args.scope.now c.args.outs.now c.args.names.now c.loop-number.number c.index-names-number.result c.sort_at.result c.loop-number.so_far c.out_fault-so_far.result _
    c.sort_at.ensures c.loop-number-test.true c.index-names-number.is c.out_fault-so_far.ensures c.loop-number.invariant

pub returns : goal.returns
returns c = outs-end c.args.known.now c.args.scope.now (drop c.loop-number.number c.args.outs.now) c.args.names.now c.loop-number.number c.loop-number.so_far _ (omega arith) c.loop-number.invariant
