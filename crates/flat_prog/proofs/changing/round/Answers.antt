use Rattle.std.proofs.Common.{◌∙◌, ◌<◌, length, [], arith}
use Rattle.std.proofs.lemmas.List.{get_or_default}
use Rattle.flat_prog.proofs.Marks.{round_begins, round_on, round_ends}
use Rattle.flat_prog.proofs.changing.round.Goals as goal

pub loop-proc-init : goal.loop-proc-init
loop-proc-init c = round_begins c.args.callees.now c.args.marks.now

pub loop-proc-preserved : goal.loop-proc-preserved
loop-proc-preserved c =
    let there : c.loop-proc.proc < length c.loop-proc.marks = omega arith in
    round_on c.args.callees.now c.args.marks.now c.loop-proc.proc c.loop-proc.marks c.mark-is_due.new.marks c.as_slice.result.now c.loop-proc.is_new c.mark-is_due.result c.is_either-is_new.result c.loop-proc.invariant there
    (c.as_slice.ensures ∙ c.index-callees-proc.is ∙ get_or_default c.args.callees.now c.loop-proc.proc c.index-callees-proc.result [] c.loop-proc-test.true)
    c.mark-is_due.ensures.is_due c.mark-is_due.ensures.marks c.is_either-is_new.ensures

pub returns : goal.returns
returns c = round_ends c.args.callees.now c.args.marks.now c.loop-proc.proc c.loop-proc.marks c.loop-proc.is_new c.loop-proc.invariant (omega arith)
