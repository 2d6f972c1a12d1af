use Rattle.std.proofs.Common.{arith, ap, length}
use Rattle.proc_template.proofs.Listing.{templates_next}
use Rattle.proc_template.proofs.making.templates.Goals as goal

pub loop-proc-preserved : goal.loop-proc-preserved
loop-proc-preserved c =
    templates_next c.args.flat.now c.args.limits.now c.loop-proc.proc c.loop-proc.templates c.push.new.self c.in_ok-template.template c.loop-proc.invariant.0 c.loop-proc.invariant.1 (c.in_ok-push.ensures {u = tt}).ok (c.in_ok-template.ensures {u = tt})

pub returns : goal.returns
returns c =
    let e = ap length c.procs-proc-end.ensures in
    record { count = omega (arith, e, c.loop-proc.invariant.0, c.loop-proc-test.false, c.loop-proc.auto.proc-end); each = c.loop-proc.invariant.1 }
