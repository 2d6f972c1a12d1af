use Rattle.std.proofs.Common.{◌++◌}
use Rattle.proc_template.specs.Layout.{after_roles}
use Rattle.proc_template.proofs.Layouts.{after_next, after_all}
use Rattle.proc_template.proofs.layout.push_after.Goals as goal

pub loop-number-preserved : goal.loop-number-preserved
loop-number-preserved c =
    after_next c.args.site c.args.changes.now c.args.before.now c.loop-number.number c.is_marked-mark.result (c.args.roles.now ++ after_roles c.args.site c.args.changes.now 0 c.args.before.now) c.loop-number.roles c.push_if.new.roles
    c.loop-number-test.true c.is_marked-mark.ensures c.loop-number.invariant (c.in_ok-push_if.ensures {u = tt})

pub returns : goal.returns
returns c =
    after_all c.args.site c.args.changes.now c.args.before.now c.loop-number.number (c.args.roles.now ++ after_roles c.args.site c.args.changes.now 0 c.args.before.now) c.loop-number.roles c.loop-number-test.false c.loop-number.invariant
