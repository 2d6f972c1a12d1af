use Rattle.std.proofs.Common.{refl}
use Rattle.src_run.proofs.Stacked.{left_is}
use Rattle.src_run.specs.Machine.{outs_of}
use Rattle.src_run.specs.declared.state.State.{State}
use Rattle.src_run.proofs.stepping.leave.Goals as goal

pub returns : goal.returns
returns c =
    let old = c.args.state.now in
    let new : State = record { env = c.write_values.new.env; place = c.replace-left.new.dest; callers = c.pop.new.self; wants = old.wants; given = old.given } in
    left_is old new c.in-Some.caller old.place.outs (outs_of c.args.proc.now old.env.locals)
    (rw (c.in_ok-write_values.ensures {u = tt}, c.replace-returned.ensures.after, c.as_slice-2.ensures, c.replace-left.ensures.value, c.part-values.ensures, c.len.ensures, c.len-2.ensures, c.as_slice.ensures, c.replace-returned.ensures.value) refl)
    c.replace-left.ensures.after (c.in-Some.ensures {u = tt}) refl refl
