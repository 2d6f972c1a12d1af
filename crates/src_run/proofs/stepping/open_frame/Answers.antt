use Rattle.std.proofs.Common.{refl}
use Rattle.src_prog.specs.Scope.{sorts_of}
use Rattle.src_run.proofs.Stacked.{opened_is, asked_locals}
use Rattle.src_run.specs.declared.state.State.{State}
use Rattle.src_run.proofs.stepping.open_frame.Goals as goal

pub returns : goal.returns
returns c =
    let old = c.args.state.now in
    let new : State = record {
      env = record { consts = old.env.consts; globals = old.env.globals; locals = c.replace-locals.new.dest };
      place = c.replace-place.new.dest;
      callers = c.push.new.self;
      wants = c.ask_locals-2.new.wants;
      given = 0;
    } in
    opened_is old new c.args.number c.args.proc.now c.args.ins c.args.outs.now
    (rw c.replace-locals.ensures.after refl)
    (rw (c.replace-place.ensures.after, c.new.ensures, c.in_ok-from_slice.ensures) refl)
    (rw (c.in_ok-push.ensures.ok, c.replace-place.ensures.value, c.replace-locals.ensures.value) refl)
    (asked_locals (sorts_of c.args.proc.now.outs) (sorts_of c.args.proc.now.locals) c.ask_locals-2.new.wants c.ask_locals.new.wants c.new-wants.result
    (rw c.as_slice.ensures at (c.in_ok-ask_locals.ensures {u = tt})) (rw c.as_slice-2.ensures at (c.in_ok-ask_locals-2.ensures {u = tt})) c.new-wants.ensures)
