use Rattle.std.proofs.Common.{◌+◌, refl, map}
use Rattle.hy_val.specs.Exprs.{eval}
use Rattle.src_run.proofs.Stacked.{assigned_is}
use Rattle.src_run.specs.declared.state.State.{State}
use Rattle.src_run.proofs.stepping.command.Goals as goal

pub returns-in_ok-assign-in-Assign : goal.returns-in_ok-assign-in-Assign
returns-in_ok-assign-in-Assign c =
    let old = c.args.state.now in
    let new : State = record { env = c.assign.new.env; place = record old.place { at = old.place.at + 1 }; callers = old.callers; wants = old.wants; given = old.given } in
    rw c.in-Assign.is
    (assigned_is old new (map (λ p. p.0) c.in-Assign.pairs) (map (λ p. eval old.env p.1) c.in-Assign.pairs) (rw c.as_slice.ensures at (c.in_ok-assign-in-Assign.ensures {u = tt})) refl refl refl refl)
