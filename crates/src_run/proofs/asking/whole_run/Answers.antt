use Rattle.std.proofs.Common.{subst}
use Rattle.std.proofs.lemmas.Result.{IfOk-weaker}
use Rattle.src_run.specs.Machine.{Config, HasStatus, begin}
use Rattle.src_run.specs.State.{config_of}
use Rattle.src_run.specs.Whole.{IsRun, IsRunFrom}
use Rattle.src_run.proofs.Naming.{over_names}
use Rattle.src_run.proofs.Replays.{stands}
use Rattle.src_run.proofs.Runs.{one_status}
use Rattle.src_run.proofs.Measured.{begins_in}
use Rattle.src_run.proofs.asking.whole_run.Goals as goal

pub run_on-requires-clause-begins : goal.run_on-requires-clause-begins
run_on-requires-clause-begins c =
    let begun = rw c.in-Going.is at (c.in_ok-state.ensures {u = tt}) in
    begins_in c.args.prog.now c.args.entry c.in-Going.state c.requires begun.0

pub returns-in-Going : goal.returns-in-Going
returns-in-Going c =
    let begun = rw c.in-Going.is at (c.in_ok-state.ensures {u = tt}) in
    IfOk-weaker c.run_on.result (λ r. IsRunFrom c.args.prog.now c.args.bound (config_of c.in-Going.state) c.args.choices.now r) (λ r. IsRun c.args.prog.now c.args.entry c.args.bound c.args.choices.now r)
    (λ r h. let k = subst (λ (d : Config). IsRunFrom c.args.prog.now c.args.bound d c.args.choices.now r) begun.0 h in
    (k.0, k.1, λ other o. one_status c.args.prog.now c.args.bound 0 (begin c.args.prog.now c.args.entry) c.args.choices.now other r.status o k.0)) c.run_on.ensures

pub returns-in-Over : goal.returns-in-Over
returns-in-Over c =
    let begun = rw c.in-Over.is at (c.in_ok-state.ensures {u = tt}) in
    let first = begin c.args.prog.now c.args.entry in
    let status : HasStatus c.args.prog.now c.args.entry c.args.bound c.args.choices.now c.ending.result = rw c.ending.ensures (stands c.args.prog.now c.args.bound 0 first c.args.choices.now c.in-Over.status begun.0 begun.1) in (
      status,
      rw c.new.ensures (over_names c.args.prog.now c.args.bound 0 first c.args.choices.now c.in-Over.status begun.0 begun.1),
      λ other o. one_status c.args.prog.now c.args.bound 0 first c.args.choices.now other c.ending.result o status,
    )
