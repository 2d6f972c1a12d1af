use Rattle.std.proofs.Common.{subst}
use Rattle.std.proofs.lemmas.Result.{IfOk-weaker}
use Rattle.src_run.specs.Machine.{Config, Comes, HasStatus, begin}
use Rattle.src_run.specs.State.{config_of}
use Rattle.src_run.proofs.Replays.{stands}
use Rattle.src_run.proofs.Measured.{begins_in}
use Rattle.src_run.proofs.replaying.replay.Goals as goal

pub run_on-requires-clause-begins : goal.run_on-requires-clause-begins
run_on-requires-clause-begins c =
    let begun = rw c.in-Going.is at (c.in_ok-state.ensures {u = tt}) in
    begins_in c.args.prog.now c.args.entry c.in-Going.state c.requires begun.0

pub returns-in-Going : goal.returns-in-Going
returns-in-Going c =
    let begun = rw c.in-Going.is at (c.in_ok-state.ensures {u = tt}) in
    IfOk-weaker c.run_on.result (λ s. Comes c.args.prog.now c.args.bound 0 (config_of c.in-Going.state) c.args.choices.now s) (λ s. HasStatus c.args.prog.now c.args.entry c.args.bound c.args.choices.now s)
    (λ s h. subst (λ (d : Config). Comes c.args.prog.now c.args.bound 0 d c.args.choices.now s) begun.0 h) c.run_on.ensures

pub returns-in-Over : goal.returns-in-Over
returns-in-Over c =
    let begun = rw c.in-Over.is at (c.in_ok-state.ensures {u = tt}) in
    rw c.ending.ensures (stands c.args.prog.now c.args.bound 0 (begin c.args.prog.now c.args.entry) c.args.choices.now c.in-Over.status begun.0 begun.1)
