use Rattle.std.proofs.Common.{arith, sym, subst, drop}
use Rattle.src_run.specs.Machine.{Config}
use Rattle.src_run.specs.State.{config_of}
use Rattle.src_run.proofs.Replays.{one_more, finished}
use Rattle.src_run.proofs.Measured.{Suffices, enough, enough_suffices, one_less}
use Rattle.src_run.proofs.replaying.run_on.Goals as goal

pub loop-state-preserved : goal.loop-state-preserved
loop-state-preserved c =
    let turned = rw c.in-On.is at (c.in_ok-next.ensures {u = tt}) in
    let fewer = one_less (enough c.args.prog.now c.args.state.place.proc c.args.bound c.args.choices.now) c.args.prog.now c.args.bound c.loop-state.index c.in-On.next (config_of c.loop-state.state) (config_of c.turn.new.state) (drop c.loop-state.index c.args.choices.now) (drop c.in-On.next c.args.choices.now) c.loop-state.invariant.suffices turned.0 in
    record {
      sorted = turned.2;
      within = turned.1;
      suffices = fewer.0;
      reaches = λ status h.
          c.loop-state.invariant.reaches status
          (one_more c.args.prog.now c.args.bound c.loop-state.index c.in-On.next (config_of c.loop-state.state) (config_of c.turn.new.state) (drop c.loop-state.index c.args.choices.now) (drop c.in-On.next c.args.choices.now) status turned.0 h);
    }

pub loop-state-smaller : goal.loop-state-smaller
loop-state-smaller c =
    let turned = rw c.in-On.is at (c.in_ok-next.ensures {u = tt}) in
    (one_less (enough c.args.prog.now c.args.state.place.proc c.args.bound c.args.choices.now) c.args.prog.now c.args.bound c.loop-state.index c.in-On.next (config_of c.loop-state.state) (config_of c.turn.new.state) (drop c.loop-state.index c.args.choices.now) (drop c.in-On.next c.args.choices.now) c.loop-state.invariant.suffices turned.0).1

pub loop-state-init : goal.loop-state-init
loop-state-init c =
    record {
      sorted = c.requires.sorted;
      within = omega arith;
      reaches = λ status h. h;
      suffices =
          subst (λ (d : Config). Suffices (enough c.args.prog.now c.args.state.place.proc c.args.bound c.args.choices.now) c.args.prog.now c.args.bound 0 d c.args.choices.now) (sym c.requires.begins)
          (enough_suffices c.args.prog.now c.args.state.place.proc c.args.bound c.args.choices.now c.consts-consts.ensures.kept);
    }

pub returns-in-Over : goal.returns-in-Over
returns-in-Over c =
    let turned = rw c.in-Over.is at (c.in_ok-next.ensures {u = tt}) in
    c.loop-state.invariant.reaches c.in-Over.status (finished c.args.prog.now c.args.bound c.loop-state.index (config_of c.loop-state.state) (drop c.loop-state.index c.args.choices.now) c.in-Over.status turned)
