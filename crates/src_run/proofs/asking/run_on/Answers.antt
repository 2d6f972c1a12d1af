use Rattle.std.proofs.Common.{arith, ◌++◌, sym, subst, drop}
use Rattle.src_run.specs.Names.{NamesCome, turn_names}
use Rattle.src_run.specs.Machine.{Config}
use Rattle.src_run.specs.State.{config_of}
use Rattle.src_run.proofs.Naming.{names_more, joined, finished_names}
use Rattle.src_run.proofs.Replays.{one_more, finished}
use Rattle.src_run.proofs.Measured.{Suffices, enough, enough_suffices, one_less}
use Rattle.src_run.proofs.asking.run_on.Goals as goal

pub loop-names-preserved : goal.loop-names-preserved
loop-names-preserved c =
    let turned = rw c.in-On.is at (c.in_ok-next.ensures {u = tt}) in
    let fewer = one_less (enough c.args.prog.now c.args.state.place.proc c.args.bound c.args.choices.now) c.args.prog.now c.args.bound c.loop-names.index c.in-On.next (config_of c.loop-names.state) (config_of c.turn.new.state) (drop c.loop-names.index c.args.choices.now) (drop c.in-On.next c.args.choices.now) c.loop-names.invariant.suffices turned.0 in
    let old = config_of c.loop-names.state in
    let left = drop c.loop-names.index c.args.choices.now in
    let now = turn_names c.args.prog.now old old.status left in
    record {
      sorted = turned.2;
      within = turned.1;
      suffices = fewer.0;
      reaches = λ status h.
          c.loop-names.invariant.reaches status
          (one_more c.args.prog.now c.args.bound c.loop-names.index c.in-On.next old (config_of c.turn.new.state) left (drop c.in-On.next c.args.choices.now) status turned.0 h);
      names = λ more h.
          joined c.args.prog.now c.args.bound 0 (config_of c.args.state) c.args.choices.now c.name_turn.new.names c.loop-names.names now more (c.in_ok-name_turn.ensures {u = tt})
          (c.loop-names.invariant.names (now ++ more) (names_more c.args.prog.now c.args.bound c.loop-names.index c.in-On.next old (config_of c.turn.new.state) left (drop c.in-On.next c.args.choices.now) more turned.0 h));
    }

pub loop-names-smaller : goal.loop-names-smaller
loop-names-smaller c =
    let turned = rw c.in-On.is at (c.in_ok-next.ensures {u = tt}) in
    (one_less (enough c.args.prog.now c.args.state.place.proc c.args.bound c.args.choices.now) c.args.prog.now c.args.bound c.loop-names.index c.in-On.next (config_of c.loop-names.state) (config_of c.turn.new.state) (drop c.loop-names.index c.args.choices.now) (drop c.in-On.next c.args.choices.now) c.loop-names.invariant.suffices turned.0).1

pub loop-names-init : goal.loop-names-init
loop-names-init c =
    record {
      sorted = c.requires.sorted;
      within = omega arith;
      reaches = λ status h. h;
      names = λ more h. rw c.new-names.ensures h;
      suffices =
          subst (λ (d : Config). Suffices (enough c.args.prog.now c.args.state.place.proc c.args.bound c.args.choices.now) c.args.prog.now c.args.bound 0 d c.args.choices.now) (sym c.requires.begins)
          (enough_suffices c.args.prog.now c.args.state.place.proc c.args.bound c.args.choices.now c.consts-consts.ensures.kept);
    }

pub returns-in-Over : goal.returns-in-Over
returns-in-Over c =
    let turned = rw c.in-Over.is at (c.in_ok-next.ensures {u = tt}) in
    let old = config_of c.loop-names.state in
    let left = drop c.loop-names.index c.args.choices.now in (
      c.loop-names.invariant.reaches c.in-Over.status (finished c.args.prog.now c.args.bound c.loop-names.index old left c.in-Over.status turned),
      subst (NamesCome c.args.prog.now c.args.bound 0 (config_of c.args.state) c.args.choices.now) (sym (c.in_ok-name_turn.ensures {u = tt}))
          (c.loop-names.invariant.names (turn_names c.args.prog.now old old.status left) (finished_names c.args.prog.now c.args.bound c.loop-names.index old left c.in-Over.status turned)),
    )
