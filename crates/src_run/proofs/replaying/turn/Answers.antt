use Rattle.std.proofs.Common.{◌+◌, length, drop, map, refl, arith}
use Rattle.std.proofs.lemmas.List.{drop_all}
use Rattle.std.proofs.lemmas.Option.{slice_get_read}
use Rattle.src_run.specs.Machine.{tick, take_choice}
use Rattle.src_run.specs.State.{config_of, want_of}
use Rattle.src_run.proofs.Replays.{can_tick, can_take, asks_nothing, asks_next, step_is, turn_is, tick_turn, choice_turn, stands_asking}
use Rattle.src_run.proofs.replaying.turn.Goals as goal

pub tick-requires : goal.tick-requires
tick-requires c = can_tick c.args.prog.now (config_of c.args.state.now) c.consts-consts.ensures.kept c.requires.sorted (asks_nothing c.args.state.now (omega arith))

pub returns-then-state-len : goal.returns-then-state-len
returns-then-state-len c =
    let old = config_of c.args.state.now in
    rw c.behind.ensures
    (turn_is c.args.prog.now c.args.bound c.args.index c.args.index c.args.choices.now old (tick c.args.prog.now c.args.bound old) c.tick.new.state c.in_ok-step.step c.consts-consts.ensures.kept c.requires.sorted c.requires.within
    (tick_turn c.args.prog.now c.args.bound c.args.index c.args.choices.now old refl (asks_nothing c.args.state.now (omega arith))) (c.in_ok-step.ensures {u = tt}))

pub returns-then-index-choices : goal.returns-then-index-choices
returns-then-index-choices c =
    let s = c.args.state.now in
    let w = asks_next s (omega arith) in
    stands_asking c.args.prog.now c.args.bound c.args.index (config_of s) (want_of w.0) (map want_of (drop (s.given + 1) s.wants)) (drop c.args.index c.args.choices.now) refl w.1 (drop_all c.args.index c.args.choices.now (omega arith))

pub take_choice-requires-clause-tests : goal.take_choice-requires-clause-tests
take_choice-requires-clause-tests c = can_take c.args.prog.now c.args.bound c.args.index (config_of c.args.state.now) c.index-choices-index.result c.consts-consts.ensures.kept c.requires.sorted

pub behind-requires-2 : goal.behind-requires-2
behind-requires-2 c =
    let s = c.args.state.now in
    let w = asks_next s (omega arith) in
    let rest = map want_of (drop (s.given + 1) s.wants) in
    step_is c.in_ok-step-2.step c.take_choice.new.state (take_choice c.args.prog.now c.args.bound (config_of s) c.args.index (want_of w.0) rest c.index-choices-index.result) (c.in_ok-step-2.ensures {u = tt} (want_of w.0) rest w.1)

pub returns : goal.returns
returns c =
    let s = c.args.state.now in
    let w = asks_next s (omega arith) in
    let rest = map want_of (drop (s.given + 1) s.wants) in
    let choice = c.index-choices-index.result in
    rw c.behind-2.ensures
    (turn_is c.args.prog.now c.args.bound c.args.index (c.args.index + 1) c.args.choices.now (config_of s) (take_choice c.args.prog.now c.args.bound (config_of s) c.args.index (want_of w.0) rest choice) c.take_choice.new.state c.in_ok-step-2.step
    c.consts-consts.ensures.kept c.requires.sorted (omega arith)
    (choice_turn c.args.prog.now c.args.bound c.args.index c.args.choices.now (config_of s) (want_of w.0) rest choice refl w.1 (slice_get_read c.args.choices.now (length c.args.choices.now) c.args.index choice refl (omega arith) c.index-choices-index.is))
    (c.in_ok-step-2.ensures {u = tt} (want_of w.0) rest w.1))
