use Rattle.std.proofs.Common.{◌+◌, ◌∙◌, sym, refl, ap, map, drop, arith}
use Rattle.std.proofs.lemmas.List.{append-nil}
use Rattle.src_run.specs.State.{config_of, want_of}
use Rattle.src_run.proofs.Naming.{taken_names}
use Rattle.src_run.proofs.Replays.{item_there}
use Rattle.src_run.proofs.Takes.{drop_some, drop_none}
use Rattle.src_run.proofs.asking.name_turn.Goals as goal

pub returns-in_ok-name-in-Some : goal.returns-in_ok-name-in-Some
returns-in_ok-name-in-Some c =
    let s = c.args.state.now in
    let x = item_there c.args.index c.args.choices.now (omega arith) in
    let rest = map want_of (drop (s.given + 1) s.wants) in
    let wants = ap (map want_of) (drop_some s.given s.wants c.in-Some.asked.now (sym (rw c.as_slice.ensures at (c.in-Some.ensures {u = tt})))) in
    let taken = taken_names c.args.prog.now (config_of s) (want_of c.in-Some.asked.now) rest x.0 (drop (c.args.index + 1) c.args.choices.now) (drop c.args.index c.args.choices.now) refl wants (drop_some c.args.index c.args.choices.now x.0 x.1) in
    let named = c.in_ok-name-in-Some.ensures {u = tt} ∙ c.asked_of.ensures in
    rw (taken, sym named) c.push.ensures.ok

pub returns-in-None : goal.returns-in-None
returns-in-None c = rw (drop_none c.args.state.now.given c.args.state.now.wants (sym (rw c.as_slice.ensures at (c.in-None.ensures {u = tt})))) (sym (append-nil c.args.names.now))
