use Rattle.std.proofs.Common.{◌+◌, drop, map, length, refl, ap}
use Rattle.std.proofs.lemmas.Option.{slice_get_read}
use Rattle.src_run.specs.State.{config_of, want_of}
use Rattle.src_run.proofs.Takes.{can_accept, drop_some}
use Rattle.src_run.proofs.choosing.take_choice.Goals as goal

pub accept-requires : goal.accept-requires
accept-requires c =
    let s = c.args.state.now in
    let w = c.index-wants-state.result in
    can_accept c.args.prog.now c.args.bound c.args.index (config_of s) c.args.choice.now (want_of w) (map want_of (drop (s.given + 1) s.wants)) c.in-Some.taken c.requires.tests
    (ap (map want_of) (drop_some s.given s.wants w (slice_get_read s.wants (length s.wants) s.given w refl c.requires.asks (rw c.as_slice-wants.ensures at c.index-wants-state.is))))
    (rw c.in-Some.is at (c.in_ok-taken.ensures {u = tt}))
