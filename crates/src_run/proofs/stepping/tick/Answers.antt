use Rattle.std.proofs.Common.{sym, refl, arith}
use Rattle.std.proofs.lemmas.Option.{slice_get_within}
use Rattle.src_run.specs.State.{top_of, callers_of}
use Rattle.src_run.proofs.stepping.tick.Goals as goal

pub command-requires-clause-reads : goal.command-requires-clause-reads
command-requires-clause-reads c =
    c.requires (top_of c.args.state.now) (callers_of c.args.state.now) c.in-Some.proc.now c.in-Some-at.block.now c.in-Some-at-2.cmd.now refl
    (sym (rw c.procs.ensures at (c.in-Some.ensures {u = tt}))) (sym (rw c.as_slice.ensures at (c.in-Some-at.ensures {u = tt}))) (sym (rw c.as_slice-cmds.ensures at (c.in-Some-at-2.ensures {u = tt})))

pub command-requires-clause-room : goal.command-requires-clause-room
command-requires-clause-room c =
    let within = slice_get_within c.as_slice-cmds.result.now c.args.state.now.place.at c.in-Some-at-2.cmd.now (sym (c.in-Some-at-2.ensures {u = tt})) in omega arith
