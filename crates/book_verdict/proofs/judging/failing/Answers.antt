use Rattle.flat_prog.specs.Nodes.{run_of}
use Rattle.book_verdict.proofs.Books.{fails_of, failing_is, has_failed, same_flat}
use Rattle.book_verdict.proofs.judging.failing.Goals as goal

pub failed-proc-requires : goal.failed-proc-requires
failed-proc-requires c =
    let task = c.args.book.now.task in
    let same = c.task-task.result.now in
    let run = c.found_run-run.result.now in
    let fails = c.found_runs_fail.ensures c.args.prog.now task c.args.book.now.nodes c.args.book.now.entries c.args.node run
    (record { program = c.consts-named.ensures.kept; flat = same_flat task same c.task-task.ensures c.consts-sorts.ensures.kept; extracted = c.requires.flat; sound = c.is_sound.ensures })
    c.requires.entry c.found_run-run.ensures in
    let listed = c.in_ok-listed.ensures {u = tt} in
    let whole = c.in_ok-whole.ensures {u = tt} in
    has_failed c.in_ok-whole.whole.status fails.proc fails.number
    (whole.2 _ (fails_of c.args.prog.now task same (run_of run) c.as_slice.result.now c.in_ok-listed.listed c.task-task.ensures c.as_slice.ensures listed.value fails))

pub returns : goal.returns
returns c =
    let task = c.args.book.now.task in
    let run = c.found_run-run.result.now in
    let listed = c.in_ok-listed.ensures {u = tt} in
    let whole = c.in_ok-whole.ensures {u = tt} in
    let is = failing_is c.args.prog.now task c.task-task.result.now (run_of run) c.as_slice.result.now c.in_ok-listed.listed c.in_ok-whole.whole.status c.failed-proc.result.0 c.failed-proc.result.1 c.task-task.ensures c.as_slice.ensures
    listed.value whole.0 c.failed-proc.ensures in
    record { node = c.args.node; verdict = c.requires.bug; run = run; found = c.found_run-run.ensures; are = is.0; fails = is.1 }
