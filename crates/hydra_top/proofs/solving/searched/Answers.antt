use Rattle.std.proofs.Common.{sym, subst}
use Rattle.hydra_top.specs.Top.{IsVerdict}
use Rattle.src_run.specs.Search.{FirstFailing}
use Rattle.hydra_top.proofs.solving.searched.Goals as goal

pub trace-requires-clause-fails : goal.trace-requires-clause-fails
trace-requires-clause-fails c =
    let told = rw c.in-Some.is at c.in_ok-search.ensures in
    let first : FirstFailing c.args.prog.now c.args.entry c.args.bound c.in-Some.failing = told c.args.bound in
    first.fails

pub returns-in_ok-text-in-None-clause-answer : goal.returns-in_ok-text-in-None-clause-answer
returns-in_ok-text-in-None-clause-answer c =
    let told = rw c.in-None.is at c.in_ok-search.ensures in
    (told c.args.bound, c.in_ok-text-in-None.ensures {u = tt})

pub returns-in_ok-text-in-Some-clause-answer : goal.returns-in_ok-text-in-Some-clause-answer
returns-in_ok-text-in-Some-clause-answer c =
    let told = rw c.in-Some.is at c.in_ok-search.ensures in
    let first : FirstFailing c.args.prog.now c.args.entry c.args.bound c.in-Some.failing = told c.args.bound in
    subst (λ o. IsVerdict c.args.prog.now c.args.entry c.args.bound o c.in_ok-text-in-Some.text) (sym c.bug.ensures) (first.fails, c.in_ok-text-in-Some.ensures {u = tt})
