use Rattle.std.proofs.Common.{◌∙◌, subst}
use Rattle.src_run.specs.Running.{RunsTo}
use Rattle.src_run.specs.Search.{NoneFrom, FirstFrom, bool_choices}
use Rattle.src_run.specs.declared.machine.Status.TheVariants.{Ended, Blocked, Cut, BadChoice}
use Rattle.src_run.proofs.Runs.{both_none, false_first, true_first, full_first, none_behind}
use Rattle.src_run.proofs.searching.+search_from.Goals as goal

pub returns-in-Failed : goal.returns-in-Failed
returns-in-Failed t c = λ bound.
    full_first c.args.prog.now c.args.entry bound c.args.given.now _ (c.in_ok-choices-in-Failed.ensures {u = tt})
    (subst (RunsTo c.args.prog.now c.args.entry bound c.args.given.now) c.in-Failed.is (c.in_ok-proc.ensures.status bound))

pub returns-in-Ended : goal.returns-in-Ended
returns-in-Ended t c = λ bound. none_behind c.args.prog.now c.args.entry bound c.args.given.now Ended (subst (RunsTo c.args.prog.now c.args.entry bound c.args.given.now) c.in-Ended.is (c.in_ok-proc.ensures.status bound)) tt (λ e. cc)

pub returns-in-Blocked : goal.returns-in-Blocked
returns-in-Blocked t c = λ bound. none_behind c.args.prog.now c.args.entry bound c.args.given.now Blocked (subst (RunsTo c.args.prog.now c.args.entry bound c.args.given.now) c.in-Blocked.is (c.in_ok-proc.ensures.status bound)) tt (λ e. cc)

pub returns-in-Cut : goal.returns-in-Cut
returns-in-Cut t c = λ bound. none_behind c.args.prog.now c.args.entry bound c.args.given.now Cut (subst (RunsTo c.args.prog.now c.args.entry bound c.args.given.now) c.in-Cut.is (c.in_ok-proc.ensures.status bound)) tt (λ e. cc)

pub returns-in-BadChoice : goal.returns-in-BadChoice
returns-in-BadChoice t c = λ bound. none_behind c.args.prog.now c.args.entry bound c.args.given.now (BadChoice c.in-BadChoice.index) (subst (RunsTo c.args.prog.now c.args.entry bound c.args.given.now) c.in-BadChoice.is (c.in_ok-proc.ensures.status bound)) tt (λ e. cc)

pub returns-in-Some : goal.returns-in-Some
returns-in-Some t c = λ bound.
    let first : FirstFrom c.args.prog.now c.args.entry bound (bool_choices c.as_slice.result.now) c.in-Some.found = rw c.in-Some.is at (c.in_ok-found.ensures {u = tt}) bound in
    false_first c.args.prog.now c.args.entry bound c.args.given.now c.as_slice.result.now c.in-Some.found (c.as_slice.ensures.value ∙ c.in_ok-with_false.ensures {u = tt}) first

pub returns-in-Some-2 : goal.returns-in-Some-2
returns-in-Some-2 t c = λ bound.
    let none : NoneFrom c.args.prog.now c.args.entry bound (bool_choices c.as_slice.result.now) = rw c.in-None.is at (c.in_ok-found.ensures {u = tt}) bound in
    let first : FirstFrom c.args.prog.now c.args.entry bound (bool_choices c.as_slice-2.result.now) c.in-Some-2.found = rw c.in-Some-2.is at (c.in_ok-found-2.ensures {u = tt}) bound in
    true_first c.args.prog.now c.args.entry bound c.args.given.now c.as_slice.result.now c.as_slice-2.result.now c.in-Some-2.found (c.as_slice.ensures.value ∙ c.in_ok-with_false.ensures {u = tt}) none (c.as_slice-2.ensures.value ∙ c.in_ok-with_true.ensures {u = tt}) first

pub returns-in-None-2 : goal.returns-in-None-2
returns-in-None-2 t c = λ bound.
    let no_false : NoneFrom c.args.prog.now c.args.entry bound (bool_choices c.as_slice.result.now) = rw c.in-None.is at (c.in_ok-found.ensures {u = tt}) bound in
    let no_true : NoneFrom c.args.prog.now c.args.entry bound (bool_choices c.as_slice-2.result.now) = rw c.in-None-2.is at (c.in_ok-found-2.ensures {u = tt}) bound in
    both_none c.args.prog.now c.args.entry bound c.args.given.now c.as_slice.result.now c.as_slice-2.result.now
    (subst (RunsTo c.args.prog.now c.args.entry bound c.args.given.now) c.in-Going.is (c.in_ok-proc.ensures.status bound))
    (c.as_slice.ensures.value ∙ c.in_ok-with_false.ensures {u = tt}) no_false (c.as_slice-2.ensures.value ∙ c.in_ok-with_true.ensures {u = tt}) no_true
