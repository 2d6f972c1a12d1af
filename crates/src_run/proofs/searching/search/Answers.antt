use Rattle.std.proofs.Common.{◌∙◌}
use Rattle.src_run.specs.Search.{NoneFrom, FirstFrom, bool_choices}
use Rattle.src_run.proofs.Runs.{first_of_all, none_of_all}
use Rattle.src_run.proofs.searching.search.Goals as goal

pub returns-in-Some : goal.returns-in-Some
returns-in-Some c = λ bound.
    let first : FirstFrom c.args.prog.now c.args.entry bound (bool_choices c.as_slice.result.now) c.in-Some.found = rw c.in-Some.is at (c.in_ok-found.ensures {u = tt}) bound in
    first_of_all c.args.prog.now c.args.entry bound c.in-Some.found c.as_slice.result.now (c.as_slice.ensures.value ∙ c.new-none.ensures.items) first

pub returns-in-None : goal.returns-in-None
returns-in-None c = λ bound.
    let none : NoneFrom c.args.prog.now c.args.entry bound (bool_choices c.as_slice.result.now) = rw c.in-None.is at (c.in_ok-found.ensures {u = tt}) bound in
    none_of_all c.args.prog.now c.args.entry bound c.as_slice.result.now (c.as_slice.ensures.value ∙ c.new-none.ensures.items) none
