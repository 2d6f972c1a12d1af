use Rattle.book_verdict.proofs.Books.{runs_fail}
use Rattle.book_verdict.proofs.laws.found_runs_fail.Goals as goal

pub returns : goal.returns
returns c = runs_fail c.failing_trees_have_lists.ensures c.whole_partial_runs_are_full_trees.ensures
