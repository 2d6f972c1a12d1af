use Rattle.book_verdict.proofs.Books.{safe_books}
use Rattle.book_verdict.proofs.laws.safe_books_are_safe.Goals as goal

pub returns : goal.returns
returns c = safe_books c.failing_lists_have_trees.ensures c.full_trees_have_partial_runs.ensures c.refutation_is_sound.ensures
