use Rattle.book_verdict.proofs.Books.{runs_of_books}
use Rattle.book_verdict.proofs.laws.bug_books_have_runs.Goals as goal

pub returns : goal.returns
returns c = runs_of_books
