use Rattle.std.proofs.Common.{sym}
use Rattle.book_verdict.specs.Verdicts.{IsBookOf}
use Rattle.book_verdict.proofs.Books.{same_flat}
use Rattle.book_verdict.proofs.judging.judge.Goals as goal

pub returns-in-Safe : goal.returns-in-Safe
returns-in-Safe c =
    let is = sym c.in-Safe.ensures.is in
    let task = c.args.book.now.task in
    let book : IsBookOf c.args.prog.now task c.args.book.now.nodes c.args.book.now.entries = record {
      program = c.consts-named.ensures.kept;
      flat = same_flat task c.task.result.now c.task.ensures c.consts-sorts.ensures.kept;
      extracted = c.requires.flat;
      sound = c.is_sound.ensures;
    } in
    (is, c.safe_books_are_safe.ensures c.args.prog.now task c.args.book.now.nodes c.args.book.now.entries book is)
