use Rattle.std.proofs.Common.{rules}
use Rattle.trace_text.proofs.Lines.{other_words}
use Rattle.trace_text.proofs.reading.lines.line_of_words.Goals as goal

pub returns-then-words-ne3 : goal.returns-then-words-ne3
returns-then-words-ne3 c = other_words (λ w. w.now) c.args.words.now (search rules) (search rules)
