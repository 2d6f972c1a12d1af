use Rattle.bpl_tok.proofs.SpellingLaws.{keywords_by_length}
use Rattle.bpl_tok.proofs.piece.words.keyword.Goals as goal

pub returns : goal.returns
returns c = rw (keywords_by_length c.args.word.now) cc
