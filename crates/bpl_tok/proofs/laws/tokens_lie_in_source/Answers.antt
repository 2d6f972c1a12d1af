use Rattle.bpl_tok.proofs.CutLaws.{tokens_lie}
use Rattle.bpl_tok.proofs.laws.tokens_lie_in_source.Goals as goal

pub returns : goal.returns
returns c = tokens_lie
