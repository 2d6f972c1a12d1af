use Rattle.bpl_tok.proofs.CutLaws.{reading_cut}
use Rattle.bpl_tok.proofs.laws.reading_cuts.Goals as goal

pub returns : goal.returns
returns c = reading_cut
