use Rattle.bpl_round.proofs.Whole.{reads_alike}
use Rattle.bpl_round.proofs.round.shown_reads_alike.Goals as goal

pub returns : goal.returns
returns c = reads_alike
