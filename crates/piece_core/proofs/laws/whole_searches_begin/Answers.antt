use Rattle.piece_core.proofs.Journal.{whole_well}
use Rattle.piece_core.proofs.laws.whole_searches_begin.Goals as goal

pub returns : goal.returns
returns c = whole_well
