use Rattle.trace_text.proofs.Back.{traces_are_read_back as are_read_back}
use Rattle.trace_text.proofs.laws.traces_are_read_back.Goals as goal

pub returns : goal.returns
returns c = are_read_back
