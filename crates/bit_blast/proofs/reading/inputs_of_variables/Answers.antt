use Rattle.bit_blast.proofs.Placing.{inputs_of}
use Rattle.bit_blast.proofs.reading.inputs_of_variables.Goals as goal

pub returns : goal.returns
returns c = inputs_of
