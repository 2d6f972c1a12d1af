use Rattle.hydra_words.proofs.CommandsExact.{commands_exact}
use Rattle.hydra_words.proofs.laws.commands_are_read_exactly.Goals as goal

pub returns : goal.returns
returns c = commands_exact
