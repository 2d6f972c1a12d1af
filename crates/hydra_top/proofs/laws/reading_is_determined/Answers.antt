use Rattle.hydra_top.proofs.Determined.{determined}
use Rattle.hydra_top.proofs.laws.reading_is_determined.Goals as goal

pub returns : goal.returns
returns c = λ bytes one other h k. determined c.grammar_is_exact.ensures.exact bytes one other h k
