use Rattle.bpl_parse.proofs.WholeLaws.{is_exact, has_one_tree, are_fronts}
use Rattle.bpl_parse.proofs.reading.grammar_is_exact.Goals as goal

pub returns : goal.returns
returns c = record { exact = is_exact; one = has_one_tree; fronts = are_fronts }
