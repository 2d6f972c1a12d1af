-- The law is the lemma, with the law of copies.
use Rattle.tree_words.proofs.Bridge.{composed}
use Rattle.tree_words.proofs.laws.copies_compose.Goals as goal

pub returns : goal.returns
returns c = λ is_node template into put place consts globals args proc is a fit own chosen agrees.
    composed c.variables_alone_matter.ensures is_node template into put place consts globals args proc is a fit own chosen agrees
