use Rattle.std.proofs.Common.{◌∙◌, subst}
use Rattle.hydra_top.specs.Reading.{IsSource}
use Rattle.hydra_top.proofs.TreeSteps.{of_source}
use Rattle.hydra_top.proofs.trees.read_tree.Goals as goal

pub returns-in-Whole-clause-tree : goal.returns-in-Whole-clause-tree
returns-in-Whole-clause-tree c = λ bytes is.
    let told = subst (λ s. IsSource bytes s) c.in-Whole.is is in
    of_source bytes c.as_slice.result.now c.cut.result (c.as_slice.ensures ∙ told.0) told.1 c.cut.ensures.tree
