use Rattle.hydra_top.proofs.TreeSteps.{entry_of_none, entry_of_tree}
use Rattle.hydra_top.proofs.entry.entered_in.Goals as goal

pub returns-in-Ok-clause-entry : goal.returns-in-Ok-clause-entry
returns-in-Ok-clause-entry c = λ bytes is. entry_of_tree c.args.name.now bytes c.in-Ok.tree c.after_reading.result (c.in-Ok.ensures.tree bytes is) c.after_reading.ensures.entry

pub returns-in-Err-Fault-clause-entry : goal.returns-in-Err-Fault-clause-entry
returns-in-Err-Fault-clause-entry c = λ bytes is.
    let told = rw c.in-Err-Fault.field-0-is at c.in-Err-Fault.ensures.tree in
    rw c.in-Err-Fault.field-0-is (entry_of_none c.args.name.now bytes c.in-Err-Fault.refusal (told bytes is))
