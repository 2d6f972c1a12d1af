use Rattle.hydra_top.proofs.Told.{solo_done, solo_refused}
use Rattle.hydra_top.proofs.solving.solved.Goals as goal

pub returns-in-Ok-clause-answer : goal.returns-in-Ok-clause-answer
returns-in-Ok-clause-answer c = λ bytes is files.
    solo_done files c.args.name.now bytes c.args.bound c.in-Ok.found c.at_entry.result (c.in-Ok.ensures.entry bytes is) c.at_entry.ensures.answer

pub returns-in-Err-Fault-clause-answer : goal.returns-in-Err-Fault-clause-answer
returns-in-Err-Fault-clause-answer c = λ bytes is files.
    let told = rw c.in-Err-Fault.field-0-is at c.in-Err-Fault.ensures.entry in
    solo_refused files c.args.name.now bytes c.args.bound c.in-Err-Fault.refusal c.refused.result (told bytes is) c.refused.ensures
