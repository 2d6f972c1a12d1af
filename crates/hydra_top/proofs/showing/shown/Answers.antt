use Rattle.std.proofs.Common.{refl, Ok}
use Rattle.hydra_top.proofs.Told.{shown_refused}
use Rattle.hydra_top.proofs.showing.shown.Goals as goal

pub returns-in_ok-text-in-Ok-clause-answer : goal.returns-in_ok-text-in-Ok-clause-answer
returns-in_ok-text-in-Ok-clause-answer c = λ bytes is files.
    record { read = Ok c.in-Ok.tree; reads = c.in-Ok.ensures.tree bytes is; judged = (refl, c.in_ok-text-in-Ok.ensures {u = tt}) }

pub returns-in-Err-Fault-clause-answer : goal.returns-in-Err-Fault-clause-answer
returns-in-Err-Fault-clause-answer c = λ bytes is files.
    let told = rw c.in-Err-Fault.field-0-is at c.in-Err-Fault.ensures.tree in
    shown_refused files bytes c.in-Err-Fault.refusal c.refused.result (told bytes is) c.refused.ensures
