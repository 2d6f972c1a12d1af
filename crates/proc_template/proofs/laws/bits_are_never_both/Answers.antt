use Rattle.proc_template.proofs.Running.{never_both}
use Rattle.proc_template.proofs.laws.bits_are_never_both.Goals as goal

pub returns : goal.returns
returns c = never_both c.passive_forms_are_ready.ensures
