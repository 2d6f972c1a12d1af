use Rattle.proc_template.proofs.Shaped.{shaped}
use Rattle.proc_template.proofs.laws.templates_are_shaped.Goals as goal

pub returns : goal.returns
returns c = shaped (record { ready = c.passive_forms_are_ready.ensures; sorted = c.procedures_have_their_sorts.ensures; behind = c.globals_behind_calls_have_their_sorts.ensures })
