use Rattle.proc_template.proofs.Numbering.{one_fails}
use Rattle.proc_template.proofs.laws.one_site_fails.Goals as goal

pub returns : goal.returns
returns c = one_fails (record { ready = c.passive_forms_are_ready.ensures; once = c.blocks_stand_once.ensures; each = c.calls_have_one_site_each.ensures; sorted = c.procedures_have_their_sorts.ensures })
