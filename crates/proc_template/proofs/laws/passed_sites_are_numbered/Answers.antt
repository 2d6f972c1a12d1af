use Rattle.proc_template.proofs.Numbering.{passed_numbered}
use Rattle.proc_template.proofs.laws.passed_sites_are_numbered.Goals as goal

pub returns : goal.returns
returns c = passed_numbered (record { ready = c.passive_forms_are_ready.ensures; once = c.blocks_stand_once.ensures; each = c.calls_have_one_site_each.ensures; sorted = c.procedures_have_their_sorts.ensures })
