use Rattle.proc_template.proofs.Sited.{have_sites}
use Rattle.proc_template.proofs.laws.templates_have_sites.Goals as goal

pub returns : goal.returns
returns c =
    have_sites
    (record { ready = c.passive_forms_are_ready.ensures; once = c.blocks_stand_once.ensures; each = c.calls_have_one_site_each.ensures; sorted = c.procedures_have_their_sorts.ensures })
