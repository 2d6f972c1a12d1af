use Rattle.proc_template.proofs.Telling.{roles_told}
use Rattle.proc_template.proofs.laws.roles_are_told.Goals as goal

pub returns : goal.returns
returns c =
    roles_told
    (record { ready = c.passive_forms_are_ready.ensures; once = c.blocks_stand_once.ensures; each = c.calls_have_one_site_each.ensures; sorted = c.procedures_have_their_sorts.ensures })
