use Rattle.proc_template.proofs.Numbering.{none_fails}
use Rattle.proc_template.proofs.laws.none_fails_at_ends.Goals as goal

pub returns : goal.returns
returns c = none_fails (record { ready = c.passive_forms_are_ready.ensures; once = c.blocks_stand_once.ensures; each = c.calls_have_one_site_each.ensures; sorted = c.procedures_have_their_sorts.ensures }) c.bits_are_never_both.ensures
