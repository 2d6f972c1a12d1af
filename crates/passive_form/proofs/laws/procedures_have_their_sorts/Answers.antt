use Rattle.passive_form.proofs.Sorting.{procs_are_sorted}
use Rattle.passive_form.proofs.laws.procedures_have_their_sorts.Goals as goal

pub returns : goal.returns
returns c = procs_are_sorted
