use Rattle.cnf_form.proofs.Trails.{is_among-map}
use Rattle.cnf_form.proofs.trail.TrailFalseLiterals.is_false.Goals as goal

pub returns : goal.returns
returns c = rw (is_among-map, c.is_true.ensures, c.negated.ensures)
