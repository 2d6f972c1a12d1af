use Rattle.vc_gen.proofs.Earlier.{read_before}
use Rattle.vc_gen.proofs.laws.calls_read_variables_before_them.Goals as goal

pub returns : goal.returns
returns c = read_before c.values_stay.ensures
