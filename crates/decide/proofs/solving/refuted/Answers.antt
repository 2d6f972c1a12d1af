use Rattle.decide.proofs.Deciding.{anew_refutes}
use Rattle.decide.proofs.solving.refuted.Goals as goal

pub returns-clause-never : goal.returns-clause-never
returns-clause-never c = c.refutation_is_sound.ensures c.args.cnf.variables c.args.cnf.clauses c.args.log.lines (anew_refutes c.args.cnf.clauses c.args.log.lines c.requires)
