use Rattle.gate_net.proofs.Ties.{no_ties, one_more}
use Rattle.gate_net.proofs.encoding.tie_false.Goals as goal

pub returns-clause-count : goal.returns-clause-count
returns-clause-count c = one_more _ _ _ c.in_ok-add_one.ensures.clauses

pub returns-clause-ties : goal.returns-clause-ties
returns-clause-ties c = no_ties _ _ c.args.to _ c.negative-off.ensures c.in_ok-add_one.ensures.clauses
