use Rattle.gate_net.proofs.Ties.{mux_ties, four_more}
use Rattle.gate_net.proofs.encoding.tie_mux.Goals as goal

pub returns-clause-count : goal.returns-clause-count
returns-clause-count c = four_more _ _ _ _ _ _ _ _ _ c.in_ok-add_three.ensures.clauses c.in_ok-add_three-2.ensures.clauses c.in_ok-add_three-3.ensures.clauses c.in_ok-add_three-4.ensures.clauses

pub returns-clause-ties : goal.returns-clause-ties
returns-clause-ties c =
    mux_ties c.args.to c.args.pick c.args.one c.args.other _ _ _ _ _ _ _ _
    c.positive-on.ensures c.negative-off.ensures c.positive-pick_on.ensures c.negative-pick_off.ensures c.positive-one_on.ensures c.negative-one_off.ensures c.positive-other_on.ensures c.negative-other_off.ensures
    _ _ _ _ _ c.in_ok-add_three.ensures.clauses c.in_ok-add_three-2.ensures.clauses c.in_ok-add_three-3.ensures.clauses c.in_ok-add_three-4.ensures.clauses
