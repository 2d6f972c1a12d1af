use Rattle.std.proofs.Common.{◌-◌, map, take, drop}
use Rattle.bpl_type.specs.Counts.{affine_at}
use Rattle.bpl_type.specs.Tallies.{Adds, weight_in, bracket_weight_in, weights_in}
use Rattle.bpl_type.specs.Weights.{rest_weight, all_weights, argument_weight}
use Rattle.bpl_type.proofs.count.+counting.Given as goal

abbrev pub invariant-count_rest-loop-number : goal.invariant-count_rest-loop-number
invariant-count_rest-loop-number l = Adds l.counting l.weight (rest_weight (map (weight_in l.counting) (take (l.number - 1) (drop 1 l.operands)))) l.fn.tally l.tally

abbrev pub invariant-count_brackets-loop-bracket : goal.invariant-count_brackets-loop-bracket
invariant-count_brackets-loop-bracket l = Adds l.counting l.weight (all_weights (map (bracket_weight_in l.counting) (take l.bracket-index l.brackets))) l.fn.tally l.tally

abbrev pub invariant-count_body-loop-local : goal.invariant-count_body-loop-local
invariant-count_body-loop-local l =
    Adds l.counting l.weight (λ v. affine_at l.template.base (take l.local l.template.slopes) (argument_weight v (weights_in l.counting l.arguments v))) l.fn.tally l.tally
