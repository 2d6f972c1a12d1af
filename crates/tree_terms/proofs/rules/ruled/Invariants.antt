use Rattle.std.proofs.Common.{◌&&◌, take}
use Rattle.tree_terms.specs.Rules.{IsBit, bit, rules_hold}
use Rattle.tree_terms.proofs.rules.ruled.Given as goal

abbrev pub invariant-loop-rule : goal.invariant-loop-rule
invariant-loop-rule l = IsBit l.fn.terms.nodes l.terms.nodes (λ a. bit a l.fn.terms.nodes l.fn.start && rules_hold (bit a l.fn.terms.nodes) (take l.rule-index l.rules)) l.all
