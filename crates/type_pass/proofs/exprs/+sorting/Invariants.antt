use Rattle.std.proofs.Common.{◌≡◌, map, drop}
use Rattle.std.specs.Option.{option_copied}
use Rattle.type_pass.specs.ExprSorts.{part, with_operands, all_bools, joined, applied}
use Rattle.type_pass.specs.Running.{with_answer, applied_from, joined_from}
use Rattle.type_pass.proofs.ExprLaws.{bracketed}
use Rattle.type_pass.proofs.OperandLaws.{bools_from, operand_part}
use Rattle.type_pass.proofs.exprs.+sorting.Given as goal

abbrev pub invariant-chain-loop-expr : goal.invariant-chain-loop-expr
invariant-chain-loop-expr l = with_operands (map (part l.known l.scope) (drop l.expr-index l.operands)) (bools_from l.told) ≡ with_operands (map (part l.known l.scope) l.operands) all_bools

abbrev pub invariant-concatenation-loop-expr : goal.invariant-concatenation-loop-expr
invariant-concatenation-loop-expr l = with_operands (map (part l.known l.scope) (drop l.expr-index l.operands)) (joined_from l.at l.width) ≡ with_operands (map (part l.known l.scope) l.operands) (joined l.at)

abbrev pub invariant-application-loop-number : goal.invariant-application-loop-number
invariant-application-loop-number l = with_operands (map (part l.known l.scope) (drop l.number l.arguments)) (applied_from l.name.at (option_copied l.function) l.number l.told) ≡ with_operands (map (part l.known l.scope) l.arguments) (applied l.name.at (option_copied l.function))

abbrev pub invariant-post-loop-bracket : goal.invariant-post-loop-bracket
invariant-post-loop-bracket l = (bracketed l.known l.scope l.at (operand_part l.operand) (drop l.bracket-index l.brackets)).sort ≡ with_answer l.fn.inner (λ o. (bracketed l.known l.scope l.at (operand_part o) l.brackets).sort)
