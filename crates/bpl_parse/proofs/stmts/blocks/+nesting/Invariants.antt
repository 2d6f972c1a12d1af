use Rattle.bpl_parse.specs.Decls.{levels}
use Rattle.bpl_parse.specs.Stmts.{stmt}
use Rattle.bpl_rules.proofs.Turns.{adding, append}
use Rattle.bpl_rules.specs.Rules.{run_many}
use Rattle.std.proofs.Common.{◌≡◌, ◌-◌, length, ◌+◌, ◌*◌}
use Rattle.bpl_parse.proofs.stmts.blocks.+nesting.Given as goal

abbrev pub decreases-inside_block : goal.decreases-inside_block
decreases-inside_block l = 16 * l.depth + 0

abbrev pub decreases-block : goal.decreases-block
decreases-block l = 16 * l.depth + 1

abbrev pub decreases-inside_else_if : goal.decreases-inside_else_if
decreases-inside_else_if l = 16 * l.depth + 0

abbrev pub decreases-else_if : goal.decreases-else_if
decreases-else_if l = 16 * l.depth + 1

abbrev pub decreases-else_end : goal.decreases-else_end
decreases-else_end l = 16 * l.depth + 2

abbrev pub decreases-else_part : goal.decreases-else_part
decreases-else_part l = 16 * l.depth + 3

abbrev pub decreases-maybe_else : goal.decreases-maybe_else
decreases-maybe_else l = 16 * l.depth + 4

abbrev pub decreases-if_rest : goal.decreases-if_rest
decreases-if_rest l = 16 * l.depth + 5

abbrev pub decreases-if_stmt : goal.decreases-if_stmt
decreases-if_stmt l = 16 * l.depth + 6

abbrev pub decreases-while_stmt : goal.decreases-while_stmt
decreases-while_stmt l = 16 * l.depth + 6

abbrev pub decreases-stmt : goal.decreases-stmt
decreases-stmt l = 16 * l.depth + 7

abbrev pub decreases-many_stmts : goal.decreases-many_stmts
decreases-many_stmts l = 16 * l.depth + 8

abbrev pub decreases-statements : goal.decreases-statements
decreases-statements l = 16 * l.depth + 9

abbrev pub invariant-many_stmts-loop : goal.invariant-many_stmts-loop
invariant-many_stmts-loop l = adding append l.found (run_many (stmt l.source (levels l.source l.depth)) (l.end - l.counter) l.rest) ≡ run_many (stmt l.source (levels l.source l.depth)) (length l.tokens) l.tokens
