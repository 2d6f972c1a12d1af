use Rattle.bpl_parse.specs.Decls.{levels}
use Rattle.bpl_parse.specs.Stmts.{next_target}
use Rattle.bpl_rules.proofs.Turns.{adding, append}
use Rattle.bpl_rules.specs.Rules.{run_many}
use Rattle.std.proofs.Common.{◌≡◌, ◌-◌, length}
use Rattle.bpl_parse.proofs.stmts.named.more_targets.Given as goal

abbrev pub invariant-loop : goal.invariant-loop
invariant-loop l = adding append l.found (run_many (next_target l.source (levels l.source l.depth)) (l.end - l.counter) l.rest) ≡ run_many (next_target l.source (levels l.source l.depth)) (length l.tokens) l.tokens
