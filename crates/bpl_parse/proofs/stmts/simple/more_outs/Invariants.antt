use Rattle.bpl_parse.specs.Stmts.{next_out}
use Rattle.bpl_rules.proofs.Turns.{adding, append}
use Rattle.bpl_rules.specs.Rules.{run_many}
use Rattle.std.proofs.Common.{◌≡◌, ◌-◌, length}
use Rattle.bpl_parse.proofs.stmts.simple.more_outs.Given as goal

abbrev pub invariant-loop : goal.invariant-loop
invariant-loop l = adding append l.found (run_many (next_out l.source) (l.end - l.counter) l.rest) ≡ run_many (next_out l.source) (length l.tokens) l.tokens
