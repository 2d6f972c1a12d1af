use Rattle.bpl_parse.specs.Names.{lexeme}
use Rattle.bpl_rules.proofs.Turns.{adding, append}
use Rattle.bpl_rules.specs.Rules.{run_many}
use Rattle.std.proofs.Common.{◌≡◌, ◌-◌, length}
use Rattle.bpl_parse.proofs.identifiers.lexemes.Given as goal

abbrev pub invariant-loop : goal.invariant-loop
invariant-loop l = adding append l.found (run_many (lexeme l.source) (l.end - l.counter) l.rest) ≡ run_many (lexeme l.source) (length l.tokens) l.tokens
