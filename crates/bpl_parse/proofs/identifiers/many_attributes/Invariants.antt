use Rattle.bpl_parse.specs.Names.{attribute}
use Rattle.bpl_rules.proofs.Turns.{adding, append}
use Rattle.bpl_rules.specs.Rules.{run_many}
use Rattle.std.proofs.Common.{◌≡◌, ◌-◌, length}
use Rattle.bpl_parse.proofs.identifiers.many_attributes.Given as goal

abbrev pub invariant-loop : goal.invariant-loop
invariant-loop l = adding append l.found (run_many (attribute l.source) (l.end - l.counter) l.rest) ≡ run_many (attribute l.source) (length l.tokens) l.tokens
