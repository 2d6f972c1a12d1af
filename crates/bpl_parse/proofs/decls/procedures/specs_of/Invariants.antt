use Rattle.bpl_parse.specs.Decls.{spec}
use Rattle.bpl_rules.proofs.Turns.{adding, append}
use Rattle.bpl_rules.specs.Rules.{run_many}
use Rattle.std.proofs.Common.{◌≡◌, ◌-◌, length}
use Rattle.bpl_parse.proofs.decls.procedures.specs_of.Given as goal

abbrev pub invariant-loop : goal.invariant-loop
invariant-loop l = adding append l.found (run_many (spec l.source) (l.end - l.counter) l.rest) ≡ run_many (spec l.source) (length l.tokens) l.tokens
