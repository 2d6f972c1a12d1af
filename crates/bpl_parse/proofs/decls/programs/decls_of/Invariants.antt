use Rattle.bpl_parse.specs.Decls.{levels, decl}
use Rattle.bpl_rules.proofs.Turns.{adding, append}
use Rattle.bpl_rules.specs.Rules.{run_many}
use Rattle.std.proofs.Common.{◌≡◌, ◌-◌, length}
use Rattle.bpl_parse.proofs.decls.programs.decls_of.Given as goal

abbrev pub invariant-loop : goal.invariant-loop
invariant-loop l = adding append l.found (run_many (decl l.source (levels l.source l.depth)) (l.end - l.counter) l.rest) ≡ run_many (decl l.source (levels l.source l.depth)) (length l.tokens) l.tokens
