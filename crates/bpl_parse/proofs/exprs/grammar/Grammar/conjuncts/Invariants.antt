use Rattle.bpl_parse.specs.Decls.{levels}
use Rattle.bpl_parse.specs.Exprs.{conjunct}
use Rattle.bpl_rules.proofs.Turns.{adding, append}
use Rattle.bpl_rules.specs.Rules.{run_many}
use Rattle.std.proofs.Common.{◌≡◌, ◌-◌, length}
use Rattle.bpl_parse.proofs.exprs.grammar.Grammar.conjuncts.Given as goal

abbrev pub invariant-loop : goal.invariant-loop
invariant-loop g l = adding append l.found (run_many (conjunct l.self.source.now (levels l.self.source.now l.self.depth)) (l.end - l.counter) l.rest) ≡ run_many (conjunct l.self.source.now (levels l.self.source.now l.self.depth)) (length l.tokens) l.tokens
