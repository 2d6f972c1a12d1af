use Rattle.bpl_parse.specs.Decls.{levels}
use Rattle.bpl_parse.specs.Exprs.{implication}
use Rattle.bpl_parse.specs.Tests.{is}
use Rattle.bpl_parse.specs.declared.place.Place.TheVariants as at
use Rattle.bpl_rules.proofs.Turns.{adding, append}
use Rattle.bpl_rules.specs.Rules.{run_many, behind}
use Rattle.bpl_tok.specs.declared.token.Terminal.TheVariants as k
use Rattle.std.proofs.Common.{◌≡◌, ◌-◌, length}
use Rattle.bpl_parse.proofs.exprs.grammar.Grammar.more_implications.Given as goal

abbrev pub invariant-loop : goal.invariant-loop
invariant-loop g l = adding append l.found (run_many (behind at.AfterOperand (is k.Equivalent) (implication l.self.source.now (levels l.self.source.now l.self.depth))) (l.end - l.counter) l.rest) ≡ run_many (behind at.AfterOperand (is k.Equivalent) (implication l.self.source.now (levels l.self.source.now l.self.depth))) (length l.tokens) l.tokens
