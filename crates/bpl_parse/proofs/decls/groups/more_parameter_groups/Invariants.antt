use Rattle.bpl_parse.specs.Decls.{levels, parameter_group}
use Rattle.bpl_parse.specs.Tests.{is}
use Rattle.bpl_parse.specs.declared.place.Place.TheVariants as at
use Rattle.bpl_tok.specs.declared.token.Terminal.TheVariants as k
use Rattle.bpl_rules.proofs.Turns.{adding, append}
use Rattle.bpl_rules.specs.Rules.{behind, run_many}
use Rattle.std.proofs.Common.{◌≡◌, ◌-◌, length}
use Rattle.bpl_parse.proofs.decls.groups.more_parameter_groups.Given as goal

abbrev pub invariant-loop : goal.invariant-loop
invariant-loop l = adding append l.found (run_many (behind at.Other (is k.Comma) (parameter_group l.source (levels l.source l.depth))) (l.end - l.counter) l.rest) ≡ run_many (behind at.Other (is k.Comma) (parameter_group l.source (levels l.source l.depth))) (length l.tokens) l.tokens
