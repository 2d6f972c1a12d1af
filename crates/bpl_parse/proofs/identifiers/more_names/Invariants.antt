use Rattle.bpl_parse.specs.Names.{name}
use Rattle.bpl_parse.specs.Tests.{is}
use Rattle.bpl_parse.specs.declared.place.Place.TheVariants as at
use Rattle.bpl_rules.proofs.Turns.{adding, append}
use Rattle.bpl_rules.specs.Rules.{run_many, behind}
use Rattle.bpl_tok.specs.declared.token.Terminal.TheVariants as k
use Rattle.std.proofs.Common.{◌≡◌, ◌-◌, length}
use Rattle.bpl_parse.proofs.identifiers.more_names.Given as goal

abbrev pub invariant-loop : goal.invariant-loop
invariant-loop l = adding append l.found (run_many (behind at.Other (is k.Comma) (name l.source at.Other)) (l.end - l.counter) l.rest) ≡ run_many (behind at.Other (is k.Comma) (name l.source at.Other)) (length l.tokens) l.tokens
