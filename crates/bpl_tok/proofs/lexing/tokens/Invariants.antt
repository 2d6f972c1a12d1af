use Rattle.std.proofs.Common.{◌≡◌, ◌+◌, ◌-◌, length}
use Rattle.bpl_tok.specs.Lexed.{lexed, tokens_of}
use Rattle.bpl_tok.proofs.TokensLaws.{with_front}
use Rattle.bpl_tok.proofs.lexing.tokens.Given as goal

abbrev pub invariant-loop : goal.invariant-loop
invariant-loop l = (l.at + length l.rest ≡ length l.source) × (with_front l.found.items (lexed (l.end - l.counter) l.at l.rest) ≡ tokens_of l.source)
