use Rattle.std.proofs.Common.{◌≡◌, ◌+◌, drop, option_map, false}
use Rattle.bpl_tok.specs.Pieces.{string_len}
use Rattle.bpl_tok.proofs.piece.strings.string_len.Given as goal

abbrev pub invariant-loop-i : goal.invariant-loop-i
invariant-loop-i l = option_map (λ n. l.i + n) (string_len l.escaped (drop l.i l.bytes)) ≡ string_len false l.bytes
