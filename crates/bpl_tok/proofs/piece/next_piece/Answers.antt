use Rattle.std.proofs.Common.{◌≡◌, true, get_or, drop, refl, sym}
use Rattle.std.specs.Char.{is_ascii_digit}
use Rattle.bpl_tok.specs.Pieces.{comment_len}
use Rattle.bpl_tok.specs.Spellings.{sign_of, signs}
use Rattle.bpl_tok.proofs.Within.{within_comment, within_digits, within_sign, within_string}
use Rattle.bpl_tok.proofs.piece.next_piece.Goals as goal

pub returns-then-starts_with-2-clause-within : goal.returns-then-starts_with-2-clause-within
returns-then-starts_with-2-clause-within c =
    rw c.comment.ensures (within_comment c.args.bytes.now (c.if-starts_with-2.ensures.bound refl) (comment_len 0 (drop 2 c.args.bytes.now)) refl)

pub returns-then-is_ascii_digit-clause-within : goal.returns-then-is_ascii_digit-clause-within
returns-then-is_ascii_digit-clause-within c =
    let digit : is_ascii_digit (get_or c.args.bytes.now 0 0) ≡ true = sym c.if-is_ascii_digit.ensures.value in
    rw c.number_or_literal.ensures (within_digits c.args.bytes.now c.requires digit)

pub returns-then-b-eq34-clause-within : goal.returns-then-b-eq34-clause-within
returns-then-b-eq34-clause-within c = rw c.string.ensures (within_string c.args.bytes.now c.requires _ refl)

pub returns-clause-within : goal.returns-clause-within
returns-clause-within c = rw c.sign_or_fault.ensures (within_sign c.args.bytes.now (sign_of signs c.args.bytes.now) refl)
