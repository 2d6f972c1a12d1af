-- Identifiers are ASCII.
use Rattle.std.proofs.Common.{◌≡◌, ℕ, ◌<◌, true, ◌&&◌, List, [], ◌∷◌, length, arith}
use Rattle.std.specs.Prelude.{nat_lt, slice_index}
use Rattle.std.specs.List.{list_all}
use Rattle.std.specs.Str.{IsAscii, IsUtf8}
use Rattle.std.proofs.lemmas.Bool.{and_parts}
use Rattle.std.proofs.lemmas.Bool.Decides.{nat_tests}
use Rattle.std.proofs.lemmas.Str.{IsUtf8-from_ascii}
use Rattle.std.proofs.lemmas.Str.Ascii.{IsAscii-nil, IsAscii-cons}
use Rattle.bpl_tok.specs.Bytes.{begins_ident, in_ident}
use Rattle.trace_text.specs.Words.{is_identifier}

low : (b : ℕ) → in_ident b ≡ true → b < 128
low b h = grind (arith, nat_tests, h)

all_low : (bs : List ℕ) → list_all in_ident bs ≡ true → IsAscii bs
all_low [] h = IsAscii-nil
all_low (b ∷ bs) h =
    let each = and_parts (in_ident b) (list_all in_ident bs) h in
    IsAscii-cons b bs (low b each.0) (all_low bs each.1)

pub identifier_is_utf8 : (text : List ℕ) → is_identifier text ≡ true → IsUtf8 text
identifier_is_utf8 text h =
    IsUtf8-from_ascii text (all_low text (and_parts (nat_lt 0 (length text) && begins_ident (slice_index text 0)) (list_all in_ident text) h).1)
