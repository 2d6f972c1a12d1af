-- How a text is cut into its parts, and what numbers and identifiers are.
use Rattle.std.specs.Prelude.{ℕ, Bool, ◌&&◌, ◌==◌, nat_le, nat_lt, List, [], ◌∷◌, length, Option, None, Some, slice_index, if◌then◌else◌}
use Rattle.std.specs.List.{list_all, slice_split}
use Rattle.std.specs.Option.{option_and_then}
use Rattle.std.specs.Str.Parse.{digits_value}
use Rattle.bpl_tok.specs.Bytes.{begins_ident, in_ident}
use Rattle.hy_text.specs.Number.{are_digits}

-- what is made of a thing that is there
abbrev pub and_then : {A B : Type 0} → Option A → (A → Option B) → Option B
and_then thing next = option_and_then next thing

-- the parts between the bytes of this kind
abbrev pub parts : ℕ → List ℕ → List (List ℕ)
parts byte text = slice_split (λ b. b == byte) text

abbrev pub only_two : List (List ℕ) → Option (List ℕ × List ℕ)
only_two (front ∷ back ∷ []) = Some (front, back)
only_two _ = None

-- what stands before the byte and what behind it, where it stands once
abbrev pub halves : ℕ → List ℕ → Option (List ℕ × List ℕ)
halves byte text = only_two (parts byte text)

-- the number that decimal digits write, leading zeros or not, where it is at most this
abbrev pub number_up_to : ℕ → List ℕ → Option ℕ
number_up_to most ds = if are_digits ds && nat_le (digits_value 10 ds) most then Some (digits_value 10 ds) else None

-- an identifier or a keyword of Boogie (This is Boogie 2)
abbrev pub is_identifier : List ℕ → Bool
is_identifier text = nat_lt 0 (length text) && begins_ident (slice_index text 0) && list_all in_ident text
