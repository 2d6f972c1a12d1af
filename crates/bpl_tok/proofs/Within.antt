-- A piece takes a byte at least, and no more than there are.
use Rattle.std.proofs.Common.{◌≡◌, ℕ, zero, suc, ◌+◌, ◌<◌, ◌≤◌, Bool, true, false, not, ◌&&◌, ◌==◌, List, [], ◌∷◌, length, get_or, take, drop, nat_eq, nat_lt, refl, arith, inl, inr, codes}
use Rattle.std.specs.Prelude.{Option, Some, None, slice_index}
use Rattle.std.specs.Char.{is_ascii_digit}
use Rattle.std.specs.List.{list_all, prefix_len, starts_with, take_while}
use Rattle.std.specs.Str.Parse.{digits_value}
use Rattle.std.proofs.lemmas.Bool.{cases_Bool}
use Rattle.std.proofs.lemmas.Bool.Decides.{nat_tests}
use Rattle.std.proofs.lemmas.List.{length-drop}
use Rattle.std.proofs.lemmas.List.Sums.{prefix_len-le-length}
use Rattle.bpl_tok.specs.declared.piece.Piece.TheVariants.{Gap}
use Rattle.bpl_tok.specs.declared.token.Terminal.{Terminal}
use Rattle.bpl_tok.specs.Bytes.{begins_ident, in_ident, is_in_line, is_white}
use Rattle.bpl_tok.specs.Spellings.{Spelling, sign_of, signs}
use Rattle.bpl_tok.specs.Pieces.{IsWithin, bits_in_width, closes, comment_len, comment_piece, digits_piece, in_128_bits, literal_at, literal_piece, makes_literal, number_piece, opens, piece_of, sign_piece, sized_piece, string_len, string_piece, width_of}
use Rattle.bpl_tok.proofs.Runs.{begins_len, option_map_some, run_some}

pub comment_len-within : (depth : ℕ) (bs : List ℕ) (n : ℕ) → comment_len depth bs ≡ Some n → n ≤ length bs
unfolding comment_len
comment_len-within depth [] n h = absurd cc
comment_len-within depth (b ∷ []) n h = absurd cc
comment_len-within zero (b ∷ c ∷ bs) n h = elim (cases_Bool (closes b c)) [
  | inl k ↦ (let e = rw k at h in let two : 2 ≡ n = cc in omega arith)
  | inr k ↦ elim (cases_Bool (opens b c)) [
    | inl j ↦ (let (m, e, s) = option_map_some _ 2 n (rw (k, j) at h) in omega (arith, comment_len-within (suc zero) bs m e))
    | inr j ↦ (let (m, e, s) = option_map_some _ 1 n (rw (k, j) at h) in omega (arith, comment_len-within zero (c ∷ bs) m e))
  ]
]
comment_len-within (suc depth) (b ∷ c ∷ bs) n h = elim (cases_Bool (closes b c)) [
  | inl k ↦ (let (m, e, s) = option_map_some _ 2 n (rw k at h) in omega (arith, comment_len-within depth bs m e))
  | inr k ↦ elim (cases_Bool (opens b c)) [
    | inl j ↦ (let (m, e, s) = option_map_some _ 2 n (rw (k, j) at h) in omega (arith, comment_len-within (suc (suc depth)) bs m e))
    | inr j ↦ (let (m, e, s) = option_map_some _ 1 n (rw (k, j) at h) in omega (arith, comment_len-within (suc depth) (c ∷ bs) m e))
  ]
]

pub string_len-within : (escaped : Bool) (bs : List ℕ) (n : ℕ) → string_len escaped bs ≡ Some n → n ≤ length bs
unfolding string_len
string_len-within escaped [] n h = absurd cc
string_len-within escaped (b ∷ bs) n h = elim (cases_Bool (b == 10)) [
  | inl k ↦ (let e = rw k at h in absurd cc)
  | inr k ↦ elim (cases_Bool ((b == 34) && not escaped)) [
    | inl j ↦ (let e = rw (k, j) at h in let one : 1 ≡ n = cc in omega arith)
    | inr j ↦ (let (m, e, s) = option_map_some _ 1 n (rw (k, j) at h) in omega (arith, string_len-within (b == 92) bs m e))
  ]
]

-- no spelling is empty
abbrev pub are_spelt : List Spelling → Bool
are_spelt = list_all (λ entry. nat_lt 0 (length entry.0))

pub sign_of-within : (table : List Spelling) (bs : List ℕ) (s : Terminal × ℕ) → are_spelt table ≡ true → sign_of table bs ≡ Some s → (0 < s.1) × (s.1 ≤ length bs)
unfolding sign_of
sign_of-within [] bs s all h = absurd cc
sign_of-within (entry ∷ more) bs s all h = elim (cases_Bool (starts_with nat_eq bs entry.0)) [
  | inl k ↦ (
      let e = rw k at h in
      let len : length entry.0 ≡ s.1 = cc in
      let some : 0 < length entry.0 = grind (arith, nat_tests) in
      (omega arith, omega (arith, begins_len bs entry.0 k)))
  | inr k ↦ sign_of-within more bs s (grind (arith, nat_tests)) (rw k at h)
]

within_gap : (bs : List ℕ) (p : ℕ → Bool) → 0 < length bs → p (get_or bs 0 0) ≡ true → IsWithin (length bs) (Gap (prefix_len p bs))
within_gap bs p some h = (run_some p bs some h, prefix_len-le-length p bs)

pub within_comment : (bs : List ℕ) → 2 ≤ length bs → (o : Option ℕ) → comment_len 0 (drop 2 bs) ≡ o → IsWithin (length bs) (comment_piece o)
within_comment bs le None e = tt
within_comment bs le (Some n) e = (omega arith, omega (arith, comment_len-within 0 (drop 2 bs) n e, length-drop 2 bs))

pub within_string : (bs : List ℕ) → 0 < length bs → (o : Option ℕ) → string_len false (drop 1 bs) ≡ o → IsWithin (length bs) (string_piece o)
within_string bs some None e = tt
within_string bs some (Some n) e = (omega arith, omega (arith, string_len-within false (drop 1 bs) n e, length-drop 1 bs))

pub within_sign : (bs : List ℕ) (o : Option (Terminal × ℕ)) → sign_of signs bs ≡ o → IsWithin (length bs) (sign_piece o)
within_sign bs None e = tt
within_sign bs (Some s) e = sign_of-within signs bs s refl e

within_number : (len : ℕ) (o : Option ℕ) (n : ℕ) → 0 < n → n ≤ len → IsWithin len (number_piece o n)
within_number len None n some le = tt
within_number len (Some value) n some le = (some, le)

within_sized : (len width : ℕ) (o : Option ℕ) (n : ℕ) → 0 < n → n ≤ len → IsWithin len (sized_piece width o n)
within_sized len width None n some le = tt
within_sized len width (Some bits) n some le = (some, le)

within_literal : (len bits : ℕ) (o : Option ℕ) (n : ℕ) → 0 < n → n ≤ len → IsWithin len (literal_piece bits o n)
within_literal len bits None n some le = tt
within_literal len bits (Some width) n some le = within_sized len width (bits_in_width bits width) n some le

within_literal_at : (len : ℕ) (bits after : List ℕ) (n : ℕ) → 0 < n → n + 2 + prefix_len is_ascii_digit after ≤ len → IsWithin len (literal_at bits after n)
within_literal_at len bits after n some le = within_literal len (digits_value 10 bits) (width_of (take_while is_ascii_digit after)) (n + 2 + prefix_len is_ascii_digit after) (omega arith) le

pub bv_begins : (after : List ℕ) → makes_literal after ≡ true → starts_with nat_eq after (codes "bv") ≡ true
bv_begins after h = elim (cases_Bool (starts_with nat_eq after (codes "bv"))) [ inl k ↦ k | inr k ↦ (let e = rw k at h in absurd cc) ]

pub within_digits : (bs : List ℕ) → 0 < length bs → is_ascii_digit (get_or bs 0 0) ≡ true → IsWithin (length bs) (digits_piece bs (prefix_len is_ascii_digit bs))
within_digits bs some h =
    let one : 0 < prefix_len is_ascii_digit bs = run_some is_ascii_digit bs some h in
    let le : prefix_len is_ascii_digit bs ≤ length bs = prefix_len-le-length is_ascii_digit bs in
    elim (cases_Bool (makes_literal (drop (prefix_len is_ascii_digit bs) bs))) [
      | inl k ↦ (
          let two : 2 ≤ length (drop (prefix_len is_ascii_digit bs) bs) = begins_len (drop (prefix_len is_ascii_digit bs) bs) (codes "bv") (bv_begins (drop (prefix_len is_ascii_digit bs) bs) k) in
          let fits : prefix_len is_ascii_digit bs + 2 + prefix_len is_ascii_digit (drop 2 (drop (prefix_len is_ascii_digit bs) bs)) ≤ length bs = omega (arith, length-drop (prefix_len is_ascii_digit bs) bs, length-drop 2 (drop (prefix_len is_ascii_digit bs) bs), prefix_len-le-length is_ascii_digit (drop 2 (drop (prefix_len is_ascii_digit bs) bs))) in
          rw k (within_literal_at (length bs) (take (prefix_len is_ascii_digit bs) bs) (drop 2 (drop (prefix_len is_ascii_digit bs) bs)) (prefix_len is_ascii_digit bs) one fits))
      | inr k ↦ rw k (within_number (length bs) (in_128_bits (digits_value 10 (take (prefix_len is_ascii_digit bs) bs))) (prefix_len is_ascii_digit bs) one le)
    ]

-- an identifier's first byte is one of its bytes
begins_in : (b : ℕ) → begins_ident b ≡ true → in_ident b ≡ true
begins_in b h = rw h refl

-- a text that begins with `//` begins with a byte of the line
slash_in_line : (bs : List ℕ) → starts_with nat_eq bs (codes "//") ≡ true → is_in_line (get_or bs 0 0) ≡ true
slash_in_line [] h = absurd cc
slash_in_line (b ∷ bs) h = grind (arith, nat_tests)

pub piece_of-within : (bs : List ℕ) → 0 < length bs → IsWithin (length bs) (piece_of bs)
unfolding piece_of
piece_of-within bs some = elim (cases_Bool (is_white (slice_index bs 0))) [
  | inl h ↦ rw h (within_gap bs is_white some h)
  | inr h1 ↦ elim (cases_Bool (starts_with nat_eq bs (codes "//"))) [
    | inl h ↦ rw (h1, h) (within_gap bs is_in_line some (slash_in_line bs h))
    | inr h2 ↦ elim (cases_Bool (starts_with nat_eq bs (codes "/*"))) [
      | inl h ↦ rw (h1, h2, h) (within_comment bs (begins_len bs (codes "/*") h) _ refl)
      | inr h3 ↦ elim (cases_Bool (begins_ident (slice_index bs 0))) [
        | inl h ↦ rw (h1, h2, h3, h) (within_gap bs in_ident some (begins_in (get_or bs 0 0) h))
        | inr h4 ↦ elim (cases_Bool (is_ascii_digit (slice_index bs 0))) [
          | inl h ↦ rw (h1, h2, h3, h4, h) (within_digits bs some h)
          | inr h5 ↦ elim (cases_Bool (slice_index bs 0 == 34)) [
            | inl h ↦ rw (h1, h2, h3, h4, h5, h) (within_string bs some _ refl)
            | inr h6 ↦ rw (h1, h2, h3, h4, h5, h6) (within_sign bs _ refl)
          ]
        ]
      ]
    ]
  ]
]
