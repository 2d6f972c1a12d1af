-- What the piece at the front of a text is, in words of its text.
use Rattle.std.proofs.Common.{◌≡◌, ℕ, suc, ◌+◌, ◌-◌, ◌^◌, ◌<◌, ◌≤◌, Bool, true, false, ◌&&◌, ◌==◌, List, [], ◌∷◌, ◌++◌, length, get_or, take, drop, nat_eq, nat_lt, nat_le, refl, sym, ap, subst, ◌∙◌, arith, inl, inr, codes}
use Rattle.std.specs.Prelude.{Option, Some, None, slice_index}
use Rattle.std.specs.Char.{is_ascii_digit}
use Rattle.std.specs.List.{prefix_len, starts_with, take_while}
use Rattle.std.specs.Str.Parse.{digits_value}
use Rattle.std.proofs.Math.Seq.{take-add}
use Rattle.std.proofs.lemmas.Bool.{and_parts, cases_Bool, eqb-true, leb-true, ltb-false, ltb-true}
use Rattle.std.proofs.lemmas.List.{drop-drop, get_or-drop, length-take-le, take-append-drop, take_at}
use Rattle.std.proofs.lemmas.List.Folds.{length-prefix_len}
use Rattle.bpl_tok.specs.declared.piece.Piece.{Piece}
use Rattle.bpl_tok.specs.declared.piece.Piece.TheVariants.{Gap, Whole, Fault}
use Rattle.bpl_tok.specs.declared.token.Terminal.{Terminal}
use Rattle.bpl_tok.specs.Bytes.{begins_ident, in_ident, is_in_line, is_white}
use Rattle.bpl_tok.specs.Spellings.{keywords, sign_of, signs, spelt}
use Rattle.bpl_tok.specs.Pieces.{bits_in_width, comment_len, comment_piece, digits_piece, in_128_bits, is_width_word, keyword_or_ident, literal_piece, makes_literal, number_piece, piece_of, sign_piece, sized_piece, string_len, string_piece, width_in_range, width_of, word_kind, word_piece}
use Rattle.bpl_tok.specs.Cuts.{IsFault, IsGap, IsRun, IsString, IsToken, IsTooWide, IsWide, IsWord, Stops}
use Rattle.bpl_tok.proofs.DigitLaws.{in_128_bits-below, in_128_bits-none, in_128_bits-some}
use Rattle.bpl_tok.proofs.Fronts.{comment_len-take, sign_of-longest, sign_of-none, sign_of-spelling, string_len-closed}
use Rattle.bpl_tok.proofs.Runs.{begins, prefix_no, prefix_yes, run_passes, run_some}
use Rattle.bpl_tok.proofs.Within.{bv_begins, comment_len-within, sign_of-within}

-- what a piece is, where its text is the front
abbrev pub IsPiece : List ℕ → Piece → Type 0
IsPiece bs (Gap n) = IsGap (take n bs) (drop n bs)
IsPiece bs (Whole kind n) = IsToken kind (take n bs) (drop n bs)
IsPiece bs (Fault kind) = IsFault kind bs

run_stops : (p : ℕ → Bool) (bs : List ℕ) → Stops p (drop (prefix_len p bs) bs)
run_stops p [] = tt
run_stops p (b ∷ bs) = elim (cases_Bool (p b)) [ inl h ↦ rw (prefix_yes p b bs h) (run_stops p bs) | inr h ↦ rw (prefix_no p b bs h) h ]

pub is_run : (p : ℕ → Bool) (bs : List ℕ) → 0 < length bs → p (get_or bs 0 0) ≡ true → IsRun p (take (prefix_len p bs) bs) (drop (prefix_len p bs) bs)
is_run p bs some h = record {
  some = rw (length-prefix_len p bs) (run_some p bs some h);
  passes = run_passes p bs;
  stops = run_stops p bs;
}

-- the first byte of a text is that of each front with a byte
first_of : (bs : List ℕ) (n : ℕ) → 0 < n → slice_index (take n bs) 0 ≡ slice_index bs 0
first_of [] n lt = let P : ℕ → Type 0 = λ k. slice_index (take k []) 0 ≡ 0 in let e : suc (n - 1) ≡ n = omega arith in subst P e refl
first_of (b ∷ bs) n lt = let P : ℕ → Type 0 = λ k. slice_index (take k (b ∷ bs)) 0 ≡ b in let e : suc (n - 1) ≡ n = omega arith in subst P e refl

two_more : (a b : ℕ) (tail : List ℕ) (n : ℕ) → take (n + 2) (a ∷ b ∷ tail) ≡ a ∷ (b ∷ take n tail)
two_more a b tail n = let e : n + 2 ≡ suc (suc n) = omega arith in rw e refl

-- Gaps.

line_run : (tail : List ℕ) → IsPiece (47 ∷ 47 ∷ tail) (Gap (prefix_len is_in_line (47 ∷ 47 ∷ tail)))
line_run tail =
    let run : IsRun is_in_line (take (prefix_len is_in_line (47 ∷ 47 ∷ tail)) (47 ∷ 47 ∷ tail)) (drop (prefix_len is_in_line (47 ∷ 47 ∷ tail)) (47 ∷ 47 ∷ tail)) = is_run is_in_line (47 ∷ 47 ∷ tail) (omega arith) refl in
    let P : ℕ → Type 0 = λ n. starts_with nat_eq (take n (47 ∷ 47 ∷ tail)) (codes "//") ≡ true in
    let e : suc (suc (prefix_len is_in_line tail)) ≡ prefix_len is_in_line (47 ∷ 47 ∷ tail) = sym (prefix_yes is_in_line 47 (47 ∷ tail) refl ∙ ap suc (prefix_yes is_in_line 47 tail refl)) in
    IsGap.line (subst P e refl) run

line_piece : (bs : List ℕ) → starts_with nat_eq bs (codes "//") ≡ true → IsPiece bs (Gap (prefix_len is_in_line bs))
line_piece bs h = let P : List ℕ → Type 0 = λ w. IsPiece w (Gap (prefix_len is_in_line w)) in subst P (sym (begins bs (codes "//") h)) (line_run (drop 2 bs))

nested_run : (tail : List ℕ) (n : ℕ) → comment_len 0 tail ≡ Some n → IsPiece (47 ∷ 42 ∷ tail) (Gap (n + 2))
nested_run tail n h =
    let len : length (take n tail) ≡ n = length-take-le n tail (comment_len-within 0 tail n h) in
    let P : List ℕ → Type 0 = λ w. IsGap w (drop (n + 2) (47 ∷ 42 ∷ tail)) in
    subst P (sym (two_more 47 42 tail n)) (IsGap.nested refl (comment_len-take 0 tail n h ∙ ap Some (sym len)))

comment_is : (bs : List ℕ) (o : Option ℕ) → starts_with nat_eq bs (codes "/*") ≡ true → comment_len 0 (drop 2 bs) ≡ o → IsPiece bs (comment_piece o)
comment_is bs None h e = (h, e)
comment_is bs (Some n) h e = let P : List ℕ → Type 0 = λ w. IsPiece w (Gap (n + 2)) in subst P (sym (begins bs (codes "/*") h)) (nested_run (drop 2 bs) n e)

-- Words.

spelt_is : (text rest : List ℕ) (o : Option Terminal) → IsWord text rest → is_width_word text ≡ false → spelt keywords text ≡ o → IsToken (keyword_or_ident o) text rest
spelt_is text rest None word plain e = (word, plain, e)
spelt_is text rest (Some terminal) word plain e = (word, plain, e)

word_is : (text rest : List ℕ) → IsWord text rest → IsToken (word_kind text) text rest
word_is text rest word = elim (cases_Bool (is_width_word text)) [
  | inl h ↦ rw h (word, h, refl)
  | inr h ↦ rw h (spelt_is text rest (spelt keywords text) word h refl)
]

word_piece_is : (bs : List ℕ) → 0 < length bs → begins_ident (slice_index bs 0) ≡ true → IsPiece bs (word_piece bs)
word_piece_is bs some h =
    let in_it : in_ident (get_or bs 0 0) ≡ true = rw h refl in
    let first : slice_index (take (prefix_len in_ident bs) bs) 0 ≡ slice_index bs 0 = first_of bs (prefix_len in_ident bs) (run_some in_ident bs some in_it) in
    word_is (take (prefix_len in_ident bs) bs) (drop (prefix_len in_ident bs) bs) (record {
      begins = ap begins_ident first ∙ h;
      run = is_run in_ident bs some in_it;
    })

-- Strings.

take_one_more : (b : ℕ) (tail : List ℕ) (n : ℕ) → take (n + 1) (b ∷ tail) ≡ b ∷ take n tail
take_one_more b tail n = let e : n + 1 ≡ suc n = omega arith in rw e refl

string_is : (bs : List ℕ) (o : Option ℕ) → 0 < length bs → (slice_index bs 0 == 34) ≡ true → string_len false (drop 1 bs) ≡ o → IsPiece bs (string_piece o)
string_is [] o some h e = absurd (omega arith)
string_is (b ∷ tail) None some h e = (eqb-true b 34 h, e)
string_is (b ∷ tail) (Some n) some h e =
    let quote : b ≡ 34 = eqb-true b 34 h in
    let plain : (b == 92) ≡ false = rw quote refl in
    let there : string_len (b == 92) tail ≡ Some n = ap (λ f. string_len f tail) plain ∙ e in
    let P : List ℕ → Type 0 = λ w. IsString w in
    subst P (sym (take_one_more b tail n)) (quote, string_len-closed b tail n there)

-- Signs.

sign_is : (bs : List ℕ) (o : Option (Terminal × ℕ)) → 0 < length bs → is_white (slice_index bs 0) ≡ false → begins_ident (slice_index bs 0) ≡ false → is_ascii_digit (slice_index bs 0) ≡ false → (slice_index bs 0 == 34) ≡ false
    → ((s : Terminal × ℕ) → o ≡ Some s → s.1 ≤ length bs) → sign_of signs bs ≡ o → IsPiece bs (sign_piece o)
sign_is bs None some h1 h4 h5 h6 within e = record {
  some = some;
  no_white = h1;
  no_word = h4;
  no_digit = h5;
  no_quote = h6;
  no_sign = sign_of-none signs bs e;
}
sign_is bs (Some s) some h1 h4 h5 h6 within e =
    let len : length (take s.1 bs) ≡ s.1 = length-take-le s.1 bs (within s refl) in
    record {
      spelling = sign_of-spelling signs bs s e;
      longest = rw (take-append-drop s.1 bs, len) (sign_of-longest signs bs s refl e);
    }

-- Numbers and literals.

number_is : (bs : List ℕ) (n : ℕ) (o : Option ℕ) → IsRun is_ascii_digit (take n bs) (drop n bs) → makes_literal (drop n bs) ≡ false → in_128_bits (digits_value 10 (take n bs)) ≡ o → IsPiece bs (number_piece o n)
number_is bs n None run alone e = record {
  front = take n bs;
  after = drop n bs;
  parts = sym (take-append-drop n bs);
  run = run;
  wide = IsWide.number alone (in_128_bits-none (digits_value 10 (take n bs)) e);
}
number_is bs n (Some value) run alone e = record {
  run = run;
  alone = alone;
  is_value = sym (in_128_bits-some (digits_value 10 (take n bs)) value e);
  fits = in_128_bits-below (digits_value 10 (take n bs)) value e;
}

-- the bits of a literal fit, or not
bits_in_width-some : (bits width n : ℕ) → bits_in_width bits width ≡ Some n → (n ≡ bits) × (n < 2 ^ width)
bits_in_width-some bits width n h = elim (cases_Bool (nat_lt bits (2 ^ width))) [
  | inl k ↦ (let e = rw k at h in let same : n ≡ bits = cc in (same, rw same (ltb-true bits (2 ^ width) k)))
  | inr k ↦ (let e = rw k at h in absurd cc)
]

bits_in_width-none : (bits width : ℕ) → bits_in_width bits width ≡ None → 2 ^ width ≤ bits
bits_in_width-none bits width h = elim (cases_Bool (nat_lt bits (2 ^ width))) [
  | inl k ↦ (let e = rw k at h in absurd cc)
  | inr k ↦ ltb-false bits (2 ^ width) k
]

width_in_range-some : (n width : ℕ) → width_in_range n ≡ Some width → (width ≡ n) × (1 ≤ width) × (width ≤ 64)
width_in_range-some n width h = elim (cases_Bool (nat_le 1 n && nat_le n 64)) [
  | inl k ↦ (
      let e = rw k at h in
      let same : width ≡ n = cc in
      let both = and_parts (nat_le 1 n) (nat_le n 64) k in
      (same, rw same (leb-true 1 n both.0), rw same (leb-true n 64 both.1)))
  | inr k ↦ (let e = rw k at h in absurd cc)
]

digit_some : (bs : List ℕ) → is_ascii_digit (get_or bs 0 0) ≡ true → 0 < length bs
digit_some [] h = absurd cc
digit_some (b ∷ bs) h = omega arith

-- n digits stand at the front, and then `bv` and a digit
module _ (bs : List ℕ) (n : ℕ) (run : IsRun is_ascii_digit (take n bs) (drop n bs)) (makes : makes_literal (drop n bs) ≡ true) where
  bv : drop n bs ≡ codes "bv" ++ drop 2 (drop n bs)
  bv = begins (drop n bs) (codes "bv") (bv_begins (drop n bs) makes)

  digit_after : is_ascii_digit (get_or (drop 2 (drop n bs)) 0 0) ≡ true
  digit_after =
      let here : is_ascii_digit (slice_index (drop n bs) 2) ≡ true = (and_parts (starts_with nat_eq (drop n bs) (codes "bv")) (is_ascii_digit (slice_index (drop n bs) 2)) makes).1 in
      ap is_ascii_digit (get_or-drop 2 (drop n bs) 0 0) ∙ here

  back_run : IsRun is_ascii_digit (take (prefix_len is_ascii_digit (drop 2 (drop n bs))) (drop 2 (drop n bs))) (drop (prefix_len is_ascii_digit (drop 2 (drop n bs))) (drop 2 (drop n bs)))
  back_run = is_run is_ascii_digit (drop 2 (drop n bs)) (digit_some (drop 2 (drop n bs)) digit_after) digit_after

  literal_text : (m : ℕ) → take (n + 2 + m) bs ≡ take n bs ++ (codes "bv" ++ take m (drop 2 (drop n bs)))
  literal_text m =
      let e1 : n + 2 + m ≡ n + (2 + m) = omega arith in
      let two : take 2 (drop n bs) ≡ codes "bv" = ap (take 2) bv ∙ take_at (codes "bv") (drop 2 (drop n bs)) 2 refl in
      let e2 : take (2 + m) (drop n bs) ≡ codes "bv" ++ take m (drop 2 (drop n bs)) = take-add 2 m (drop n bs) ∙ ap (λ t. t ++ take m (drop 2 (drop n bs))) two in
      ap (λ k. take k bs) e1 ∙ take-add n (2 + m) bs ∙ ap (λ t. take n bs ++ t) e2

  literal_rest : (m : ℕ) → drop (n + 2 + m) bs ≡ drop m (drop 2 (drop n bs))
  literal_rest m =
      let e1 : n + 2 + m ≡ n + (2 + m) = omega arith in
      ap (λ k. drop k bs) e1 ∙ sym (drop-drop m 2 (drop n bs) ∙ drop-drop (2 + m) n bs)

  too_wide : IsWide (take n bs) (drop n bs) → IsTooWide bs
  too_wide wide = record {
    front = take n bs;
    after = drop n bs;
    parts = sym (take-append-drop n bs);
    run = run;
    wide = wide;
  }

  sized_is : (width : ℕ) (o : Option ℕ) → width ≡ digits_value 10 (take_while is_ascii_digit (drop 2 (drop n bs))) → 1 ≤ width → width ≤ 64 → bits_in_width (digits_value 10 (take n bs)) width ≡ o
      → IsPiece bs (sized_piece width o (n + 2 + prefix_len is_ascii_digit (drop 2 (drop n bs))))
  sized_is width None is_width least most e =
      let wide : 2 ^ width ≤ digits_value 10 (take n bs) = bits_in_width-none (digits_value 10 (take n bs)) width e in
      let P : ℕ → Type 0 = λ w. 2 ^ w ≤ digits_value 10 (take n bs) in
      too_wide (IsWide.bits makes (subst P is_width wide))
  sized_is width (Some bits) is_width least most e =
      let facts = bits_in_width-some (digits_value 10 (take n bs)) width bits e in
      let R : List ℕ → Type 0 = λ rest. IsRun is_ascii_digit (take_while is_ascii_digit (drop 2 (drop n bs))) rest in
      record {
        front = take n bs;
        back = take_while is_ascii_digit (drop 2 (drop n bs));
        parts = literal_text (prefix_len is_ascii_digit (drop 2 (drop n bs)));
        some = run.some;
        digits = run.passes;
        run = subst R (sym (literal_rest (prefix_len is_ascii_digit (drop 2 (drop n bs))))) back_run;
        is_bits = facts.0;
        is_width = is_width;
        least = least;
        most = most;
        fits = facts.1;
      }

  literal_is : (o : Option ℕ) → width_of (take_while is_ascii_digit (drop 2 (drop n bs))) ≡ o
      → IsPiece bs (literal_piece (digits_value 10 (take n bs)) o (n + 2 + prefix_len is_ascii_digit (drop 2 (drop n bs))))
  literal_is None e = too_wide (IsWide.width makes e)
  literal_is (Some width) e =
      let facts = width_in_range-some (digits_value 10 (take_while is_ascii_digit (drop 2 (drop n bs)))) width e in
      sized_is width (bits_in_width (digits_value 10 (take n bs)) width) facts.0 facts.1 facts.2 refl

digits_is : (bs : List ℕ) → 0 < length bs → is_ascii_digit (get_or bs 0 0) ≡ true → IsPiece bs (digits_piece bs (prefix_len is_ascii_digit bs))
digits_is bs some h =
    let run : IsRun is_ascii_digit (take (prefix_len is_ascii_digit bs) bs) (drop (prefix_len is_ascii_digit bs) bs) = is_run is_ascii_digit bs some h in
    elim (cases_Bool (makes_literal (drop (prefix_len is_ascii_digit bs) bs))) [
      | inl k ↦ rw k (literal_is bs (prefix_len is_ascii_digit bs) run k (width_of (take_while is_ascii_digit (drop 2 (drop (prefix_len is_ascii_digit bs) bs)))) refl)
      | inr k ↦ rw k (number_is bs (prefix_len is_ascii_digit bs) (in_128_bits (digits_value 10 (take (prefix_len is_ascii_digit bs) bs))) run k refl)
    ]

sign_within : (bs : List ℕ) (s : Terminal × ℕ) → sign_of signs bs ≡ Some s → s.1 ≤ length bs
sign_within bs s e = (sign_of-within signs bs s refl e).1

pub piece_is : (bs : List ℕ) → 0 < length bs → IsPiece bs (piece_of bs)
unfolding piece_of
piece_is bs some = elim (cases_Bool (is_white (slice_index bs 0))) [
  | inl h ↦ rw h (IsGap.white (is_run is_white bs some h))
  | inr h1 ↦ elim (cases_Bool (starts_with nat_eq bs (codes "//"))) [
    | inl h ↦ rw (h1, h) (line_piece bs h)
    | inr h2 ↦ elim (cases_Bool (starts_with nat_eq bs (codes "/*"))) [
      | inl h ↦ rw (h1, h2, h) (comment_is bs (comment_len 0 (drop 2 bs)) h refl)
      | inr h3 ↦ elim (cases_Bool (begins_ident (slice_index bs 0))) [
        | inl h ↦ rw (h1, h2, h3, h) (word_piece_is bs some h)
        | inr h4 ↦ elim (cases_Bool (is_ascii_digit (slice_index bs 0))) [
          | inl h ↦ rw (h1, h2, h3, h4, h) (digits_is bs some h)
          | inr h5 ↦ elim (cases_Bool (slice_index bs 0 == 34)) [
            | inl h ↦ rw (h1, h2, h3, h4, h5, h) (string_is bs (string_len false (drop 1 bs)) some h refl)
            | inr h6 ↦ rw (h1, h2, h3, h4, h5, h6) (sign_is bs (sign_of signs bs) some h1 h4 h5 h6 (sign_within bs) refl)
          ]
        ]
      ]
    ]
  ]
]
