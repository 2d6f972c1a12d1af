-- Each token's text is that token alone, where a space or a line feed stands after it.
use Rattle.std.proofs.Common.{◌≡◌, ◌≢◌, ℕ, suc, ◌+◌, ◌^◌, ◌<◌, ◌≤◌, Bool, true, false, not, ◌&&◌, ◌==◌, List, [], ◌∷◌, ◌++◌, length, take, drop, nat_eq, refl, sym, ap, subst, ◌∙◌, arith, inl, inr, append_assoc, length-append, codes}
use Rattle.std.specs.Prelude.{Option, Some, None, slice_index}
use Rattle.std.specs.Char.{is_ascii_digit}
use Rattle.std.specs.List.{list_all, prefix_len, starts_with, take_while}
use Rattle.std.specs.Str.Parse.{digits_value}
use Rattle.std.proofs.lemmas.Bool.{and_parts, eqb-true}
use Rattle.std.proofs.lemmas.Bool.Decides.{nat_tests}
use Rattle.std.proofs.lemmas.List.{drop_at, take_at}
use Rattle.bpl_tok.specs.declared.piece.Piece.TheVariants.{Whole}
use Rattle.bpl_tok.specs.declared.token.Terminal.{Terminal}
use Rattle.bpl_tok.specs.declared.token.TokKind.{TokKind}
use Rattle.bpl_tok.specs.declared.token.TokKind.TheVariants.{Ident, Keyword, Width, Number, BvLit, Str, Sign}
use Rattle.bpl_tok.specs.Bytes.{begins_ident, in_ident, is_white}
use Rattle.bpl_tok.specs.Cuts.{HasSpelling, IsClosed, IsLiteral, IsNumber, IsString, IsToken, IsWord}
use Rattle.bpl_tok.specs.Pieces.{bits_in_width, digits_piece, in_128_bits, is_width_word, keyword_or_ident, literal_at, literal_piece, makes_literal, number_piece, piece_of, sized_piece, string_len, string_piece, width_in_range, width_of, word_kind, word_piece}
use Rattle.bpl_tok.specs.Spellings.{Spelling, keywords, sign_of, signs, spelt}
use Rattle.bpl_tok.proofs.DigitLaws.{fits}
use Rattle.bpl_tok.proofs.Runs.{prefix_no, prefix_yes}
use Rattle.bpl_round.proofs.Again.{IsSpelt}

-- ---- what the first byte decides

module _ (bs : List ℕ) (no_white : is_white (slice_index bs 0) ≡ false) (no_line : starts_with nat_eq bs (codes "//") ≡ false) (no_comment : starts_with nat_eq bs (codes "/*") ≡ false) where
  piece_word : begins_ident (slice_index bs 0) ≡ true → piece_of bs ≡ word_piece bs
  unfolding piece_of
  piece_word h = rw (no_white, no_line, no_comment, h) refl

  piece_digits : begins_ident (slice_index bs 0) ≡ false → is_ascii_digit (slice_index bs 0) ≡ true → piece_of bs ≡ digits_piece bs (prefix_len is_ascii_digit bs)
  unfolding piece_of
  piece_digits h k = rw (no_white, no_line, no_comment, h, k) refl

  piece_string : begins_ident (slice_index bs 0) ≡ false → is_ascii_digit (slice_index bs 0) ≡ false → (slice_index bs 0 == 34) ≡ true → piece_of bs ≡ string_piece (string_len false (drop 1 bs))
  unfolding piece_of
  piece_string h k j = rw (no_white, no_line, no_comment, h, k, j) refl

no_slash_line : (b : ℕ) (t : List ℕ) → (b == 47) ≡ false → starts_with nat_eq (b ∷ t) (codes "//") ≡ false
no_slash_line b t h = grind (arith, nat_tests)

no_slash_comment : (b : ℕ) (t : List ℕ) → (b == 47) ≡ false → starts_with nat_eq (b ∷ t) (codes "/*") ≡ false
no_slash_comment b t h = grind (arith, nat_tests)

is_false : (b : Bool) → (b ≡ true → false ≡ true) → b ≡ false
is_false true h = sym (h refl)
is_false false h = refl

ident_no_slash : (b : ℕ) → begins_ident b ≡ true → (b == 47) ≡ false
ident_no_slash b h = is_false (b == 47) (λ e. let is : b ≡ 47 = eqb-true b 47 e in ap begins_ident (sym is) ∙ h)

ident_no_white : (b : ℕ) → begins_ident b ≡ true → is_white b ≡ false
ident_no_white b h = grind (arith, nat_tests)

digit_no_white : (b : ℕ) → is_ascii_digit b ≡ true → is_white b ≡ false
digit_no_white b h = grind (arith, nat_tests)

digit_no_slash : (b : ℕ) → is_ascii_digit b ≡ true → (b == 47) ≡ false
digit_no_slash b h = grind (arith, nat_tests)

digit_no_ident : (b : ℕ) → is_ascii_digit b ≡ true → begins_ident b ≡ false
digit_no_ident b h = grind (arith, nat_tests)

-- ---- runs that end

run_append : (p : ℕ → Bool) (xs : List ℕ) (c : ℕ) (rest : List ℕ) → list_all p xs ≡ true → p c ≡ false → prefix_len p (xs ++ c ∷ rest) ≡ length xs
run_append p [] c rest all no_more = prefix_no p c rest no_more
run_append p (x ∷ xs) c rest all no_more =
    let both = and_parts (p x) (list_all p xs) all in
    prefix_yes p x (xs ++ c ∷ rest) both.0 ∙ ap suc (run_append p xs c rest both.1 no_more)

while_append : (p : ℕ → Bool) (xs : List ℕ) (c : ℕ) (rest : List ℕ) → list_all p xs ≡ true → p c ≡ false → take_while p (xs ++ c ∷ rest) ≡ xs
while_append p xs c rest all no_more = ap (λ n. take n (xs ++ c ∷ rest)) (run_append p xs c rest all no_more) ∙ take_at xs (c ∷ rest) (length xs) refl

first_passes : (p : ℕ → Bool) (b : ℕ) (bs : List ℕ) → list_all p (b ∷ bs) ≡ true → p b ≡ true
first_passes p b bs all = (and_parts (p b) (list_all p bs) all).0

-- ---- a byte that ends each word and number

module _ (c : ℕ) (ends_word : in_ident c ≡ false) (ends_digits : is_ascii_digit c ≡ false) (no_literal : (rest : List ℕ) → makes_literal (c ∷ rest) ≡ false) (rest : List ℕ) where
  word_spelt : (text after : List ℕ) → IsWord text after → piece_of (text ++ c ∷ rest) ≡ Whole (word_kind text) (length text)
  word_spelt [] after h = absurd (let some : 0 < 0 = h.run.some in omega arith)
  word_spelt (b ∷ bs) after h =
      piece_word (b ∷ (bs ++ c ∷ rest)) (ident_no_white b h.begins) (no_slash_line b (bs ++ c ∷ rest) (ident_no_slash b h.begins)) (no_slash_comment b (bs ++ c ∷ rest) (ident_no_slash b h.begins)) h.begins
      ∙ ap (λ w. Whole (word_kind w) (prefix_len in_ident (b ∷ (bs ++ c ∷ rest)))) (while_append in_ident (b ∷ bs) c rest h.run.passes ends_word)
      ∙ ap (λ n. Whole (word_kind (b ∷ bs)) n) (run_append in_ident (b ∷ bs) c rest h.run.passes ends_word)

  digits_begin : (b : ℕ) (tail : List ℕ) → is_ascii_digit b ≡ true → piece_of (b ∷ tail) ≡ digits_piece (b ∷ tail) (prefix_len is_ascii_digit (b ∷ tail))
  digits_begin b tail h = piece_digits (b ∷ tail) (digit_no_white b h) (no_slash_line b tail (digit_no_slash b h)) (no_slash_comment b tail (digit_no_slash b h)) (digit_no_ident b h) h

  number_cut : (text : List ℕ) → digits_piece (text ++ c ∷ rest) (length text) ≡ number_piece (in_128_bits (digits_value 10 text)) (length text)
  number_cut text =
      let after : drop (length text) (text ++ c ∷ rest) ≡ c ∷ rest = drop_at text (c ∷ rest) (length text) refl in
      let front : take (length text) (text ++ c ∷ rest) ≡ text = take_at text (c ∷ rest) (length text) refl in
      rw (after, no_literal rest, front) refl

  number_spelt : (value : ℕ) (text after : List ℕ) → IsNumber value text after → piece_of (text ++ c ∷ rest) ≡ Whole (Number value) (length text)
  number_spelt value [] after h = absurd (let some : 0 < 0 = h.run.some in omega arith)
  number_spelt value (b ∷ bs) after h =
      digits_begin b (bs ++ c ∷ rest) (first_passes is_ascii_digit b bs h.run.passes)
      ∙ ap (digits_piece (b ∷ (bs ++ c ∷ rest))) (run_append is_ascii_digit (b ∷ bs) c rest h.run.passes ends_digits)
      ∙ number_cut (b ∷ bs)
      ∙ ap (λ o. number_piece o (length (b ∷ bs))) (sym (fits (digits_value 10 (b ∷ bs)) value h.fits h.is_value))

  width_fits : (n width : ℕ) → width ≡ n → 1 ≤ width → width ≤ 64 → width_in_range n ≡ Some width
  width_fits n width is least most = grind (arith, nat_tests)

  bits_fit : (n bits width : ℕ) → bits ≡ n → bits < 2 ^ width → bits_in_width n width ≡ Some bits
  bits_fit n bits width is lt = grind (arith, nat_tests)

  -- the digits in front, and what stands after them
  literal_cut : (front : List ℕ) (d : ℕ) (ds : List ℕ) → list_all is_ascii_digit (d ∷ ds) ≡ true
      → digits_piece (front ++ 98 ∷ (118 ∷ ((d ∷ ds) ++ c ∷ rest))) (length front) ≡ literal_piece (digits_value 10 front) (width_of (d ∷ ds)) (length front + 2 + length (d ∷ ds))
  literal_cut front d ds all =
      let after : drop (length front) (front ++ 98 ∷ (118 ∷ ((d ∷ ds) ++ c ∷ rest))) ≡ 98 ∷ (118 ∷ ((d ∷ ds) ++ c ∷ rest)) = drop_at front (98 ∷ (118 ∷ ((d ∷ ds) ++ c ∷ rest))) (length front) refl in
      let before : take (length front) (front ++ 98 ∷ (118 ∷ ((d ∷ ds) ++ c ∷ rest))) ≡ front = take_at front (98 ∷ (118 ∷ ((d ∷ ds) ++ c ∷ rest))) (length front) refl in
      let makes : makes_literal (98 ∷ (118 ∷ ((d ∷ ds) ++ c ∷ rest))) ≡ true = first_passes is_ascii_digit d ds all in
      let cut : digits_piece (front ++ 98 ∷ (118 ∷ ((d ∷ ds) ++ c ∷ rest))) (length front) ≡ literal_at front ((d ∷ ds) ++ c ∷ rest) (length front) = rw (after, makes, before) refl in
      cut
      ∙ ap (λ w. literal_piece (digits_value 10 front) (width_of w) (length front + 2 + prefix_len is_ascii_digit ((d ∷ ds) ++ c ∷ rest))) (while_append is_ascii_digit (d ∷ ds) c rest all ends_digits)
      ∙ ap (λ n. literal_piece (digits_value 10 front) (width_of (d ∷ ds)) (length front + 2 + n)) (run_append is_ascii_digit (d ∷ ds) c rest all ends_digits)

  literal_parts : (width bits : ℕ) (f : ℕ) (fs : List ℕ) (d : ℕ) (ds : List ℕ) → list_all is_ascii_digit (f ∷ fs) ≡ true → list_all is_ascii_digit (d ∷ ds) ≡ true
      → bits ≡ digits_value 10 (f ∷ fs) → width ≡ digits_value 10 (d ∷ ds) → 1 ≤ width → width ≤ 64 → bits < 2 ^ width
      → piece_of ((f ∷ fs) ++ 98 ∷ (118 ∷ ((d ∷ ds) ++ c ∷ rest))) ≡ Whole (BvLit width bits) (length (f ∷ fs) + 2 + length (d ∷ ds))
  literal_parts width bits f fs d ds front back is_bits is_width least most lt =
      digits_begin f (fs ++ 98 ∷ (118 ∷ ((d ∷ ds) ++ c ∷ rest))) (first_passes is_ascii_digit f fs front)
      ∙ ap (digits_piece ((f ∷ fs) ++ 98 ∷ (118 ∷ ((d ∷ ds) ++ c ∷ rest)))) (run_append is_ascii_digit (f ∷ fs) 98 (118 ∷ ((d ∷ ds) ++ c ∷ rest)) front refl)
      ∙ literal_cut (f ∷ fs) d ds back
      ∙ ap (λ o. literal_piece (digits_value 10 (f ∷ fs)) o (length (f ∷ fs) + 2 + length (d ∷ ds))) (width_fits (digits_value 10 (d ∷ ds)) width is_width least most)
      ∙ ap (λ o. sized_piece width o (length (f ∷ fs) + 2 + length (d ∷ ds))) (bits_fit (digits_value 10 (f ∷ fs)) bits width is_bits lt)

  literal_text : (front back : List ℕ) → (front ++ (codes "bv" ++ back)) ++ c ∷ rest ≡ front ++ 98 ∷ (118 ∷ (back ++ c ∷ rest))
  literal_text front back = append_assoc front (codes "bv" ++ back) (c ∷ rest)

  literal_length : (front back : List ℕ) → length front + 2 + length back ≡ length (front ++ (codes "bv" ++ back))
  literal_length front back = omega (arith, length-append front (codes "bv" ++ back))

  literal_spelt_at : (width bits : ℕ) (front back after : List ℕ) → 0 < length front → list_all is_ascii_digit front ≡ true → 0 < length back → list_all is_ascii_digit back ≡ true
      → bits ≡ digits_value 10 front → width ≡ digits_value 10 back → 1 ≤ width → width ≤ 64 → bits < 2 ^ width
      → piece_of (front ++ 98 ∷ (118 ∷ (back ++ c ∷ rest))) ≡ Whole (BvLit width bits) (length front + 2 + length back)
  literal_spelt_at width bits [] back after some digits some_back digits_back is_bits is_width least most lt = absurd (omega arith)
  literal_spelt_at width bits (f ∷ fs) [] after some digits some_back digits_back is_bits is_width least most lt = absurd (omega arith)
  literal_spelt_at width bits (f ∷ fs) (d ∷ ds) after some digits some_back digits_back is_bits is_width least most lt = literal_parts width bits f fs d ds digits digits_back is_bits is_width least most lt

  literal_spelt : (width bits : ℕ) (text after : List ℕ) → IsLiteral width bits text after → piece_of (text ++ c ∷ rest) ≡ Whole (BvLit width bits) (length text)
  literal_spelt width bits text after h =
      ap (λ t. piece_of (t ++ c ∷ rest)) h.parts
      ∙ ap piece_of (literal_text h.front h.back)
      ∙ literal_spelt_at width bits h.front h.back after h.some h.digits h.run.some h.run.passes h.is_bits h.is_width h.least h.most h.fits
      ∙ ap (Whole (BvLit width bits)) (literal_length h.front h.back ∙ ap length (sym h.parts))

-- ---- strings

quote_ends : (before : ℕ) (more : List ℕ) → before ≢ 92 → string_len (before == 92) (34 ∷ more) ≡ Some 1
unfolding string_len
quote_ends before more h = let plain : (before == 92) ≡ false = is_false (before == 92) (λ e. absurd (h (eqb-true before 92 e))) in rw plain refl

goes_on : (before b n : ℕ) (more : List ℕ) → b ≢ 10 → (b ≡ 34 → before ≡ 92) → string_len (b == 92) more ≡ Some n → string_len (before == 92) (b ∷ more) ≡ Some (n + 1)
unfolding string_len
goes_on before b n more no_feed escaped h =
    let feed : (b == 10) ≡ false = is_false (b == 10) (λ e. absurd (no_feed (eqb-true b 10 e))) in
    let quote : ((b == 34) && not (before == 92)) ≡ false = is_false ((b == 34) && not (before == 92)) (λ e.
    let both = and_parts (b == 34) (not (before == 92)) e in
    let is : before ≡ 92 = escaped (eqb-true b 34 both.0) in
    let no : not (before == 92) ≡ false = ap (λ x. not (x == 92)) is in
    sym no ∙ both.1) in
    rw (feed, quote, h) refl

string_closed : (before : ℕ) (bs more : List ℕ) → IsClosed before bs → string_len (before == 92) (bs ++ more) ≡ Some (length bs)
string_closed before [] more h = absurd h
string_closed before (b ∷ []) more h = subst (λ (x : ℕ). string_len (before == 92) (x ∷ more) ≡ Some 1) (sym h.0) (quote_ends before more h.1)
string_closed before (b ∷ d ∷ bs) more h =
    let next = goes_on before b (length (d ∷ bs)) ((d ∷ bs) ++ more) h.0 h.1 (string_closed b (d ∷ bs) more h.2) in
    let up : length (d ∷ bs) + 1 ≡ length (b ∷ d ∷ bs) = omega arith in
    next ∙ ap Some up

quoted : (bs more : List ℕ) → IsClosed 34 bs → piece_of (34 ∷ (bs ++ more)) ≡ Whole Str (length bs + 1)
quoted bs more h = piece_string (34 ∷ (bs ++ more)) refl refl refl refl refl refl ∙ ap string_piece (string_closed 34 bs more h)

string_spelt : (text more : List ℕ) → IsString text → piece_of (text ++ more) ≡ Whole Str (length text)
string_spelt [] more h = absurd h
string_spelt (b ∷ bs) more h =
    let closed : IsClosed 34 bs = subst (λ (x : ℕ). IsClosed x bs) h.0 h.1 in
    let up : length bs + 1 ≡ length (b ∷ bs) = omega arith in
    ap (λ x. piece_of (x ∷ (bs ++ more))) h.0 ∙ quoted bs more closed ∙ ap (Whole Str) up

-- ---- signs

abbrev pub SpeltSign : Spelling → Type 0
SpeltSign entry = IsSpelt (Sign entry.1) entry.0

abbrev pub AllSigns : List Spelling → Type 0
AllSigns [] = Unit {0}
AllSigns (entry ∷ more) = SpeltSign entry × AllSigns more

pub sign_in : (table : List Spelling) (text : List ℕ) (sign : Terminal) → AllSigns table → HasSpelling table text sign → IsSpelt (Sign sign) text
sign_in [] text sign all h = absurd h
sign_in (entry ∷ more) text sign all h = elim h [
  | inl is ↦ subst (λ (t : List ℕ). IsSpelt (Sign sign) t) is.0 (subst (λ (x : Terminal). IsSpelt (Sign x) entry.0) is.1 all.0)
  | inr later ↦ sign_in more text sign all.1 later
]

pub signs_spelt : AllSigns signs
unfolding piece_of sign_of
signs_spelt = (record { space = λ rest. refl; line = λ rest. refl }, (record { space = λ rest. refl; line = λ rest. refl }, (record { space = λ rest. refl; line = λ rest. refl }, (record { space = λ rest. refl; line = λ rest. refl }, (record { space = λ rest. refl; line = λ rest. refl }, (record { space = λ rest. refl; line = λ rest. refl }, (record { space = λ rest. refl; line = λ rest. refl }, (record { space = λ rest. refl; line = λ rest. refl }, (record { space = λ rest. refl; line = λ rest. refl }, (record { space = λ rest. refl; line = λ rest. refl }, (record { space = λ rest. refl; line = λ rest. refl }, (record { space = λ rest. refl; line = λ rest. refl }, (record { space = λ rest. refl; line = λ rest. refl }, (record { space = λ rest. refl; line = λ rest. refl }, (record { space = λ rest. refl; line = λ rest. refl }, (record { space = λ rest. refl; line = λ rest. refl }, (record { space = λ rest. refl; line = λ rest. refl }, (record { space = λ rest. refl; line = λ rest. refl }, (record { space = λ rest. refl; line = λ rest. refl }, (record { space = λ rest. refl; line = λ rest. refl }, (record { space = λ rest. refl; line = λ rest. refl }, (record { space = λ rest. refl; line = λ rest. refl }, (record { space = λ rest. refl; line = λ rest. refl }, (record { space = λ rest. refl; line = λ rest. refl }, (record { space = λ rest. refl; line = λ rest. refl }, (record { space = λ rest. refl; line = λ rest. refl }, (record { space = λ rest. refl; line = λ rest. refl }, (record { space = λ rest. refl; line = λ rest. refl }, (record { space = λ rest. refl; line = λ rest. refl }, tt)))))))))))))))))))))))))))))

-- ---- all tokens

kind_of_word : (text : List ℕ) (o : Option Terminal) → is_width_word text ≡ false → spelt keywords text ≡ o → word_kind text ≡ keyword_or_ident o
kind_of_word text o plain e = rw (plain, e) refl

kind_of_width : (text : List ℕ) → is_width_word text ≡ true → word_kind text ≡ Width (width_of (drop 2 text))
kind_of_width text h = rw h refl

word_is : (kind : TokKind) (text after : List ℕ) → IsWord text after → word_kind text ≡ kind → IsSpelt kind text
word_is kind text after word is = record {
  space = λ rest. word_spelt 32 refl refl (λ r. refl) rest text after word ∙ ap (λ x. Whole x (length text)) is;
  line = λ rest. word_spelt 10 refl refl (λ r. refl) rest text after word ∙ ap (λ x. Whole x (length text)) is;
}

pub token_spelt : (kind : TokKind) (text after : List ℕ) → IsToken kind text after → IsSpelt kind text
token_spelt Ident text after h = word_is Ident text after h.0 (kind_of_word text None h.1 h.2)
token_spelt (Keyword word) text after h = word_is (Keyword word) text after h.0 (kind_of_word text (Some word) h.1 h.2)
token_spelt (Width width) text after h = word_is (Width width) text after h.0 (kind_of_width text h.1 ∙ ap Width (sym h.2))
token_spelt (Number value) text after h = record {
  space = λ rest. number_spelt 32 refl refl (λ r. refl) rest value text after h;
  line = λ rest. number_spelt 10 refl refl (λ r. refl) rest value text after h;
}
token_spelt (BvLit width bits) text after h = record {
  space = λ rest. literal_spelt 32 refl refl (λ r. refl) rest width bits text after h;
  line = λ rest. literal_spelt 10 refl refl (λ r. refl) rest width bits text after h;
}
token_spelt Str text after h = record { space = λ rest. string_spelt text (32 ∷ rest) h; line = λ rest. string_spelt text (10 ∷ rest) h }
token_spelt (Sign sign) text after h = sign_in signs text sign signs_spelt h.spelling
