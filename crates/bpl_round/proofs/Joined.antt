-- Texts that are tokens, with a space or a line feed after each, are read as these tokens.
use Rattle.std.proofs.Common.{◌≡◌, ℕ, zero, suc, ◌+◌, ◌-◌, ◌<◌, ◌≤◌, Bool, true, false, ◌==◌, List, [], ◌∷◌, ◌++◌, length, take, drop, map, Ok, refl, sym, ap, subst, ◌∙◌, arith, inl, inr, append_assoc, length-append}
use Rattle.std.specs.Prelude.{slice_index}
use Rattle.std.specs.List.{flat_map, prefix_len}
use Rattle.std.proofs.lemmas.Bool.{cases_Bool}
use Rattle.std.proofs.lemmas.List.{drop_at, take_at}
use Rattle.bpl_tok.specs.declared.piece.Piece.{Piece}
use Rattle.bpl_tok.specs.declared.piece.Piece.TheVariants.{Gap, Whole}
use Rattle.bpl_tok.specs.declared.token.Token.{Token}
use Rattle.bpl_tok.specs.declared.token.TokKind.{TokKind}
use Rattle.bpl_tok.specs.Bytes.{is_white}
use Rattle.bpl_tok.specs.Lexed.{lexed, tokens_of, with_first, with_piece}
use Rattle.bpl_tok.specs.Pieces.{IsWithin, piece_of}
use Rattle.bpl_tok.proofs.Runs.{prefix_no}
use Rattle.bpl_tok.proofs.Within.{piece_of-within}
use Rattle.bpl_show.specs.Tokens as shown
use Rattle.bpl_round.proofs.Again.{IsSpelt, kind_of, AllSpelt, AllStand}

-- the texts of shown tokens
abbrev pub texts : List shown.Token → List (List ℕ)
texts ts = map (λ t. t.text) ts

-- what begins with a token begins with no white space
whole_no_white : (bs : List ℕ) (kind : TokKind) (n : ℕ) → piece_of bs ≡ Whole kind n → is_white (slice_index bs 0) ≡ false
unfolding piece_of
whole_no_white bs kind n h = elim (cases_Bool (is_white (slice_index bs 0))) [
  | inl k ↦ (let e : Gap (prefix_len is_white bs) ≡ Whole kind n = rw k at h in absurd cc)
  | inr k ↦ k
]

no_run : (bs : List ℕ) → is_white (slice_index bs 0) ≡ false → prefix_len is_white bs ≡ 0
no_run [] h = refl
no_run (b ∷ bs) h = prefix_no is_white b bs h

gap_piece : (c : ℕ) (more : List ℕ) → is_white c ≡ true → prefix_len is_white more ≡ 0 → piece_of (c ∷ more) ≡ Gap 1
unfolding piece_of
gap_piece c more white none = rw (white, none) refl

-- a token takes a byte at least
some_bytes : (bs : List ℕ) (kind : TokKind) (n : ℕ) → 0 < length bs → piece_of bs ≡ Whole kind n → 0 < n
some_bytes bs kind n some h = (subst (λ (p : Piece). IsWithin (length bs) p) h (piece_of-within bs some)).0

is_not_zero : (n : ℕ) → 0 < n → (n == 0) ≡ false
is_not_zero n h = grind arith

-- one piece in front
lexed_step : (turns at : ℕ) (bs : List ℕ) (p : Piece) → 0 < length bs → piece_of bs ≡ p → lexed (suc turns) at bs ≡ with_piece at p (λ n. lexed turns (at + n) (drop n bs))
unfolding lexed
lexed_step turns at bs p some h = rw (is_not_zero (length bs) some, h) refl

lexed_none : (turns at : ℕ) → lexed turns at [] ≡ Ok []
unfolding lexed
lexed_none zero at = refl
lexed_none (suc turns) at = refl

-- the text of a token, a byte of white space, and more
token_step : (turns at c : ℕ) (text more : List ℕ) (kind : TokKind) → is_white c ≡ true → prefix_len is_white more ≡ 0 → piece_of (text ++ c ∷ more) ≡ Whole kind (length text)
    → lexed (suc (suc turns)) at (text ++ c ∷ more) ≡ with_first (record { kind = kind; at = at; len = length text }) (lexed turns (at + length text + 1) more)
token_step turns at c text more kind white none h =
    let whole_len : length (text ++ c ∷ more) ≡ length text + suc (length more) = length-append text (c ∷ more) in
    let some : 0 < length (text ++ c ∷ more) = omega arith in
    let after : drop (length text) (text ++ c ∷ more) ≡ c ∷ more = drop_at text (c ∷ more) (length text) refl in
    lexed_step (suc turns) at (text ++ c ∷ more) (Whole kind (length text)) some h
    ∙ ap (λ bs. with_first (record { kind = kind; at = at; len = length text }) (lexed (suc turns) (at + length text) bs)) after
    ∙ ap (with_first (record { kind = kind; at = at; len = length text })) (lexed_step turns (at + length text) (c ∷ more) (Gap 1) (omega arith) (gap_piece c more white none))

gap_white : (ends : Bool) → is_white (shown.gap_after ends) ≡ true
gap_white true = refl
gap_white false = refl

spelt_here : (ends : Bool) (text more : List ℕ) (kind : TokKind) → IsSpelt kind text → piece_of (text ++ shown.gap_after ends ∷ more) ≡ Whole kind (length text)
spelt_here true text more kind h = h.line more
spelt_here false text more kind h = h.space more

-- a token's text, the byte after it, and what follows
cut : (w : shown.Token) (ws : List shown.Token) → flat_map shown.spelt (w ∷ ws) ≡ w.text ++ shown.gap_after w.ends_line ∷ flat_map shown.spelt ws
cut w ws = append_assoc w.text (shown.gap_after w.ends_line ∷ []) (flat_map shown.spelt ws)

no_white : (ws : List shown.Token) → AllSpelt (texts ws) → prefix_len is_white (flat_map shown.spelt ws) ≡ 0
no_white [] h = refl
no_white (w ∷ ws) h =
    no_run (flat_map shown.spelt (w ∷ ws)) (whole_no_white (flat_map shown.spelt (w ∷ ws)) (kind_of w.text) (length w.text) (ap piece_of (cut w ws) ∙ spelt_here w.ends_line w.text (flat_map shown.spelt ws) (kind_of w.text) h.0))

pub record Read (s : List ℕ) (turns at : ℕ) (bs : List ℕ) (ws : List (List ℕ)) : Type 0 where
  pub tokens : List Token
  pub reads : lexed turns at bs ≡ Ok tokens
  pub stand : AllStand s ws tokens

module _ (s : List ℕ) where
  text_at : (before text after : List ℕ) → s ≡ before ++ (text ++ after) → take (length text) (drop (length before) s) ≡ text
  text_at before text after parts =
      ap (λ w. take (length text) (drop (length before) w)) parts
      ∙ ap (take (length text)) (drop_at before (text ++ after) (length before) refl)
      ∙ take_at text after (length text) refl

  first_read : (turns c : ℕ) (before text more : List ℕ) (ws : List (List ℕ)) → s ≡ before ++ (text ++ c ∷ more) → is_white c ≡ true → prefix_len is_white more ≡ 0
      → piece_of (text ++ c ∷ more) ≡ Whole (kind_of text) (length text) → Read s turns (length before + length text + 1) more ws → Read s (suc (suc turns)) (length before) (text ++ c ∷ more) (text ∷ ws)
  first_read turns c before text more ws parts white none piece rest = record {
    tokens = record { kind = kind_of text; at = length before; len = length text } ∷ rest.tokens;
    reads = token_step turns (length before) c text more (kind_of text) white none piece ∙ ap (with_first (record { kind = kind_of text; at = length before; len = length text })) rest.reads;
    stand = (record { kind = refl; text = text_at before text (c ∷ more) parts }, rest.stand);
  }

  joined : (ws : List shown.Token) (turns : ℕ) (before : List ℕ) → AllSpelt (texts ws) → s ≡ before ++ flat_map shown.spelt ws → length (flat_map shown.spelt ws) ≤ turns → Read s turns (length before) (flat_map shown.spelt ws) (texts ws)
  joined [] turns before h parts le = record { tokens = []; reads = lexed_none turns (length before); stand = tt }
  joined (w ∷ ws) turns before h parts le =
      let c = shown.gap_after w.ends_line in
      let more = flat_map shown.spelt ws in
      let piece : piece_of (w.text ++ c ∷ more) ≡ Whole (kind_of w.text) (length w.text) = spelt_here w.ends_line w.text more (kind_of w.text) h.0 in
      let whole_len : length (w.text ++ c ∷ more) ≡ length w.text + suc (length more) = length-append w.text (c ∷ more) in
      let some : 0 < length w.text = some_bytes (w.text ++ c ∷ more) (kind_of w.text) (length w.text) (omega arith) piece in
      let all_len : length (flat_map shown.spelt (w ∷ ws)) ≡ length w.text + suc (length more) = ap length (cut w ws) ∙ whole_len in
      let turns_left : suc (suc (turns - 2)) ≡ turns = omega arith in
      let here : s ≡ before ++ (w.text ++ c ∷ more) = parts ∙ ap (λ x. before ++ x) (cut w ws) in
      let there : s ≡ (before ++ (w.text ++ c ∷ [])) ++ more = parts ∙ sym (append_assoc before (w.text ++ c ∷ []) more) in
      let at_next : length (before ++ (w.text ++ c ∷ [])) ≡ length before + length w.text + 1 = omega (arith, length-append before (w.text ++ c ∷ []), length-append w.text (c ∷ [])) in
      let rest = joined ws (turns - 2) (before ++ (w.text ++ c ∷ [])) h.1 there (omega arith) in
      let next : Read s (turns - 2) (length before + length w.text + 1) more (texts ws) = subst (λ (at : ℕ). Read s (turns - 2) at more (texts ws)) at_next rest in
      let found = first_read (turns - 2) c before w.text more (texts ws) here (gap_white w.ends_line) (no_white ws h.1) piece next in
      subst (λ (t : ℕ). Read s t (length before) (flat_map shown.spelt (w ∷ ws)) (w.text ∷ texts ws)) turns_left
      (subst (λ (bs : List ℕ). Read s (suc (suc (turns - 2))) (length before) bs (w.text ∷ texts ws)) (sym (cut w ws)) found)

-- The text of shown tokens is read as these tokens.
pub shown_read : (ws : List shown.Token) → AllSpelt (texts ws) → (ts : List Token) × (tokens_of (flat_map shown.spelt ws) ≡ Ok ts) × AllStand (flat_map shown.spelt ws) (texts ws) ts
shown_read ws h =
    let r = joined (flat_map shown.spelt ws) ws (length (flat_map shown.spelt ws)) [] h refl (omega arith) in
    (r.tokens, r.reads, r.stand)
