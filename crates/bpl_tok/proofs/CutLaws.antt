-- Reading cuts a source, and where the tokens of a cut lie.
use Rattle.std.proofs.Common.{◌≡◌, ℕ, zero, suc, ◌+◌, ◌<◌, ◌≤◌, false, ◌==◌, List, [], ◌∷◌, ◌++◌, length, take, drop, Result, Ok, Err, refl, sym, ap, subst, ◌∙◌, arith, length-append, length-drop}
use Rattle.std.proofs.lemmas.List.{drop-drop, drop_at, length-take-le, take-append-drop, take_at}
use Rattle.bpl_tok.specs.declared.piece.Piece.{Piece}
use Rattle.bpl_tok.specs.declared.piece.Piece.TheVariants.{Gap, Whole, Fault}
use Rattle.bpl_tok.specs.declared.token.LexFault.{LexFault}
use Rattle.bpl_tok.specs.declared.token.Token.{Token}
use Rattle.bpl_tok.specs.declared.token.TokKind.{TokKind}
use Rattle.bpl_tok.specs.Lexed.{lexed, tokens_of, with_first, with_piece}
use Rattle.bpl_tok.specs.Pieces.{IsWithin, piece_of}
use Rattle.bpl_tok.specs.Cuts.{AreSlices, IsCut, IsGap, IsReading, IsToken, LieBetween}
use Rattle.bpl_tok.proofs.PieceLaws.{IsPiece, piece_is}
use Rattle.bpl_tok.proofs.Within.{piece_of-within}

is_not_zero : (n : ℕ) → 0 < n → (n == 0) ≡ false
is_not_zero n h = grind arith

-- One piece in front of a reading.
module _ (at : ℕ) (bs : List ℕ) (n : ℕ) (some : 0 < n) (le : n ≤ length bs) where
  text_len : length (take n bs) ≡ n
  text_len = length-take-le n bs le

  text_some : 0 < length (take n bs)
  text_some = rw text_len some

  after_gap : (read : Result (List Token) LexFault) → IsGap (take n bs) (drop n bs) → IsReading (at + n) (drop n bs) read → IsReading at bs read
  after_gap (Ok ts) is cut = IsCut.gap (take n bs) (drop n bs) (sym (take-append-drop n bs)) text_some is (subst (λ (k : ℕ). IsCut (at + k) (drop n bs) ts []) (sym text_len) cut)
  after_gap (Err fault) is (ts, rest, cut, place, why) = (
    ts,
    rest,
    IsCut.gap (take n bs) (drop n bs) (sym (take-append-drop n bs)) text_some is (subst (λ (k : ℕ). IsCut (at + k) (drop n bs) ts rest) (sym text_len) cut),
    omega (arith, place, length-drop n bs),
    why,
  )

  after_token : (kind : TokKind) (read : Result (List Token) LexFault) → IsToken kind (take n bs) (drop n bs) → IsReading (at + n) (drop n bs) read → IsReading at bs (with_first (record { kind = kind; at = at; len = n }) read)
  after_token kind (Ok ts) is cut = IsCut.token (take n bs) (drop n bs) (sym (take-append-drop n bs)) text_some refl (sym text_len) is (subst (λ (k : ℕ). IsCut (at + k) (drop n bs) ts []) (sym text_len) cut)
  after_token kind (Err fault) is (ts, rest, cut, place, why) = (
    record { kind = kind; at = at; len = n } ∷ ts,
    rest,
    IsCut.token (take n bs) (drop n bs) (sym (take-append-drop n bs)) text_some refl (sym text_len) is (subst (λ (k : ℕ). IsCut (at + k) (drop n bs) ts rest) (sym text_len) cut),
    omega (arith, place, length-drop n bs),
    why,
  )

-- the piece at the front, and then the reading of the rest
with_piece_is : (at : ℕ) (bs : List ℕ) (p : Piece) (more : ℕ → Result (List Token) LexFault) → IsWithin (length bs) p → IsPiece bs p
    → ((n : ℕ) → 0 < n → n ≤ length bs → IsReading (at + n) (drop n bs) (more n)) → IsReading at bs (with_piece at p more)
with_piece_is at bs (Gap n) more within is next = after_gap at bs n within.0 within.1 (more n) is (next n within.0 within.1)
with_piece_is at bs (Whole kind n) more within is next = after_token at bs n within.0 within.1 kind (more n) is (next n within.0 within.1)
with_piece_is at bs (Fault kind) more within is next = ([], bs, IsCut.done, refl, is)

pub lexed_is : (turns at : ℕ) (bs : List ℕ) → length bs ≤ turns → IsReading at bs (lexed turns at bs)
unfolding lexed
lexed_is zero at [] le = IsCut.done
lexed_is zero at (b ∷ bs) le = absurd (omega arith)
lexed_is (suc turns) at [] le = IsCut.done
lexed_is (suc turns) at (b ∷ bs) le =
    let some : 0 < length (b ∷ bs) = omega arith in
    let next : (n : ℕ) → 0 < n → n ≤ length (b ∷ bs) → IsReading (at + n) (drop n (b ∷ bs)) (lexed turns (at + n) (drop n (b ∷ bs))) =
    λ n lt within. lexed_is turns (at + n) (drop n (b ∷ bs)) (omega (arith, length-drop n (b ∷ bs))) in
    rw (is_not_zero (length (b ∷ bs)) some)
    (with_piece_is at (b ∷ bs) (piece_of (b ∷ bs)) (λ n. lexed turns (at + n) (drop n (b ∷ bs))) (piece_of-within (b ∷ bs) some) (piece_is (b ∷ bs) some) next)

-- what has no rest lies in the text
pub cut_lies : (at : ℕ) (bs : List ℕ) (ts : List Token) (rest : List ℕ) → IsCut at bs ts rest → (low : ℕ) → low ≤ at → LieBetween low ts (at + length bs)
cut_lies at bs ts rest IsCut.done low le = omega arith
cut_lies at bs ts rest (IsCut.gap text after parts some is cut) low le =
    let len : at + length text + length after ≡ at + length bs = omega (arith, ap length parts, length-append text after) in
    let P : ℕ → Type 0 = λ high. LieBetween low ts high in
    subst P len (cut_lies (at + length text) after ts rest cut low (omega arith))
cut_lies at bs (t ∷ ts) rest (IsCut.token text after parts some place size is cut) low le =
    let len : at + length text + length after ≡ at + length bs = omega (arith, ap length parts, length-append text after) in
    let P : ℕ → Type 0 = λ high. LieBetween (t.at + t.len) ts high in
    (omega arith, omega arith, subst P len (cut_lies (at + length text) after ts rest cut (t.at + t.len) (omega arith)))

-- a piece in a source that begins at an offset
module _ (source : List ℕ) (at : ℕ) (bs text after : List ℕ) (here : bs ≡ drop at source) (parts : bs ≡ text ++ after) where
  is_slice : take (length text) (drop at source) ≡ text
  is_slice = ap (take (length text)) (sym here ∙ parts) ∙ take_at text after (length text) refl

  is_rest : drop (at + length text) source ≡ after
  is_rest = sym (drop-drop (length text) at source) ∙ ap (drop (length text)) (sym here ∙ parts) ∙ drop_at text after (length text) refl

token_slice : (source : List ℕ) (at : ℕ) (bs text after : List ℕ) (t : Token) → bs ≡ drop at source → bs ≡ text ++ after → t.at ≡ at → t.len ≡ length text → IsToken t.kind text after
    → IsToken t.kind (take t.len (drop t.at source)) (drop (t.at + t.len) source)
token_slice source at bs text after t here parts place size is =
    let P : List ℕ → Type 0 = λ w. IsToken t.kind w (drop (t.at + t.len) source) in
    let Q : List ℕ → Type 0 = λ w. IsToken t.kind text w in
    let e1 : text ≡ take t.len (drop t.at source) = sym (ap (λ k. take k (drop t.at source)) size ∙ ap (λ k. take (length text) (drop k source)) place ∙ is_slice source at bs text after here parts) in
    let e2 : after ≡ drop (t.at + t.len) source = sym (ap (λ k. drop (k + t.len) source) place ∙ ap (λ k. drop (at + k) source) size ∙ is_rest source at bs text after here parts) in
    subst P e1 (subst Q e2 is)

pub cut_slices : (source : List ℕ) (at : ℕ) (bs : List ℕ) (ts : List Token) (rest : List ℕ) → IsCut at bs ts rest → bs ≡ drop at source → AreSlices source ts
cut_slices source at bs ts rest IsCut.done here = tt
cut_slices source at bs ts rest (IsCut.gap text after parts some is cut) here =
    cut_slices source (at + length text) after ts rest cut (sym (is_rest source at bs text after here parts))
cut_slices source at bs (t ∷ ts) rest (IsCut.token text after parts some place size is cut) here = (
  token_slice source at bs text after t here parts place size is,
  cut_slices source (at + length text) after ts rest cut (sym (is_rest source at bs text after here parts)),
)

pub reading_cut : (source : List ℕ) → IsReading 0 source (tokens_of source)
reading_cut source = lexed_is (length source) 0 source (omega arith)

pub tokens_lie : (source : List ℕ) (ts : List Token) → tokens_of source ≡ Ok ts → LieBetween 0 ts (length source) × AreSlices source ts
tokens_lie source ts read =
    let P : Result (List Token) LexFault → Type 0 = λ r. IsReading 0 source r in
    let cut : IsCut 0 source ts [] = subst P read (reading_cut source) in
    let Q : ℕ → Type 0 = λ high. LieBetween 0 ts high in
    let len : 0 + length source ≡ length source = omega arith in
    (subst Q len (cut_lies 0 source ts [] cut 0 (omega arith)), cut_slices source 0 source ts [] cut refl)
