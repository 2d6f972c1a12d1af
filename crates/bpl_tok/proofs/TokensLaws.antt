-- The tokens so far, and those of the rest.
use Rattle.std.proofs.Common.{◌≡◌, ℕ, zero, suc, ◌+◌, ◌-◌, ◌<◌, ◌≤◌, false, ◌==◌, List, [], ◌∷◌, ◌++◌, length, drop, Result, Ok, Err, refl, sym, ap, ◌∙◌, append_assoc, arith}
use Rattle.std.proofs.lemmas.List.{append-nil}
use Rattle.bpl_tok.specs.declared.token.TokKind.{TokKind}
use Rattle.bpl_tok.specs.declared.token.LexKind.{LexKind}
use Rattle.bpl_tok.specs.declared.piece.Piece.{Piece}
use Rattle.bpl_tok.specs.declared.piece.Piece.TheVariants.{Gap, Whole, Fault}
use Rattle.bpl_tok.specs.Pieces.{piece_of}
use Rattle.bpl_tok.specs.Lexed.{lexed, with_first, with_piece}
use Rattle.bpl_tok.specs.declared.token.Token.{Token}
use Rattle.bpl_tok.specs.declared.token.LexFault.{LexFault}

abbrev pub with_front : List Token → Result (List Token) LexFault → Result (List Token) LexFault
with_front front (Ok ts) = Ok (front ++ ts)
with_front front (Err f) = Err f

regroup : (front : List Token) (t : Token) (read : Result (List Token) LexFault) → with_front front (with_first t read) ≡ with_front (front ++ t ∷ []) read
regroup front t (Ok ts) = ap Ok (simp append_assoc)
regroup front t (Err f) = refl

is_not_zero : (n : ℕ) → 0 < n → (n == 0) ≡ false
is_not_zero n h = grind arith

-- nothing is left
pub at_end : (turns at : ℕ) (rest : List ℕ) (front : List Token) (total : Result (List Token) LexFault) → length rest ≡ 0 → with_front front (lexed turns at rest) ≡ total → total ≡ Ok front
unfolding lexed
at_end zero at rest front total e so_far = sym so_far ∙ ap Ok (append-nil front)
at_end (suc n) at rest front total e so_far = let there = rw e at so_far in sym there ∙ ap Ok (append-nil front)

-- no turn is left
pub no_turn : (end i at : ℕ) (bs : List ℕ) (front : List Token) (total : Result (List Token) LexFault) → end ≤ i → with_front front (lexed (end - i) at bs) ≡ total → total ≡ Ok front
unfolding lexed
no_turn end i at bs front total le so_far = let k : end - i ≡ 0 = omega arith in let there = rw k at so_far in sym there ∙ ap Ok (append-nil front)

module _ (rest : List ℕ) (end i at : ℕ) (front : List Token) (total : Result (List Token) LexFault) (lt : i < end) (some : 0 < length rest) (so_far : with_front front (lexed (end - i) at rest) ≡ total) where
  step : (p : Piece) → piece_of rest ≡ p → lexed (end - i) at rest ≡ with_piece at p (λ n. lexed (end - (i + 1)) (at + n) (drop n rest))
  unfolding lexed
  step p e =
      let k : end - i ≡ suc (end - (i + 1)) = omega arith in
      let here : (length rest == 0) ≡ false = is_not_zero (length rest) some in
      rw (k, here, e) refl

  pub after_gap : (n : ℕ) → piece_of rest ≡ Gap n → with_front front (lexed (end - (i + 1)) (at + n) (drop n rest)) ≡ total
  after_gap n e = ap (with_front front) (sym (step (Gap n) e)) ∙ so_far

  pub after_whole : (kind : TokKind) (n : ℕ) → piece_of rest ≡ Whole kind n → with_front (front ++ record { kind = kind; at = at; len = n } ∷ []) (lexed (end - (i + 1)) (at + n) (drop n rest)) ≡ total
  after_whole kind n e =
      sym (regroup front (record { kind = kind; at = at; len = n }) (lexed (end - (i + 1)) (at + n) (drop n rest))) ∙ ap (with_front front) (sym (step (Whole kind n) e)) ∙ so_far

  pub at_fault : (kind : LexKind) → piece_of rest ≡ Fault kind → total ≡ Err (record { at = at; kind = kind })
  at_fault kind e = sym so_far ∙ ap (with_front front) (step (Fault kind) e)
