-- What the tokens of a source are: their texts are tokens again, and numbers and literals fit.
use Rattle.std.proofs.Common.{◌≡◌, ℕ, ◌^◌, ◌<◌, ◌≤◌, Bool, true, not, ◌||◌, ◌==◌, List, [], ◌∷◌, nat_le, refl, sym, ap, ◌∙◌, arith, inl, inr}
use Rattle.std.specs.Prelude.{Some, None}
use Rattle.std.specs.List.{list_all}
use Rattle.std.specs.Str.{bytes_eq}
use Rattle.std.proofs.lemmas.Bool.{and_parts, cases_Bool, eqb-true, leb-true}
use Rattle.bpl_ast.specs.Alike.{bare_name, bare_lexeme}
use Rattle.bpl_ast.specs.declared.name.Name.{Name}
use Rattle.bpl_ast.specs.declared.name.Lexeme.{Lexeme}
use Rattle.bpl_tok.specs.declared.token.Terminal.{Terminal}
use Rattle.bpl_tok.specs.declared.token.Terminal.TheVariants as k
use Rattle.bpl_tok.specs.declared.token.TokKind.{TokKind}
use Rattle.bpl_tok.specs.declared.token.TokKind.TheVariants.{Ident, Keyword, Width, Number, BvLit, Str, Sign}
use Rattle.bpl_tok.specs.declared.token.Token.{Token}
use Rattle.bpl_tok.specs.Cuts.{HasSpelling, IsToken}
use Rattle.bpl_tok.specs.Spellings.{Spelling, keywords, signs, spelt}
use Rattle.bpl_tok.specs.Terminals.{terminal_of}
use Rattle.bpl_parse.specs.declared.place.Place.{Place}
use Rattle.bpl_parse.specs.Names.{name, lexeme, lexeme_of}
use Rattle.bpl_parse.specs.Reader.{text_of, name_of}
use Rattle.bpl_parse.specs.Tests.{is, is_no_brace, rank}
use Rattle.bpl_rules.specs.Rules.{IsOne}
use Rattle.bpl_round.proofs.Again.{IsSpelt, spelt_kind, spelt_so, stand_one, Again, IsOld, one_yields, more_yields}
use Rattle.bpl_round.proofs.Pairs.{Renders, Like, made_each}
use Rattle.bpl_round.proofs.Words.{token_spelt}

old_spelt : (s : List ℕ) (t : Token) → IsOld s t → IsSpelt t.kind (text_of s t)
old_spelt s t h = token_spelt t.kind (text_of s t) h.rest h.token

-- the text of a token of the source, wherever it stands
module _ (s s' : List ℕ) (test : Token → Bool) (same : (t u : Token) → t.kind ≡ u.kind → test t ≡ test u) where
  old_again : (t : Token) → IsOld s t → test t ≡ true → Again s' (IsOne test) (text_of s t ∷ []) (λ u. (u.kind ≡ t.kind) × (text_of s' u ≡ text_of s t))
  old_again t old passes = record {
    spelt = (spelt_so t.kind (text_of s t) (old_spelt s t old), tt);
    reads = λ ts stand.
        let o = stand_one s' (text_of s t) ts stand in
        let kind : o.token.kind ≡ t.kind = o.stands.kind ∙ spelt_kind t.kind (text_of s t) (old_spelt s t old) in
        (o.token, record { alone = o.alone; passes = same o.token t kind ∙ passes }, (kind, o.stands.text));
  }

  pub old_renders : Renders s s' (IsOne test) (IsOne test) (λ t. text_of s t ∷ []) (λ t u. (u.kind ≡ t.kind) × (text_of s' u ≡ text_of s t))
  old_renders = record { each = more_yields s (IsOne test) _ _ (one_yields s test) (λ t c. old_again t c.0 c.1) }

pub same_is : (terminal : Terminal) (t u : Token) → t.kind ≡ u.kind → is terminal t ≡ is terminal u
same_is terminal t u e = ap (λ (kind : TokKind). rank terminal == rank (terminal_of kind)) e

pub same_no_brace : (t u : Token) → t.kind ≡ u.kind → is_no_brace t ≡ is_no_brace u
same_no_brace t u e = ap (λ (kind : TokKind). not ((rank k.LeftBrace == rank (terminal_of kind)) || (rank k.RightBrace == rank (terminal_of kind)))) e

module _ (s s' : List ℕ) where
  pub name_renders : (place : Place) → Renders s s' (name s place).Spells (name s' place).Spells (λ n. n.text ∷ []) (Like bare_name)
  name_renders place = made_each s s' (name_of s) (name_of s') (λ n. n.text ∷ []) (Like bare_name) (old_renders s s' (is k.Ident) (same_is k.Ident)) (λ t. refl) (λ t u h. ap (λ (w : List ℕ). let n : Name = record { at = 0; text = w } in n) h.1)

  pub lexeme_renders : Renders s s' (lexeme s).Spells (lexeme s').Spells (λ n. n.text ∷ []) (Like bare_lexeme)
  lexeme_renders = made_each s s' (lexeme_of s) (lexeme_of s') (λ n. n.text ∷ []) (Like bare_lexeme) (old_renders s s' is_no_brace same_no_brace) (λ t. refl) (λ t u h. ap (λ (w : List ℕ). let n : Lexeme = record { at = 0; text = w } in n) h.1)

-- ---- the kinds of tokens that are no words and no signs

spelt_all : (test : Terminal → Bool) (table : List Spelling) (word : List ℕ) (t : Terminal) → list_all (λ entry. test entry.1) table ≡ true → spelt table word ≡ Some t → test t ≡ true
unfolding spelt
spelt_all test [] word t all h = absurd cc
spelt_all test (entry ∷ more) word t all h =
    let both = and_parts (test entry.1) (list_all (λ x. test x.1) more) all in
    elim (cases_Bool (bytes_eq word entry.0)) [
      | inl j ↦ (let e : Some entry.1 ≡ Some t = rw j at h in let is : entry.1 ≡ t = cc in ap test (sym is) ∙ both.0)
      | inr j ↦ spelt_all test more word t both.1 (rw j at h)
    ]

sign_all : (test : Terminal → Bool) (table : List Spelling) (text : List ℕ) (t : Terminal) → list_all (λ entry. test entry.1) table ≡ true → HasSpelling table text t → test t ≡ true
sign_all test [] text t all h = absurd h
sign_all test (entry ∷ more) text t all h =
    let both = and_parts (test entry.1) (list_all (λ x. test x.1) more) all in
    elim h [ inl is ↦ ap test (sym is.1) ∙ both.0 | inr later ↦ sign_all test more text t both.1 later ]

word_rank : (text : List ℕ) (word : Terminal) → spelt keywords text ≡ Some word → 6 ≤ rank word
word_rank text word h = leb-true 6 (rank word) (spelt_all (λ t. nat_le 6 (rank t)) keywords text word refl h)

sign_rank : (text : List ℕ) (sign : Terminal) → HasSpelling signs text sign → 6 ≤ rank sign
sign_rank text sign h = leb-true 6 (rank sign) (sign_all (λ t. nat_le 6 (rank t)) signs text sign refl h)

pub record HasNumber (kind : TokKind) : Type 0 where
  pub value : ℕ
  pub is_number : kind ≡ Number value
  pub fits : value < 2 ^ 128

pub record HasLiteral (kind : TokKind) : Type 0 where
  pub width : ℕ
  pub bits : ℕ
  pub is_literal : kind ≡ BvLit width bits
  pub least : 1 ≤ width
  pub most : width ≤ 64
  pub fits : bits < 2 ^ width

not_plain : (n m : ℕ) → (n == m) ≡ true → n < 6 → 6 ≤ m → ⊥
not_plain n m e lt le = let is : n ≡ m = eqb-true n m e in omega arith

number_of_kind : (kind : TokKind) (text after : List ℕ) → IsToken kind text after → (3 == rank (terminal_of kind)) ≡ true → HasNumber kind
number_of_kind Ident text after h e = absurd cc
number_of_kind (Keyword word) text after h e = absurd (not_plain 3 (rank word) e (omega arith) (word_rank text word h.2))
number_of_kind (Width (Some width)) text after h e = absurd cc
number_of_kind (Width None) text after h e = absurd cc
number_of_kind (Number value) text after h e = record { value = value; is_number = refl; fits = h.fits }
number_of_kind (BvLit width bits) text after h e = absurd cc
number_of_kind Str text after h e = absurd cc
number_of_kind (Sign sign) text after h e = absurd (not_plain 3 (rank sign) e (omega arith) (sign_rank text sign h.spelling))

literal_of_kind : (kind : TokKind) (text after : List ℕ) → IsToken kind text after → (4 == rank (terminal_of kind)) ≡ true → HasLiteral kind
literal_of_kind Ident text after h e = absurd cc
literal_of_kind (Keyword word) text after h e = absurd (not_plain 4 (rank word) e (omega arith) (word_rank text word h.2))
literal_of_kind (Width (Some width)) text after h e = absurd cc
literal_of_kind (Width None) text after h e = absurd cc
literal_of_kind (Number value) text after h e = absurd cc
literal_of_kind (BvLit width bits) text after h e = record { width = width; bits = bits; is_literal = refl; least = h.least; most = h.most; fits = h.fits }
literal_of_kind Str text after h e = absurd cc
literal_of_kind (Sign sign) text after h e = absurd (not_plain 4 (rank sign) e (omega arith) (sign_rank text sign h.spelling))

pub old_number : (s : List ℕ) (t : Token) → IsOld s t → is k.Number t ≡ true → HasNumber t.kind
old_number s t h e = number_of_kind t.kind (text_of s t) h.rest h.token e

pub old_literal : (s : List ℕ) (t : Token) → IsOld s t → is k.Literal t ≡ true → HasLiteral t.kind
old_literal s t h e = literal_of_kind t.kind (text_of s t) h.rest h.token e
