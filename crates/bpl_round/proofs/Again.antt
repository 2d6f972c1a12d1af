-- Texts that are tokens of a source, and how each form of rule reads them: one lemma for each.
use Rattle.std.proofs.Common.{◌≡◌, ℕ, Bool, true, ◌==◌, List, [], ◌∷◌, ◌++◌, length, Option, ◌⊎◌, inl, inr, refl, sym, ap, subst, arith}
use Rattle.bpl_tok.specs.declared.piece.Piece.{Piece}
use Rattle.bpl_tok.specs.declared.piece.Piece.TheVariants.{Gap, Whole, Fault}
use Rattle.bpl_tok.specs.declared.token.Terminal.{Terminal}
use Rattle.bpl_tok.specs.declared.token.TokKind.{TokKind}
use Rattle.bpl_tok.specs.declared.token.TokKind.TheVariants.{Ident}
use Rattle.bpl_tok.specs.declared.token.Token.{Token}
use Rattle.bpl_tok.specs.Cuts.{IsToken}
use Rattle.bpl_tok.specs.Pieces.{piece_of}
use Rattle.bpl_tok.specs.Terminals.{terminal_of}
use Rattle.bpl_parse.specs.declared.place.Place.{Place}
use Rattle.bpl_parse.specs.Reader.{Reader, text_of}
use Rattle.bpl_parse.specs.Tests.{is, rank}
use Rattle.bpl_rules.specs.Rules.{IsOne, IsEmpty, seq, made, placed, AreMany, many}

-- ---- texts that are tokens

-- The text is a token of this kind, where a space or a line feed stands after it.
pub record IsSpelt (kind : TokKind) (text : List ℕ) : Type 0 where
  pub space : (rest : List ℕ) → piece_of (text ++ 32 ∷ rest) ≡ Whole kind (length text)
  pub line : (rest : List ℕ) → piece_of (text ++ 10 ∷ rest) ≡ Whole kind (length text)

abbrev pub kind_in : Piece → TokKind
kind_in (Whole kind n) = kind
kind_in (Gap n) = Ident
kind_in (Fault kind) = Ident

-- the kind of a text that is a token
unfoldable pub kind_of : List ℕ → TokKind
kind_of text = kind_in (piece_of (text ++ 32 ∷ []))

pub spelt_kind : (kind : TokKind) (text : List ℕ) → IsSpelt kind text → kind_of text ≡ kind
unfolding kind_of
spelt_kind kind text h = ap kind_in (h.space [])

pub spelt_so : (kind : TokKind) (text : List ℕ) → IsSpelt kind text → IsSpelt (kind_of text) text
spelt_so kind text h = subst (λ (x : TokKind). IsSpelt x text) (sym (spelt_kind kind text h)) h

abbrev pub AllSpelt : List (List ℕ) → Type 0
AllSpelt [] = Unit {0}
AllSpelt (w ∷ ws) = IsSpelt (kind_of w) w × AllSpelt ws

pub spelt_append : (a b : List (List ℕ)) → AllSpelt a → AllSpelt b → AllSpelt (a ++ b)
spelt_append [] b h k = k
spelt_append (w ∷ a) b h k = (h.0, spelt_append a b h.1 k)

-- the token stands in the source with this text, and is of its kind
pub record Stands (s : List ℕ) (w : List ℕ) (t : Token) : Type 0 where
  pub kind : t.kind ≡ kind_of w
  pub text : text_of s t ≡ w

-- the tokens stand in the source with these texts
abbrev pub AllStand : List ℕ → List (List ℕ) → List Token → Type 0
AllStand s [] [] = Unit {0}
AllStand s [] (t ∷ ts) = ⊥
AllStand s (w ∷ ws) [] = ⊥
AllStand s (w ∷ ws) (t ∷ ts) = Stands s w t × AllStand s ws ts

pub record Parted (s : List ℕ) (a b : List (List ℕ)) (ts : List Token) : Type 0 where
  pub front : List Token
  pub back : List Token
  pub parts : ts ≡ front ++ back
  pub first : AllStand s a front
  pub second : AllStand s b back

pub parted : (s : List ℕ) (a b : List (List ℕ)) (ts : List Token) → AllStand s (a ++ b) ts → Parted s a b ts
parted s [] b ts h = record { front = []; back = ts; parts = refl; first = tt; second = h }
parted s (w ∷ a) b [] h = absurd h
parted s (w ∷ a) b (t ∷ ts) h =
    let c = parted s a b ts h.1 in
    record { front = t ∷ c.front; back = c.back; parts = ap (λ x. t ∷ x) c.parts; first = (h.0, c.first); second = c.second }

pub stand_none : (s : List ℕ) (ts : List Token) → AllStand s [] ts → ts ≡ []
stand_none s [] h = refl
stand_none s (t ∷ ts) h = absurd h

pub record StandsAlone (s : List ℕ) (w : List ℕ) (ts : List Token) : Type 0 where
  pub token : Token
  pub alone : ts ≡ token ∷ []
  pub stands : Stands s w token

pub stand_one : (s : List ℕ) (w : List ℕ) (ts : List Token) → AllStand s (w ∷ []) ts → StandsAlone s w ts
stand_one s w [] h = absurd h
stand_one s w (t ∷ ts) h = record { token = t; alone = ap (λ x. t ∷ x) (stand_none s ts h.1); stands = h.0 }

-- ---- reading texts: wherever they stand as tokens, they are a phrase with a good value

pub record Again {A : Type 0} (s : List ℕ) (Spells : List Token → A → Type 0) (ws : List (List ℕ)) (Good : A → Type 0) : Type 0 where
  pub spelt : AllSpelt ws
  pub reads : (ts : List Token) → AllStand s ws ts → (x : A) × Spells ts x × Good x

-- the text is a token with this terminal symbol
pub record IsText (terminal : Terminal) (text : List ℕ) : Type 0 where
  pub spelt : IsSpelt (kind_of text) text
  pub symbol : rank (terminal_of (kind_of text)) ≡ rank terminal

pub spelt_text : (kind : TokKind) (text : List ℕ) → IsSpelt kind text → IsText (terminal_of kind) text
spelt_text kind text h = record { spelt = spelt_so kind text h; symbol = ap (λ x. rank (terminal_of x)) (spelt_kind kind text h) }

same_rank : (n : ℕ) → (n == n) ≡ true
same_rank n = grind arith

pub stands_is : (s : List ℕ) (terminal : Terminal) (w : List ℕ) (t : Token) → IsText terminal w → Stands s w t → is terminal t ≡ true
stands_is s terminal w t W h = rw (h.kind, W.symbol) (same_rank (rank terminal))

module _ (s : List ℕ) where
  pub one_again : (place : Place) (terminal : Terminal) (w : List ℕ) → IsText terminal w → Again s (IsOne (is terminal)) (w ∷ []) (Stands s w)
  one_again place terminal w W = record {
    spelt = (W.spelt, tt);
    reads = λ ts h. let o = stand_one s w ts h in (o.token, record { alone = o.alone; passes = stands_is s terminal w o.token W o.stands }, o.stands);
  }

  pub empty_again : {A : Type 0} (a : A) → Again s (IsEmpty a) [] (λ x. x ≡ a)
  empty_again a = record { spelt = tt; reads = λ ts h. (a, record { none = stand_none s ts h; value = refl }, refl) }

  module _ {A B : Type 0} where
    pub seq_again : (p : Reader A) (q : Reader B) (a b : List (List ℕ)) (P : A → Type 0) (Q : B → Type 0)
        → Again s p.Spells a P → Again s q.Spells b Q → Again s (seq p q).Spells (a ++ b) (λ x. P x.0 × Q x.1)
    seq_again p q a b P Q h k = record {
      spelt = spelt_append a b h.spelt k.spelt;
      reads = λ ts stand.
          let c = parted s a b ts stand in
          let (x, xs, px) = h.reads c.front c.first in
          let (y, ys, qy) = k.reads c.back c.second in
          ((x, y), record { front = c.front; back = c.back; parts = c.parts; first = xs; second = ys }, (px, qy));
    }

    pub made_again : (f : A → B) (p : Reader A) (a : List (List ℕ)) (P : A → Type 0) (Q : B → Type 0)
        → Again s p.Spells a P → ((x : A) → P x → Q (f x)) → Again s (made f p).Spells a Q
    made_again f p a P Q h k = record {
      spelt = h.spelt;
      reads = λ ts stand. let (x, xs, px) = h.reads ts stand in (f x, record { inner = x; spells = xs; value = refl }, k x px);
    }

    pub placed_again : (f : Option Token → A → B) (p : Reader A) (a : List (List ℕ)) (P : A → Type 0) (Q : B → Type 0)
        → Again s p.Spells a P → ((t : Option Token) (x : A) → P x → Q (f t x)) → Again s (placed f p).Spells a Q
    placed_again f p a P Q h k = record {
      spelt = h.spelt;
      reads = λ ts stand. let (x, xs, px) = h.reads ts stand in (f _ x, record { inner = x; spells = xs; value = refl }, k _ x px);
    }

  module _ {A : Type 0} where
    -- more is good
    pub good_again : (Spells : List Token → A → Type 0) (a : List (List ℕ)) (P Q : A → Type 0) → Again s Spells a P → ((x : A) → P x → Q x) → Again s Spells a Q
    good_again Spells a P Q h k = record { spelt = h.spelt; reads = λ ts stand. let (x, xs, px) = h.reads ts stand in (x, xs, k x px) }

    -- phrases of another rule too, where the value is good
    pub turned_again : (Spells Other : List Token → A → Type 0) (a : List (List ℕ)) (P : A → Type 0) → Again s Spells a P → ((ts : List Token) (x : A) → Spells ts x → P x → Other ts x) → Again s Other a P
    turned_again Spells Other a P h k = record { spelt = h.spelt; reads = λ ts stand. let (x, xs, px) = h.reads ts stand in (x, k ts x xs px, px) }

    pub left_again : (S T : List Token → A → Type 0) (a : List (List ℕ)) (P : A → Type 0) → Again s S a P → Again s (λ ts x. S ts x ⊎ T ts x) a P
    left_again S T a P h = record { spelt = h.spelt; reads = λ ts stand. let (x, xs, px) = h.reads ts stand in (x, inl xs, px) }

    pub right_again : (S T : List Token → A → Type 0) (a : List (List ℕ)) (P : A → Type 0) → Again s T a P → Again s (λ ts x. S ts x ⊎ T ts x) a P
    right_again S T a P h = record { spelt = h.spelt; reads = λ ts stand. let (x, xs, px) = h.reads ts stand in (x, inr xs, px) }

-- ---- what the tokens of a source are

-- the token's text in the source is a token of its kind, where some rest stands after it
pub record IsOld (s : List ℕ) (t : Token) : Type 0 where
  pub rest : List ℕ
  pub token : IsToken t.kind (text_of s t) rest

abbrev pub AreOld : List ℕ → List Token → Type 0
AreOld s [] = Unit {0}
AreOld s (t ∷ ts) = IsOld s t × AreOld s ts

old_front : (s : List ℕ) (a b : List Token) → AreOld s (a ++ b) → AreOld s a
old_front s [] b h = tt
old_front s (t ∷ a) b h = (h.0, old_front s a b h.1)

old_back : (s : List ℕ) (a b : List Token) → AreOld s (a ++ b) → AreOld s b
old_back s [] b h = h
old_back s (t ∷ a) b h = old_back s a b h.1

-- each phrase of the source has a value with this property
pub record Yields {A : Type 0} (s : List ℕ) (Spells : List Token → A → Type 0) (C : A → Type 0) : Type 0 where
  pub each : (ts : List Token) (x : A) → AreOld s ts → Spells ts x → C x

abbrev pub AllHave : {A : Type 0} → (A → Type 0) → List A → Type 0
AllHave C [] = Unit {0}
AllHave C (x ∷ xs) = C x × AllHave C xs

module _ (s : List ℕ) where
  old_of : (a b ts : List Token) → ts ≡ a ++ b → AreOld s ts → AreOld s (a ++ b)
  old_of a b ts e h = subst (λ (x : List Token). AreOld s x) e h

  pub one_yields : (test : Token → Bool) → Yields s (IsOne test) (λ t. IsOld s t × (test t ≡ true))
  one_yields test = record { each = λ ts t old h. ((old_of (t ∷ []) [] ts h.alone old).0, h.passes) }

  pub empty_yields : {A : Type 0} (a : A) → Yields s (IsEmpty a) (λ x. x ≡ a)
  empty_yields a = record { each = λ ts x old h. h.value }

  module _ {A B : Type 0} where
    pub seq_yields : (p : Reader A) (q : Reader B) (C : A → Type 0) (D : B → Type 0) → Yields s p.Spells C → Yields s q.Spells D → Yields s (seq p q).Spells (λ x. C x.0 × D x.1)
    seq_yields p q C D h k = record {
      each = λ ts x old spells.
          let all = old_of spells.front spells.back ts spells.parts old in
          (h.each spells.front x.0 (old_front s spells.front spells.back all) spells.first, k.each spells.back x.1 (old_back s spells.front spells.back all) spells.second);
    }

    pub made_yields : (f : A → B) (p : Reader A) (C : A → Type 0) (D : B → Type 0) → Yields s p.Spells C → ((x : A) → C x → D (f x)) → Yields s (made f p).Spells D
    made_yields f p C D h k = record { each = λ ts x old spells. subst D (sym spells.value) (k spells.inner (h.each ts spells.inner old spells.spells)) }

    pub placed_yields : (f : Option Token → A → B) (p : Reader A) (C : A → Type 0) (D : B → Type 0) → Yields s p.Spells C → ((t : Option Token) (x : A) → C x → D (f t x)) → Yields s (placed f p).Spells D
    placed_yields f p C D h k = record { each = λ ts x old spells. subst D (sym spells.value) (k _ spells.inner (h.each ts spells.inner old spells.spells)) }

  module _ {A : Type 0} where
    pub more_yields : (S : List Token → A → Type 0) (C D : A → Type 0) → Yields s S C → ((x : A) → C x → D x) → Yields s S D
    more_yields S C D h k = record { each = λ ts x old spells. k x (h.each ts x old spells) }

    pub alt_yields : (S T : List Token → A → Type 0) (C : A → Type 0) → Yields s S C → Yields s T C → Yields s (λ ts x. S ts x ⊎ T ts x) C
    alt_yields S T C h k = record { each = λ ts x old spells. elim spells [ inl a ↦ h.each ts x old a | inr a ↦ k.each ts x old a ] }

    many_each : (p : Reader A) (C : A → Type 0) → Yields s p.Spells C → (xs : List A) (ts : List Token) → AreOld s ts → AreMany p ts xs → AllHave C xs
    many_each p C h [] ts old spells = tt
    many_each p C h (x ∷ xs) ts old spells =
        let all = old_of spells.front spells.back ts spells.parts old in
        (h.each spells.front x (old_front s spells.front spells.back all) spells.first, many_each p C h xs spells.back (old_back s spells.front spells.back all) spells.others)

    pub many_yields : (p : Reader A) (C : A → Type 0) → Yields s p.Spells C → Yields s (many p).Spells (AllHave C)
    many_yields p C h = record { each = λ ts xs old spells. many_each p C h xs ts old spells }
