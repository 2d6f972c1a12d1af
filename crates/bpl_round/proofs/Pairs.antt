-- A rule at a source, and the same rule at another one that reads the texts shown of each value as a value alike: one lemma for each form of rule.
use Rattle.std.proofs.Common.{◌≡◌, ℕ, Bool, true, false, List, [], ◌∷◌, ◌++◌, Option, Some, None, ◌⊎◌, is_some, map, refl, sym, ap, subst, ◌∙◌}
use Rattle.std.specs.Prelude.{option_map}
use Rattle.std.specs.List.{flat_map, join_by}
use Rattle.bpl_tok.specs.declared.token.Terminal.{Terminal}
use Rattle.bpl_tok.specs.declared.token.Token.{Token}
use Rattle.bpl_parse.specs.declared.place.Place.{Place}
use Rattle.bpl_parse.specs.Reader.{Reader}
use Rattle.bpl_parse.specs.Tests.{is}
use Rattle.bpl_rules.specs.Rules.{Below, bottom, above, IsOne, one, IsEmpty, seq, made, placed, maybe, AreMany, many, listed, some, behind, ended, separated, nested}
use Rattle.bpl_round.proofs.Again.{IsText, AllHave, Stands, Again, Yields, stand_none, one_again, empty_again, seq_again, made_again, placed_again, good_again, left_again, right_again, seq_yields, made_yields, placed_yields, more_yields, alt_yields, many_yields}

pub record Renders {A : Type 0} (s s' : List ℕ) (Spells Spells' : List Token → A → Type 0) (f : A → List (List ℕ)) (P : A → A → Type 0) : Type 0 where
  pub each : Yields s Spells (λ x. Again s' Spells' (f x) (P x))

-- alike through a view
abbrev pub Like : {A B : Type 0} → (A → B) → A → A → Type 0
Like b x y = b y ≡ b x

abbrev pub maybe_texts : {A : Type 0} → (A → List (List ℕ)) → Option A → List (List ℕ)
maybe_texts f None = []
maybe_texts f (Some x) = f x

abbrev pub flag_texts : List ℕ → Bool → List (List ℕ)
flag_texts w true = w ∷ []
flag_texts w false = []

-- what nests at both, where a level is left at the first
abbrev pub Nests : {A : Type 0} → (Reader A → Reader A → Type 0) → Below Place Token A → Below Place Token A → Type 0
Nests Q bottom b = Unit {0}
Nests Q (above r) bottom = ⊥
Nests Q (above r) (above r') = Q r r'

pub nests_map : {A : Type 0} (Q R : Reader A → Reader A → Type 0) (b b' : Below Place Token A) → ((r r' : Reader A) → Q r r' → R r r') → Nests Q b b' → Nests R b b'
nests_map Q R bottom b' k h = tt
nests_map Q R (above r) bottom k h = absurd h
nests_map Q R (above r) (above r') k h = k r r' h

module _ (s s' : List ℕ) where
  -- reading any number of phrases again
  pub many_reads : {A B : Type 0} (p' : Reader A) (f : A → List (List ℕ)) (b : A → B) (xs : List A) → AllHave (λ x. Again s' p'.Spells (f x) (Like b x)) xs → Again s' (AreMany p') (flat_map f xs) (Like (map b) xs)
  many_reads p' f b [] h = record { spelt = tt; reads = λ ts stand. ([], stand_none s' ts stand, refl) }
  many_reads p' f b (x ∷ xs) h =
      let both = seq_again s' p' (many p') (f x) (flat_map f xs) (Like b x) (Like (map b) xs) h.0 (many_reads p' f b xs h.1) in
      record {
        spelt = both.spelt;
        reads = λ ts stand.
            let (y, spells, good) = both.reads ts stand in
            (y.0 ∷ y.1, record { front = spells.front; back = spells.back; parts = spells.parts; first = spells.first; others = spells.second }, ap (λ w. w ∷ map b y.1) good.0 ∙ ap (λ w. b x ∷ w) good.1);
      }

  pub one_renders : (place : Place) (terminal : Terminal) (w : List ℕ) → IsText terminal w → Renders s s' (IsOne (is terminal)) (IsOne (is terminal)) (λ t. w ∷ []) (λ t u. Unit {0})
  one_renders place terminal w W = record { each = record { each = λ ts t old h. good_again s' (IsOne (is terminal)) (w ∷ []) (Stands s' w) (λ u. Unit {0}) (one_again s' place terminal w W) (λ u k. tt) } }

  module _ {A B : Type 0} where
    pub seq_renders : {p p' : Reader A} {q q' : Reader B} {f : A → List (List ℕ)} {g : B → List (List ℕ)} {P : A → A → Type 0} {Q : B → B → Type 0}
        → Renders s s' p.Spells p'.Spells f P → Renders s s' q.Spells q'.Spells g Q → Renders s s' (seq p q).Spells (seq p' q').Spells (λ x. f x.0 ++ g x.1) (λ x y. P x.0 y.0 × Q x.1 y.1)
    seq_renders {p} {p'} {q} {q'} {f} {g} {P} {Q} h k = record {
      each = more_yields s (seq p q).Spells _ _ (seq_yields s p q _ _ h.each k.each) (λ x c. seq_again s' p' q' (f x.0) (g x.1) (P x.0) (Q x.1) c.0 c.1);
    }

    -- with a function of each source's own
    pub made_each : (h h' : A → B) {p p' : Reader A} {f : A → List (List ℕ)} {P : A → A → Type 0} (g : B → List (List ℕ)) (Q : B → B → Type 0)
        → Renders s s' p.Spells p'.Spells f P → ((x : A) → g (h x) ≡ f x) → ((x y : A) → P x y → Q (h x) (h' y)) → Renders s s' (made h p).Spells (made h' p').Spells g Q
    made_each h h' {p} {p'} {f} {P} g Q k e good = record {
      each = made_yields s h p _ _ k.each (λ x c. made_again s' h' p' (g (h x)) (P x) (Q (h x)) (subst (λ (w : List (List ℕ)). Again s' p'.Spells w (P x)) (sym (e x)) c) (good x));
    }

    pub made_renders : (h : A → B) {p p' : Reader A} {f : A → List (List ℕ)} {P : A → A → Type 0} (g : B → List (List ℕ)) (Q : B → B → Type 0)
        → Renders s s' p.Spells p'.Spells f P → ((x : A) → g (h x) ≡ f x) → ((x y : A) → P x y → Q (h x) (h y)) → Renders s s' (made h p).Spells (made h p').Spells g Q
    made_renders h g Q k e good = made_each h h g Q k e good

    pub placed_renders : (h : Option Token → A → B) {p p' : Reader A} {f : A → List (List ℕ)} {P : A → A → Type 0} (g : B → List (List ℕ)) (Q : B → B → Type 0)
        → Renders s s' p.Spells p'.Spells f P → ((t : Option Token) (x : A) → g (h t x) ≡ f x) → ((t u : Option Token) (x y : A) → P x y → Q (h t x) (h u y)) → Renders s s' (placed h p).Spells (placed h p').Spells g Q
    placed_renders h {p} {p'} {f} {P} g Q k e good = record {
      each = placed_yields s h p _ _ k.each (λ t x c. placed_again s' h p' (g (h t x)) (P x) (Q (h t x)) (subst (λ (w : List (List ℕ)). Again s' p'.Spells w (P x)) (sym (e t x)) c) (λ u y. good t u x y));
    }

  module _ {A : Type 0} where
    pub alt_renders : {S S' T T' : List Token → A → Type 0} {f : A → List (List ℕ)} {P : A → A → Type 0}
        → Renders s s' S S' f P → Renders s s' T T' f P → Renders s s' (λ ts x. S ts x ⊎ T ts x) (λ ts x. S' ts x ⊎ T' ts x) f P
    alt_renders {S} {S'} {T} {T'} {f} {P} h k = record {
      each = alt_yields s S T _ (more_yields s S _ _ h.each (λ x c. left_again s' S' T' (f x) (P x) c)) (more_yields s T _ _ k.each (λ x c. right_again s' S' T' (f x) (P x) c));
    }

    pub more_renders : {S S' : List Token → A → Type 0} {f : A → List (List ℕ)} {P : A → A → Type 0} (g : A → List (List ℕ)) (Q : A → A → Type 0)
        → Renders s s' S S' f P → ((x : A) → g x ≡ f x) → ((x y : A) → P x y → Q x y) → Renders s s' S S' g Q
    more_renders {S} {S'} {f} {P} g Q k e good = record {
      each = more_yields s S _ _ k.each (λ x c. good_again s' S' (g x) (P x) (Q x) (subst (λ (w : List (List ℕ)). Again s' S' w (P x)) (sym (e x)) c) (good x));
    }

    pub behind_renders : (place : Place) (terminal : Terminal) (w : List ℕ) {p p' : Reader A} {f : A → List (List ℕ)} {P : A → A → Type 0}
        → IsText terminal w → Renders s s' p.Spells p'.Spells f P → Renders s s' (behind place (is terminal) p).Spells (behind place (is terminal) p').Spells (λ x. w ∷ f x) P
    behind_renders place terminal w {p} {p'} {f} {P} W k =
        made_renders (λ x. x.1) (λ x. w ∷ f x) P (seq_renders (one_renders place terminal w W) k) (λ x. refl) (λ x y h. h.1)

    pub ended_renders : (place : Place) (terminal : Terminal) (w : List ℕ) {p p' : Reader A} {f : A → List (List ℕ)} {P : A → A → Type 0}
        → Renders s s' p.Spells p'.Spells f P → IsText terminal w → Renders s s' (ended p place (is terminal)).Spells (ended p' place (is terminal)).Spells (λ x. f x ++ w ∷ []) P
    ended_renders place terminal w {p} {p'} {f} {P} k W =
        made_renders (λ x. x.0) (λ x. f x ++ w ∷ []) P (seq_renders k (one_renders place terminal w W)) (λ x. refl) (λ x y h. h.0)

  nothing_again : {A : Type 0} (f : Option A → List (List ℕ)) (P : Option A → Option A → Type 0) → f None ≡ [] → P None None → (x : Option A) → x ≡ None → Again s' (IsEmpty {T = Token} {A = Option A} None) (f x) (P x)
  nothing_again {A} f P e good x is =
      let at_none : Again s' (IsEmpty {T = Token} {A = Option A} None) [] (P None) = good_again s' (IsEmpty {T = Token} {A = Option A} None) [] (λ u. u ≡ None) (P None) (empty_again s' None) (λ u k. subst (P None) (sym k) good) in
      subst (λ (o : Option A). Again s' (IsEmpty {T = Token} {A = Option A} None) (f o) (P o)) (sym is) (subst (λ (w : List (List ℕ)). Again s' (IsEmpty {T = Token} {A = Option A} None) w (P None)) (sym e) at_none)

  -- a token that may stand or not
  pub flag_renders : (place : Place) (terminal : Terminal) (w : List ℕ) → IsText terminal w
      → Renders s s' (made is_some (maybe (one place (is terminal)))).Spells (made is_some (maybe (one place (is terminal)))).Spells (flag_texts w) (Like (λ x. x))
  flag_renders place terminal w W =
      made_renders is_some (flag_texts w) (Like (λ x. x))
      (alt_renders
      (made_renders Some (λ o. flag_texts w (is_some o)) (λ o u. is_some u ≡ is_some o) (one_renders place terminal w W) (λ x. refl) (λ x y h. refl))
      (record { each = record { each = λ ts x old h. nothing_again (λ o. flag_texts w (is_some o)) (λ o u. is_some u ≡ is_some o) refl refl x h.value } }))
      (λ x. refl) (λ x y h. h)

  module _ {A B : Type 0} where
    pub maybe_renders : (b : A → B) {p p' : Reader A} {f : A → List (List ℕ)}
        → Renders s s' p.Spells p'.Spells f (Like b) → Renders s s' (maybe p).Spells (maybe p').Spells (maybe_texts f) (Like (option_map b))
    maybe_renders b {p} {p'} {f} k =
        alt_renders
        (made_renders Some (maybe_texts f) (Like (option_map b)) k (λ x. refl) (λ x y h. ap Some h))
        (record { each = record { each = λ ts x old h. nothing_again (maybe_texts f) (Like (option_map b)) refl refl x h.value } })

    pub many_renders : (b : A → B) {p p' : Reader A} {f : A → List (List ℕ)}
        → Renders s s' p.Spells p'.Spells f (Like b) → Renders s s' (many p).Spells (many p').Spells (flat_map f) (Like (map b))
    many_renders b {p} {p'} {f} k = record { each = more_yields s (many p).Spells _ _ (many_yields s p _ k.each) (λ xs c. many_reads p' f b xs c) }

    pub some_renders : (b : A → B) {p p' : Reader A} {f : A → List (List ℕ)}
        → Renders s s' p.Spells p'.Spells f (Like b) → Renders s s' (some p).Spells (some p').Spells (flat_map f) (Like (map b))
    some_renders b {p} {p'} {f} k =
        made_renders listed (flat_map f) (Like (map b)) (seq_renders k (many_renders b k)) (λ x. refl) (λ x y h. ap (λ w. w ∷ map b y.1) h.0 ∙ ap (λ w. b x.0 ∷ w) h.1)

    pub separated_renders : (place : Place) (terminal : Terminal) (w : List ℕ) (b : A → B) {p p' : Reader A} {f : A → List (List ℕ)}
        → IsText terminal w → Renders s s' p.Spells p'.Spells f (Like b) → Renders s s' (separated place (is terminal) p).Spells (separated place (is terminal) p').Spells (join_by f (w ∷ [])) (Like (map b))
    separated_renders place terminal w b {p} {p'} {f} W k =
        made_renders listed (join_by f (w ∷ [])) (Like (map b)) (seq_renders k (many_renders b (behind_renders place terminal w W k))) (λ x. refl) (λ x y h. ap (λ v. v ∷ map b y.1) h.0 ∙ ap (λ v. b x.0 ∷ v) h.1)

  -- a token, and what nests behind it
  pub nested_renders : {A B C : Type 0} (place : Place) (terminal : Terminal) (w : List ℕ) (goes : Token → Bool) (h : Token × B → C) (after : Reader A → Reader B) (g : B → List (List ℕ)) (Q : B → B → Type 0) (F : C → List (List ℕ)) (R : C → C → Type 0)
      (b b' : Below Place Token A) → IsText terminal w → Nests (λ r r'. Renders s s' (after r).Spells (after r').Spells g Q) b b'
      → ((x : Token × B) → F (h x) ≡ w ∷ g x.1) → ((x y : Token × B) → Q x.1 y.1 → R (h x) (h y))
      → Renders s s' (nested place (is terminal) goes h after b).Spells (nested place (is terminal) goes h after b').Spells F R
  nested_renders place terminal w goes h after g Q F R bottom b' W k e good = record { each = record { each = λ ts x old no_phrase. absurd no_phrase } }
  nested_renders place terminal w goes h after g Q F R (above r) bottom W k e good = absurd k
  nested_renders place terminal w goes h after g Q F R (above r) (above r') W k e good = made_renders h F R (seq_renders (one_renders place terminal w W) k) e (λ x y m. good x y m.1)
