-- Names, attributes and sorts: what was read is printed so that it reads again as a value alike.
use Rattle.std.proofs.Common.{◌≡◌, ℕ, List, [], ◌∷◌, ◌++◌, map, ◌⊎◌, inl, inr, sym, ap, ◌∙◌, codes, rules}
use Rattle.std.specs.List.{flat_map}
use Rattle.bpl_ast.specs.Alike.{bare_name, bare_lexeme, bare_attribute, bare_sort}
use Rattle.bpl_ast.specs.declared.name.Attribute.{Attribute}
use Rattle.bpl_ast.specs.declared.name.Lexeme.{Lexeme}
use Rattle.bpl_ast.specs.declared.name.Name.{Name}
use Rattle.bpl_ast.specs.declared.sort.Sort.{Sort}
use Rattle.bpl_ast.specs.declared.sort.Sort.TheFolds.{the_lemmas}
use Rattle.bpl_ast.specs.declared.sort.Sort.TheVariants as sorts
use Rattle.bpl_tok.specs.declared.token.Terminal.TheVariants as k
use Rattle.bpl_tok.specs.declared.token.Token.{Token}
use Rattle.bpl_parse.specs.declared.place.Place.{Place}
use Rattle.bpl_parse.specs.declared.place.Place.TheVariants as at
use Rattle.bpl_parse.specs.Names.{names, attribute_of, attribute, attributes}
use Rattle.bpl_parse.specs.Reader.{Reader, Levels, text_of, name_of, as_sort}
use Rattle.bpl_parse.specs.Sorts.{width_of, boolean, vector, named_sort, map_of, after_map, map_sort, after_sort_group, sort_group, unnamed_sort, sort}
use Rattle.bpl_parse.specs.Tests.{is}
use Rattle.bpl_rules.specs.Rules.{Below, bottom, above, one, seq, never, nested}
use Rattle.bpl_show.proofs.Equations.{sort-boolean, sort-bits, sort-named, sort-map}
use Rattle.bpl_show.specs.Names as show
use Rattle.bpl_show.specs.Tokens as shown
use Rattle.bpl_round.proofs.Again.{Again, Yields, turned_again, one_yields, seq_yields, made_yields, more_yields}
use Rattle.bpl_round.proofs.Joined.{texts}
use Rattle.bpl_round.proofs.Known.{left_brace, right_brace, left_bracket, right_bracket, colon, comma, bool_word}
use Rattle.bpl_round.proofs.Old.{same_is, old_renders, name_renders, lexeme_renders}
use Rattle.bpl_round.proofs.Pairs.{Renders, Like, Nests, nests_map, one_renders, seq_renders, made_each, made_renders, more_renders, behind_renders, ended_renders, many_renders, separated_renders, nested_renders}
use Rattle.bpl_round.proofs.Texts.{texts_flat, texts_join, texts_4, texts_5}

pub ap2 : {A B C : Type 0} (f : A → B → C) {a c : A} {b d : B} → a ≡ c → b ≡ d → f a b ≡ f c d
ap2 f {a} {c} {b} {d} e g = ap (λ x. f x b) e ∙ ap (f c) g

pub ap3 : {A B C D : Type 0} (f : A → B → C → D) {a a' : A} {b b' : B} {c c' : C} → a ≡ a' → b ≡ b' → c ≡ c' → f a b c ≡ f a' b' c'
ap3 f {a} {a'} {b} {b'} {c} {c'} e g h = ap (λ x. f x b c) e ∙ ap2 (f a') g h

pub ap4 : {A B C D E : Type 0} (f : A → B → C → D → E) {a a' : A} {b b' : B} {c c' : C} {d d' : D} → a ≡ a' → b ≡ b' → c ≡ c' → d ≡ d' → f a b c d ≡ f a' b' c' d'
ap4 f {a} {a'} {b} {b'} {c} {c'} {d} {d'} e g h i = ap (λ x. f x b c d) e ∙ ap3 (f a') g h i

pub ap5 : {A B C D E F : Type 0} (f : A → B → C → D → E → F) {a a' : A} {b b' : B} {c c' : C} {d d' : D} {x x' : E} → a ≡ a' → b ≡ b' → c ≡ c' → d ≡ d' → x ≡ x' → f a b c d x ≡ f a' b' c' d' x'
ap5 f {a} {a'} {b} {b'} {c} {c'} {d} {d'} {x} {x'} e g h i j = ap (λ y. f y b c d x) e ∙ ap4 (f a') g h i j

-- phrases of another rule too
pub turned_renders : {A : Type 0} (s s' : List ℕ) (S S' T' : List Token → A → Type 0) (f : A → List (List ℕ)) (P : A → A → Type 0) → ((ts : List Token) (y : A) → S' ts y → T' ts y) → Renders s s' S S' f P → Renders s s' S T' f P
turned_renders s s' S S' T' f P turn h = record { each = more_yields s S _ _ h.each (λ x c. turned_again s' S' T' (f x) (P x) c (λ ts y spells good. turn ts y spells)) }

-- ---- names and attributes

abbrev pub attribute_with : Name → List Lexeme → Attribute
attribute_with n ls = record { at = 0; name = n; tokens = ls }

module _ (s s' : List ℕ) where
  pub names_render : Renders s s' (names s).Spells (names s').Spells (λ ns. texts (show.names ns)) (Like (map bare_name))
  unfolding names
  names_render = more_renders s s' (λ ns. texts (show.names ns)) (Like (map bare_name)) (separated_renders s s' at.Other k.Comma (codes ",") bare_name comma (name_renders s s' at.Other)) (λ ns. texts_join show.name (codes ",") ns) (λ x y h. h)

  attribute_texts : (x : Token × (Name × List Lexeme)) → texts (show.attribute (attribute_of x)) ≡ codes "{" ∷ codes ":" ∷ x.1.0.text ∷ (flat_map (λ l. l.text ∷ []) x.1.1 ++ codes "}" ∷ [])
  attribute_texts x = texts_5 (shown.word (codes "{")) (shown.word (codes ":")) (show.name x.1.0) (flat_map show.lexeme x.1.1) (shown.word (codes "}")) ∙ ap (λ ws. codes "{" ∷ codes ":" ∷ x.1.0.text ∷ (ws ++ codes "}" ∷ [])) (texts_flat show.lexeme x.1.1)

  attribute_renders : Renders s s' (attribute s).Spells (attribute s').Spells (λ a. texts (show.attribute a)) (Like bare_attribute)
  unfolding attribute
  attribute_renders = made_renders s s' attribute_of (λ a. texts (show.attribute a)) (Like bare_attribute)
      (seq_renders s s' (one_renders s s' at.Other k.LeftBrace (codes "{") left_brace) (behind_renders s s' at.Other k.Colon (codes ":") colon (seq_renders s s' (name_renders s s' at.Other) (ended_renders s s' at.Other k.RightBrace (codes "}") (many_renders s s' bare_lexeme (lexeme_renders s s')) right_brace))))
      attribute_texts (λ x y h. ap2 attribute_with h.1.0 h.1.1)

  pub attributes_render : Renders s s' (attributes s).Spells (attributes s').Spells (λ xs. texts (show.attributes xs)) (Like (map bare_attribute))
  unfolding attributes
  attributes_render = more_renders s s' (λ xs. texts (show.attributes xs)) (Like (map bare_attribute)) (many_renders s s' bare_attribute attribute_renders) (λ xs. texts_flat show.attribute xs) (λ x y h. h)

-- ---- sorts

bare-boolean : (at : ℕ) → bare_sort (sorts.Boolean at) ≡ sorts.Boolean 0
unfolding bare_sort
bare-boolean at = search (rules, the_lemmas)

bare-bits : (at width : ℕ) (text : List ℕ) → bare_sort (sorts.Bits at width text) ≡ sorts.Bits 0 width text
unfolding bare_sort
bare-bits at width text = search (rules, the_lemmas)

pub bare-named : (n : Name) → bare_sort (sorts.Named n) ≡ sorts.Named (bare_name n)
unfolding bare_sort
bare-named n = search (rules, the_lemmas)

bare-map : (at : ℕ) (x y : Sort) → bare_sort (sorts.Map at x y) ≡ sorts.Map 0 (bare_sort x) (bare_sort y)
unfolding bare_sort
bare-map at x y = search (rules, the_lemmas)

abbrev pub sort_texts : Sort → List (List ℕ)
sort_texts x = texts (show.sort x)

pub record SortInside (s' : List ℕ) (r' : Reader Sort) (l' : Levels) (x : Sort) : Type 0 where
  pub inside : Again s' r'.Spells (sort_texts x) (Like bare_sort x)
  pub here : Again s' (sort s' l').Spells (sort_texts x) (Like bare_sort x)

abbrev pub SortsNest : List ℕ → List ℕ → Levels → Below Place Token Sort → Below Place Token Sort → Type 0
SortsNest s s' l' b b' = Nests (λ r r'. Yields s r.Spells (SortInside s' r' l')) b b'

module _ (s s' : List ℕ) where
  boolean_renders : Renders s s' boolean.Spells boolean.Spells sort_texts (Like bare_sort)
  boolean_renders = made_renders s s' (λ t. sorts.Boolean t.at) sort_texts (Like bare_sort) (one_renders s s' at.Sort k.BoolWord (codes "bool") bool_word) (λ t. ap texts (sort-boolean t.at)) (λ t u h. bare-boolean u.at ∙ sym (bare-boolean t.at))

  vector_renders : Renders s s' (vector s).Spells (vector s').Spells sort_texts (Like bare_sort)
  vector_renders = made_each s s' (λ t. sorts.Bits t.at (width_of t.kind) (text_of s t)) (λ t. sorts.Bits t.at (width_of t.kind) (text_of s' t)) sort_texts (Like bare_sort) (old_renders s s' (is k.Width) (same_is k.Width))
      (λ t. ap texts (sort-bits t.at (width_of t.kind) (text_of s t)))
      (λ t u h. bare-bits u.at (width_of u.kind) (text_of s' u) ∙ ap2 (λ kind text. sorts.Bits 0 (width_of kind) text) h.0 h.1 ∙ sym (bare-bits t.at (width_of t.kind) (text_of s t)))

  named_sort_renders : Renders s s' (named_sort s).Spells (named_sort s').Spells sort_texts (Like bare_sort)
  named_sort_renders = made_each s s' (λ t. sorts.Named (name_of s t)) (λ t. sorts.Named (name_of s' t)) sort_texts (Like bare_sort) (old_renders s s' (is k.Ident) (same_is k.Ident))
      (λ t. ap texts (sort-named (name_of s t)))
      (λ t u h. bare-named (name_of s' u) ∙ ap (λ text. sorts.Named (record { at = 0; text = text })) h.1 ∙ sym (bare-named (name_of s t)))

  sort_parts : (b b' : Below Place Token Sort) (l' : Levels) → SortsNest s s' l' b b' → Nests (λ r r'. Renders s s' (after_map r).Spells (after_map r').Spells (λ x. sort_texts x.0 ++ codes "]" ∷ sort_texts x.1) (λ x y. Like bare_sort x.0 y.0 × Like bare_sort x.1 y.1)) b b'
  sort_parts b b' l' h = nests_map (λ r r'. Yields s r.Spells (SortInside s' r' l')) (λ r r'. Renders s s' (after_map r).Spells (after_map r').Spells (λ x. sort_texts x.0 ++ codes "]" ∷ sort_texts x.1) (λ x y. Like bare_sort x.0 y.0 × Like bare_sort x.1 y.1)) b b'
      (λ r r' y. let inner : Renders s s' r.Spells r'.Spells sort_texts (Like bare_sort) = record { each = more_yields s r.Spells _ _ y (λ x i. i.inside) } in
      seq_renders s s' inner (behind_renders s s' at.AfterIndexSort k.RightBracket (codes "]") right_bracket inner)) h

  map_sort_renders : (l l' : Levels) → SortsNest s s' l' l.sorts l'.sorts → Renders s s' (map_sort l).Spells (map_sort l').Spells sort_texts (Like bare_sort)
  unfolding map_sort
  map_sort_renders l l' h = nested_renders s s' at.Sort k.LeftBracket (codes "[") never map_of after_map (λ x. sort_texts x.0 ++ codes "]" ∷ sort_texts x.1) (λ x y. Like bare_sort x.0 y.0 × Like bare_sort x.1 y.1) sort_texts (Like bare_sort) l.sorts l'.sorts left_bracket (sort_parts l.sorts l'.sorts l' h)
      (λ x. ap texts (sort-map x.0.at x.1.0 x.1.1) ∙ texts_4 (shown.word (codes "[")) (show.sort x.1.0) (shown.word (codes "]")) (show.sort x.1.1))
      (λ x y m. bare-map y.0.at y.1.0 y.1.1 ∙ ap2 (sorts.Map 0) m.0 m.1 ∙ sym (bare-map x.0.at x.1.0 x.1.1))

  -- parentheses are left out
  sort_group_renders : (l' : Levels) (b b' : Below Place Token Sort) → SortsNest s s' l' b b' → Renders s s' (nested at.Sort (is k.LeftParen) never (λ x. x.1) after_sort_group b).Spells (sort s' l').Spells sort_texts (Like bare_sort)
  sort_group_renders l' bottom b' h = record { each = record { each = λ ts x old no_phrase. absurd no_phrase } }
  sort_group_renders l' (above r) bottom h = absurd h
  sort_group_renders l' (above r) (above r') h = record {
    each = made_yields s (λ x. x.1) (seq (one at.Sort (is k.LeftParen)) (after_sort_group r)) _ _
        (seq_yields s (one at.Sort (is k.LeftParen)) (after_sort_group r) _ (SortInside s' r' l') (one_yields s (is k.LeftParen))
        (made_yields s (λ x. x.0) (seq (as_sort r) (one at.AfterSort (is k.RightParen))) _ _ (seq_yields s (as_sort r) (one at.AfterSort (is k.RightParen)) _ _ h (one_yields s (is k.RightParen))) (λ x c. c.0)))
        (λ x c. c.1.here);
  }

  module _ (l l' : Levels) (L : SortsNest s s' l' l.sorts l'.sorts) where
    boolean_sort : (ts : List Token) (y : Sort) → boolean.Spells ts y → (sort s' l').Spells ts y
    unfolding sort unnamed_sort
    boolean_sort ts y h = inr (inl h)

    vector_sort : (ts : List Token) (y : Sort) → (vector s').Spells ts y → (sort s' l').Spells ts y
    unfolding sort unnamed_sort
    vector_sort ts y h = inr (inr (inl h))

    mapped_sort : (ts : List Token) (y : Sort) → (map_sort l').Spells ts y → (sort s' l').Spells ts y
    unfolding sort unnamed_sort
    mapped_sort ts y h = inr (inr (inr (inl h)))

    name_sort : (ts : List Token) (y : Sort) → (named_sort s').Spells ts y → (sort s' l').Spells ts y
    unfolding sort
    name_sort ts y h = inl h

    -- a sort in parentheses may be a name
    pub unnamed_sort_renders : Renders s s' (unnamed_sort s l).Spells (sort s' l').Spells sort_texts (Like bare_sort)
    unfolding unnamed_sort sort_group
    unnamed_sort_renders =
        record {
          each = (alt_sorts (turned_renders s s' boolean.Spells boolean.Spells (sort s' l').Spells sort_texts (Like bare_sort) boolean_sort boolean_renders)
              (alt_sorts (turned_renders s s' (vector s).Spells (vector s').Spells (sort s' l').Spells sort_texts (Like bare_sort) vector_sort vector_renders)
              (alt_sorts (turned_renders s s' (map_sort l).Spells (map_sort l').Spells (sort s' l').Spells sort_texts (Like bare_sort) mapped_sort (map_sort_renders l l' L)) (sort_group_renders l' l.sorts l'.sorts L)))).each;
        }
      where
        alt_sorts : {S T : List Token → Sort → Type 0} → Renders s s' S (sort s' l').Spells sort_texts (Like bare_sort) → Renders s s' T (sort s' l').Spells sort_texts (Like bare_sort) → Renders s s' (λ ts x. S ts x ⊎ T ts x) (sort s' l').Spells sort_texts (Like bare_sort)
        alt_sorts h g = record { each = record { each = λ ts x old spells. elim spells [ inl a ↦ h.each.each ts x old a | inr b ↦ g.each.each ts x old b ] } }

    pub sort_renders : Renders s s' (sort s l).Spells (sort s' l').Spells sort_texts (Like bare_sort)
    unfolding sort
    sort_renders = record {
      each = record {
        each = λ ts x old spells. elim spells [
          | inl a ↦ (turned_renders s s' (named_sort s).Spells (named_sort s').Spells (sort s' l').Spells sort_texts (Like bare_sort) name_sort named_sort_renders).each.each ts x old a
          | inr b ↦ unnamed_sort_renders.each.each ts x old b
        ];
      };
    }
