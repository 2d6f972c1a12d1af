-- What was read as an expression is printed so that it reads again as an expression alike, at each rule of expressions.
use Rattle.std.proofs.Common.{◌≡◌, ℕ, ◌^◌, ◌<◌, ◌≤◌, true, List, [], ◌∷◌, ◌++◌, map, Option, None, Some, inl, inr, refl, sym, ap, subst, ◌∙◌, arith, codes}
use Rattle.std.specs.Prelude.{option_map}
use Rattle.std.specs.Fmt.{decimal}
use Rattle.std.specs.List.{join_by}
use Rattle.std.proofs.Math.Pow.{pow_mono}
use Rattle.bpl_ast.specs.Alike.{alone, whole, spine, bare_bracket, bare_name}
use Rattle.bpl_ast.specs.declared.expr.Bracket.{Bracket}
use Rattle.bpl_ast.specs.declared.expr.Bracket.TheVariants.{Select, Store, Extract}
use Rattle.bpl_ast.specs.declared.expr.Expr.{Expr}
use Rattle.bpl_ast.specs.declared.expr.Expr.TheVariants as e
use Rattle.bpl_ast.specs.declared.name.Name.{Name}
use Rattle.bpl_tok.specs.declared.token.Terminal.TheVariants as k
use Rattle.bpl_tok.specs.declared.token.TokKind.{TokKind}
use Rattle.bpl_tok.specs.declared.token.TokKind.TheVariants.{Number, BvLit}
use Rattle.bpl_tok.specs.declared.token.Token.{Token}
use Rattle.bpl_parse.specs.declared.place.Place.{Place}
use Rattle.bpl_parse.specs.declared.place.Place.TheVariants as at
use Rattle.bpl_parse.specs.Exprs.{after_arguments, arguments, literal_of, number_of, truth, falsehood, literal, after_group, group, named_expr, named_of, named, atom, bits_of, bit_range, after_index, indexed, after_bracket, suffix, index_of, post, expr}
use Rattle.bpl_parse.specs.Names.{name}
use Rattle.bpl_parse.specs.Reader.{Reader, Levels, as_expr}
use Rattle.bpl_parse.specs.Tests.{is}
use Rattle.bpl_rules.specs.Rules.{Below, bottom, above, one, AreTwo, two, seq, made, maybe, never, ended, nested}
use Rattle.bpl_show.proofs.Equations.{expr-true, expr-false, expr-literal, expr-variable, expr-apply, bracket-select, bracket-store, bracket-extract}
use Rattle.bpl_show.specs.declared.phrase.Phrase.{Phrase}
use Rattle.bpl_show.specs.declared.phrase.Phrase.TheVariants.{Implication, Unary, Operand}
use Rattle.bpl_show.specs.Exprs as show
use Rattle.bpl_show.specs.Names as names
use Rattle.bpl_show.specs.Tokens as shown
use Rattle.bpl_round.proofs.Again.{spelt_kind, spelt_text, IsText, Stands, AllStand, Again, IsOld, AreOld, Yields, stands_is, one_again, seq_again, made_again, good_again, turned_again, one_yields, seq_yields, made_yields, more_yields, alt_yields}
use Rattle.bpl_round.proofs.Fits.{naked, at_place, Same, Fits, Node, node_turned, node_fits}
use Rattle.bpl_round.proofs.Joined.{texts}
use Rattle.bpl_round.proofs.Known.{true_word, false_word, left_paren, right_paren, left_bracket, right_bracket, comma, colon, assign, number_spelt, literal_spelt}
use Rattle.bpl_round.proofs.Old.{HasNumber, name_renders, old_number, old_literal}
use Rattle.bpl_round.proofs.Pairs.{Renders, Like, Nests, maybe_texts, nests_map, one_renders, made_renders, alt_renders, behind_renders, ended_renders, maybe_renders, separated_renders, nested_renders}
use Rattle.bpl_round.proofs.Phrases.{of_atom}
use Rattle.bpl_round.proofs.Texts.{texts_append, texts_join, texts_4}
use Rattle.bpl_show.specs.Exprs.{kind as phrase}
use Rattle.bpl_show.proofs.KindLaws.{kind-true, kind-false, kind-literal, kind-variable, kind-apply}
use Rattle.bpl_round.proofs.Trees.{spine-true, spine-false, spine-literal, spine-variable, spine-apply, bare-select, bare-store}

-- a node by its texts
pub node : (s' : List ℕ) (S : List Token → Expr → Type 0) (x : Expr) (own : Phrase) (tokens : List shown.Token) (ws : List (List ℕ)) → texts tokens ≡ ws → phrase x ≡ own → ((place : Phrase) → show.expr x place ≡ show.placed own place tokens)
    → Again s' S ws (λ y. (spine y ≡ spine x) × (phrase y ≡ own)) → Node s' S x own
node s' S x own tokens ws is is_own shows again = record {
  tokens = tokens;
  is_own = is_own;
  shows = shows;
  again = subst (λ (w : List (List ℕ)). Again s' S w (λ y. (spine y ≡ spine x) × (phrase y ≡ own))) (sym is) again;
}

-- ---- what nests in an expression

pub record Inside (s' : List ℕ) (r' : Reader Expr) (l' : Levels) (x : Expr) : Type 0 where
  pub shows : (place : Phrase) → texts (show.expr x place) ≡ at_place (phrase x) place (naked x)
  pub inside : Again s' r'.Spells (naked x) (Same x)
  pub here : Again s' (expr s' l').Spells (naked x) (Same x)

pub record ExprsAgain (s s' : List ℕ) (l l' : Levels) : Type 0 where
  pub exprs : Nests (λ r r'. Yields s r.Spells (Inside s' r' l')) l.exprs l'.exprs
  pub impls : Nests (λ r r'. Renders s s' r.Spells r'.Spells (λ x. texts (show.expr x Implication)) (Like spine)) l.impls l'.impls
  pub unaries : Nests (λ r r'. Renders s s' r.Spells r'.Spells (λ x. texts (show.expr x Unary)) (Like spine)) l.unaries l'.unaries

-- what was read at the rule fits at the kind of phrase
abbrev pub Reads : List ℕ → List ℕ → Levels → Reader Expr → Phrase → Type 0
Reads s s' l' r asked = Yields s r.Spells (λ x. Fits s' l' l'.exprs x asked)

-- a list of arguments, with its parentheses
abbrev pub argument_texts : List Expr → List (List ℕ)
argument_texts xs = codes "(" ∷ (join_by naked (codes "," ∷ []) xs ++ codes ")" ∷ [])

two_stand : (s : List ℕ) (a b : List ℕ) (ts : List Token) → IsText k.Number a → IsText k.Colon b → AllStand s (a ∷ b ∷ []) ts → (v : Token × Token) × AreTwo (is k.Number) (is k.Colon) ts v × Stands s a v.0
two_stand s a b [] A B h = absurd h
two_stand s a b (t ∷ []) A B h = absurd h.1
two_stand s a b (t ∷ u ∷ []) A B h = ((t, u), record { alone = refl; first = stands_is s k.Number a t A h.0; second = stands_is s k.Colon b u B h.1.0 }, h.0)
two_stand s a b (t ∷ u ∷ w ∷ ts) A B h = absurd h.1.1

old_two : (s : List ℕ) (ts : List Token) (v : Token × Token) → ts ≡ v.0 ∷ v.1 ∷ [] → AreOld s ts → IsOld s v.0
old_two s ts v e h = (subst (λ (x : List Token). AreOld s x) e h).0

two_yields : (s : List ℕ) → Yields s (AreTwo (is k.Number) (is k.Colon)) (λ v. IsOld s v.0 × (is k.Number v.0 ≡ true))
two_yields s = record { each = λ ts v old h. (old_two s ts v h.alone old, h.first) }

-- any text of a bracket, whose first token is the bracket
pub record Bracketed (s' : List ℕ) (S : List Token → Bracket → Type 0) (x : Bracket) : Type 0 where
  pub rest : List (List ℕ)
  pub shows : texts (show.bracket x) ≡ codes "[" ∷ rest
  pub again : Again s' S rest (Like bare_bracket x)

-- what stands after an index
abbrev pub index_texts : Option Expr → List (List ℕ)
index_texts None = codes "]" ∷ []
index_texts (Some x) = codes ":=" ∷ (naked x ++ codes "]" ∷ [])

module _ (s s' : List ℕ) where
  -- ---- arguments

  pub after_arguments_renders : (r r' : Reader Expr) → Renders s s' r.Spells r'.Spells naked (Like spine) → Renders s s' (after_arguments r).Spells (after_arguments r').Spells (λ xs. join_by naked (codes "," ∷ []) xs ++ codes ")" ∷ []) (Like (map spine))
  after_arguments_renders r r' y =
      alt_renders s s'
      (made_renders s s' (λ t. []) (λ xs. join_by naked (codes "," ∷ []) xs ++ codes ")" ∷ []) (Like (map spine)) (one_renders s s' at.Operand k.RightParen (codes ")") right_paren) (λ x. refl) (λ x z h. refl))
      (ended_renders s s' at.AfterOperand k.RightParen (codes ")") (separated_renders s s' at.AfterOperand k.Comma (codes ",") spine comma y) right_paren)

  -- ---- atoms

  true_node : (place : ℕ) → Node s' truth.Spells (e.True place) Operand
  true_node place = node s' truth.Spells (e.True place) Operand (shown.word (codes "true")) (codes "true" ∷ []) refl (kind-true place) (expr-true place)
      (made_again s' (λ t. e.True t.at) (one at.Operand (is k.True)) (codes "true" ∷ []) (Stands s' (codes "true")) (λ y. (spine y ≡ spine (e.True place)) × (phrase y ≡ Operand)) (one_again s' at.Operand k.True (codes "true") true_word) (λ t h. (spine-true t.at ∙ sym (spine-true place), kind-true t.at)))

  false_node : (place : ℕ) → Node s' falsehood.Spells (e.False place) Operand
  false_node place = node s' falsehood.Spells (e.False place) Operand (shown.word (codes "false")) (codes "false" ∷ []) refl (kind-false place) (expr-false place)
      (made_again s' (λ t. e.False t.at) (one at.Operand (is k.False)) (codes "false" ∷ []) (Stands s' (codes "false")) (λ y. (spine y ≡ spine (e.False place)) × (phrase y ≡ Operand)) (one_again s' at.Operand k.False (codes "false") false_word) (λ t h. (spine-false t.at ∙ sym (spine-false place), kind-false t.at)))

  literal_good : (place place' width bits : ℕ) (kind : TokKind) → kind ≡ BvLit width bits → (spine (literal_of place' kind) ≡ spine (e.Literal place width bits)) × (phrase (literal_of place' kind) ≡ Operand)
  literal_good place place' width bits kind is =
      subst (λ (x : TokKind). (spine (literal_of place' x) ≡ spine (e.Literal place width bits)) × (phrase (literal_of place' x) ≡ Operand)) (sym is) (spine-literal place' width bits ∙ sym (spine-literal place width bits), kind-literal place' width bits)

  literal_node : (place width bits : ℕ) → 1 ≤ width → width ≤ 64 → bits < 2 ^ width → Node s' literal.Spells (e.Literal place width bits) Operand
  literal_node place width bits least most lt =
      let small : bits < 2 ^ 64 = (let up : 2 ^ width ≤ 2 ^ 64 = pow_mono most in omega arith) in
      let spelt = literal_spelt width bits least most small lt in
      node s' literal.Spells (e.Literal place width bits) Operand (shown.word (show.literal width bits)) (show.literal width bits ∷ []) refl (kind-literal place width bits) (expr-literal place width bits)
      (made_again s' (λ t. literal_of t.at t.kind) (one at.Operand (is k.Literal)) (show.literal width bits ∷ []) (Stands s' (show.literal width bits)) (λ y. (spine y ≡ spine (e.Literal place width bits)) × (phrase y ≡ Operand))
      (one_again s' at.Operand k.Literal (show.literal width bits) (spelt_text (BvLit width bits) (show.literal width bits) spelt))
      (λ t h. literal_good place t.at width bits t.kind (h.kind ∙ spelt_kind (BvLit width bits) (show.literal width bits) spelt)))

  literal_found : (t : Token) → IsOld s t → is k.Literal t ≡ true → Node s' literal.Spells (literal_of t.at t.kind) Operand
  literal_found t old h =
      let found = old_literal s t old h in
      subst (λ (x : TokKind). Node s' literal.Spells (literal_of t.at x) Operand) (sym found.is_literal) (literal_node t.at found.width found.bits found.least found.most found.fits)

  truth_yields : Yields s truth.Spells (λ x. Node s' truth.Spells x Operand)
  truth_yields = made_yields s (λ t. e.True t.at) (one at.Operand (is k.True)) _ _ (one_yields s (is k.True)) (λ t c. true_node t.at)

  falsehood_yields : Yields s falsehood.Spells (λ x. Node s' falsehood.Spells x Operand)
  falsehood_yields = made_yields s (λ t. e.False t.at) (one at.Operand (is k.False)) _ _ (one_yields s (is k.False)) (λ t c. false_node t.at)

  literal_yields : Yields s literal.Spells (λ x. Node s' literal.Spells x Operand)
  literal_yields = made_yields s (λ t. literal_of t.at t.kind) (one at.Operand (is k.Literal)) _ _ (one_yields s (is k.Literal)) (λ t c. literal_found t c.0 c.1)

  -- ---- brackets

  extract_good : (high low : ℕ) (a b : TokKind) → a ≡ Number high → b ≡ Number low → bare_bracket (Extract (number_of a) (number_of b)) ≡ bare_bracket (Extract high low)
  extract_good high low a b is_high is_low = ap (λ x. bare_bracket (Extract (number_of x) (number_of b))) is_high ∙ ap (λ x. bare_bracket (Extract high (number_of x))) is_low

  extract_again : (high low : ℕ) → high < 2 ^ 128 → low < 2 ^ 128 → Bracketed s' bit_range.Spells (Extract high low)
  extract_again high low fits_high fits_low =
      let a = number_spelt high fits_high in
      let b = number_spelt low fits_low in
      let A = spelt_text (Number high) (decimal high) a in
      let B = spelt_text (Number low) (decimal low) b in
      let front : Again s' (two at.Operand (is k.Number) (is k.Colon)).Spells (decimal high ∷ codes ":" ∷ []) (λ v. Stands s' (decimal high) v.0) =
      record { spelt = (A.spelt, (colon.spelt, tt)); reads = λ ts stand. two_stand s' (decimal high) (codes ":") ts A colon stand } in
      let back : Again s' (ended (one at.Other (is k.Number)) at.Other (is k.RightBracket)).Spells (decimal low ∷ codes "]" ∷ []) (Stands s' (decimal low)) =
      made_again s' (λ x. x.0) (seq (one at.Other (is k.Number)) (one at.Other (is k.RightBracket))) (decimal low ∷ codes "]" ∷ []) (λ x. Stands s' (decimal low) x.0 × Stands s' (codes "]") x.1) (Stands s' (decimal low))
      (seq_again s' (one at.Other (is k.Number)) (one at.Other (is k.RightBracket)) (decimal low ∷ []) (codes "]" ∷ []) (Stands s' (decimal low)) (Stands s' (codes "]")) (one_again s' at.Other k.Number (decimal low) B) (one_again s' at.Other k.RightBracket (codes "]") right_bracket)) (λ x p. p.0) in
      record {
        rest = decimal high ∷ codes ":" ∷ decimal low ∷ codes "]" ∷ [];
        shows = ap texts (bracket-extract high low);
        again = made_again s' bits_of (seq (two at.Operand (is k.Number) (is k.Colon)) (ended (one at.Other (is k.Number)) at.Other (is k.RightBracket))) (decimal high ∷ codes ":" ∷ decimal low ∷ codes "]" ∷ []) (λ x. Stands s' (decimal high) x.0.0 × Stands s' (decimal low) x.1) (Like bare_bracket (Extract high low))
            (seq_again s' (two at.Operand (is k.Number) (is k.Colon)) (ended (one at.Other (is k.Number)) at.Other (is k.RightBracket)) (decimal high ∷ codes ":" ∷ []) (decimal low ∷ codes "]" ∷ []) (λ v. Stands s' (decimal high) v.0) (Stands s' (decimal low)) front back)
            (λ x p. extract_good high low x.0.0.kind x.1.kind (p.0.kind ∙ spelt_kind (Number high) (decimal high) a) (p.1.kind ∙ spelt_kind (Number low) (decimal low) b));
      }

  extract_found : (t u : TokKind) → HasNumber t → HasNumber u → Bracketed s' bit_range.Spells (Extract (number_of t) (number_of u))
  extract_found t u a b =
      subst (λ (x : TokKind). Bracketed s' bit_range.Spells (Extract (number_of x) (number_of u))) (sym a.is_number)
      (subst (λ (x : TokKind). Bracketed s' bit_range.Spells (Extract a.value (number_of x))) (sym b.is_number) (extract_again a.value b.value a.fits b.fits))

  bit_range_yields : Yields s bit_range.Spells (Bracketed s' bit_range.Spells)
  bit_range_yields =
      made_yields s bits_of (seq (two at.Operand (is k.Number) (is k.Colon)) (ended (one at.Other (is k.Number)) at.Other (is k.RightBracket))) _ _
      (seq_yields s (two at.Operand (is k.Number) (is k.Colon)) (ended (one at.Other (is k.Number)) at.Other (is k.RightBracket)) _ (λ u. IsOld s u × (is k.Number u ≡ true)) (two_yields s)
      (made_yields s (λ x. x.0) (seq (one at.Other (is k.Number)) (one at.Other (is k.RightBracket))) _ _ (seq_yields s (one at.Other (is k.Number)) (one at.Other (is k.RightBracket)) _ _ (one_yields s (is k.Number)) (one_yields s (is k.RightBracket))) (λ x c. c.0)))
      (λ x c. extract_found x.0.0.kind x.1.kind (old_number s x.0.0 c.0.0 c.0.1) (old_number s x.1 c.1.0 c.1.1))

  module _ (r r' : Reader Expr) (y : Renders s s' r.Spells r'.Spells naked (Like spine)) where
    after_index_renders : Renders s s' (after_index r).Spells (after_index r').Spells index_texts (Like (option_map spine))
    after_index_renders =
        alt_renders s s'
        (made_renders s s' (λ t. None) index_texts (Like (option_map spine)) (one_renders s s' at.AfterIndex k.RightBracket (codes "]") right_bracket) (λ x. refl) (λ x z h. refl))
        (made_renders s s' Some index_texts (Like (option_map spine)) (behind_renders s s' at.AfterIndex k.Assign (codes ":=") assign (ended_renders s s' at.AfterOperand k.RightBracket (codes "]") y right_bracket)) (λ x. refl) (λ x z h. ap Some h))

    select_good : (i j : Expr) (o : Option Expr) → spine j ≡ spine i → option_map spine o ≡ None → bare_bracket (index_of (j, o)) ≡ bare_bracket (Select i)
    select_good i j None h g = bare-select j ∙ ap (λ x. Select (whole x)) h ∙ sym (bare-select i)
    select_good i j (Some v) h g = absurd cc

    store_good : (i v j : Expr) (o : Option Expr) → spine j ≡ spine i → option_map spine o ≡ Some (spine v) → bare_bracket (index_of (j, o)) ≡ bare_bracket (Store i v)
    store_good i v j None h g = absurd cc
    store_good i v j (Some w) h g =
        let is : spine w ≡ spine v = cc in
        bare-store j w ∙ ap (λ x. Store (whole x) (whole (spine w))) h ∙ ap (λ x. Store (whole (spine i)) (whole x)) is ∙ sym (bare-store i v)

    index_found : (i : Expr) (o : Option Expr) → Again s' r'.Spells (naked i) (Like spine i) → Again s' (after_index r').Spells (index_texts o) (Like (option_map spine) o) → Bracketed s' (indexed r').Spells (index_of (i, o))
    index_found i None h g = record {
      rest = naked i ++ codes "]" ∷ [];
      shows = ap texts (bracket-select i) ∙ ap (λ ws. codes "[" ∷ ws) (texts_append (show.whole i) (shown.word (codes "]")));
      again = made_again s' index_of (seq (as_expr r') (after_index r')) (naked i ++ codes "]" ∷ []) (λ x. Like spine i x.0 × Like (option_map spine) None x.1) (Like bare_bracket (Select i))
          (seq_again s' (as_expr r') (after_index r') (naked i) (codes "]" ∷ []) (Like spine i) (Like (option_map spine) None) h g) (λ x p. select_good i x.0 x.1 p.0 p.1);
    }
    index_found i (Some v) h g = record {
      rest = naked i ++ codes ":=" ∷ (naked v ++ codes "]" ∷ []);
      shows = ap texts (bracket-store i v) ∙ ap (λ ws. codes "[" ∷ ws) (texts_4 (show.whole i) (shown.word (codes ":=")) (show.whole v) (shown.word (codes "]")));
      again = made_again s' index_of (seq (as_expr r') (after_index r')) (naked i ++ codes ":=" ∷ (naked v ++ codes "]" ∷ [])) (λ x. Like spine i x.0 × Like (option_map spine) (Some v) x.1) (Like bare_bracket (Store i v))
          (seq_again s' (as_expr r') (after_index r') (naked i) (codes ":=" ∷ (naked v ++ codes "]" ∷ [])) (Like spine i) (Like (option_map spine) (Some v)) h g) (λ x p. store_good i v x.0 x.1 p.0 p.1);
    }

    after_bracket_yields : Yields s (after_bracket r).Spells (Bracketed s' (after_bracket r').Spells)
    after_bracket_yields =
        alt_yields s bit_range.Spells (indexed r).Spells _
        (more_yields s bit_range.Spells _ _ bit_range_yields (λ x b. record { rest = b.rest; shows = b.shows; again = turned_again s' bit_range.Spells (after_bracket r').Spells b.rest (Like bare_bracket x) b.again (λ ts z h good. inl h) }))
        (made_yields s index_of (seq (as_expr r) (after_index r)) _ _ (seq_yields s (as_expr r) (after_index r) _ _ y.each after_index_renders.each)
        (λ x c. let b = index_found x.0 x.1 c.0 c.1 in record { rest = b.rest; shows = b.shows; again = turned_again s' (indexed r').Spells (after_bracket r').Spells b.rest (Like bare_bracket (index_of x)) b.again (λ ts z h good. inr h) }))

  -- a bracket and what nests in it
  brackets_render : (b b' : Below Place Token Expr) → Nests (λ r r'. Renders s s' r.Spells r'.Spells naked (Like spine)) b b'
      → Renders s s' (nested at.AfterOperand (is k.LeftBracket) never (λ x. x.1) after_bracket b).Spells (nested at.AfterOperand (is k.LeftBracket) never (λ x. x.1) after_bracket b').Spells (λ x. texts (show.bracket x)) (Like bare_bracket)
  brackets_render bottom b' h = record { each = record { each = λ ts x old no_phrase. absurd no_phrase } }
  brackets_render (above r) bottom h = absurd h
  brackets_render (above r) (above r') h = record {
    each = made_yields s (λ x. x.1) (seq (one at.AfterOperand (is k.LeftBracket)) (after_bracket r)) _ _ (seq_yields s (one at.AfterOperand (is k.LeftBracket)) (after_bracket r) _ _ (one_yields s (is k.LeftBracket)) (after_bracket_yields r r' h))
        (λ x c. subst (λ (ws : List (List ℕ)). Again s' (nested at.AfterOperand (is k.LeftBracket) never (λ x. x.1) after_bracket (above r')).Spells ws (Like bare_bracket x.1)) (sym c.1.shows)
        (made_again s' (λ x. x.1) (seq (one at.AfterOperand (is k.LeftBracket)) (after_bracket r')) (codes "[" ∷ c.1.rest) (λ z. Stands s' (codes "[") z.0 × Like bare_bracket x.1 z.1) (Like bare_bracket x.1)
        (seq_again s' (one at.AfterOperand (is k.LeftBracket)) (after_bracket r') (codes "[" ∷ []) c.1.rest (Stands s' (codes "[")) (Like bare_bracket x.1) (one_again s' at.AfterOperand k.LeftBracket (codes "[") left_bracket) c.1.again) (λ z p. p.1)));
  }

  -- ---- parentheses

  group_yields : (l' : Levels) (b b' : Below Place Token Expr) → Nests (λ r r'. Yields s r.Spells (Inside s' r' l')) b b' → Yields s (nested at.Operand (is k.LeftParen) never (λ x. x.1) after_group b).Spells (λ x. Fits s' l' b' x Operand)
  group_yields l' bottom b' h = record { each = λ ts x old no_phrase. absurd no_phrase }
  group_yields l' (above r) bottom h = absurd h
  group_yields l' (above r) (above r') h =
      made_yields s (λ x. x.1) (seq (one at.Operand (is k.LeftParen)) (after_group r)) _ _
      (seq_yields s (one at.Operand (is k.LeftParen)) (after_group r) _ (Inside s' r' l') (one_yields s (is k.LeftParen))
      (made_yields s (λ x. x.0) (seq (as_expr r) (one at.AfterOperand (is k.RightParen))) _ _ (seq_yields s (as_expr r) (one at.AfterOperand (is k.RightParen)) _ _ h (one_yields s (is k.RightParen))) (λ x c. c.0)))
      (λ x c. record { shows = c.1.shows; here = c.1.here; fits = inr c.1.inside })

module _ (s s' : List ℕ) (l l' : Levels) (L : ExprsAgain s s' l l') where
  pub whole_nests : Nests (λ r r'. Renders s s' r.Spells r'.Spells naked (Like spine)) l.exprs l'.exprs
  whole_nests = nests_map (λ r r'. Yields s r.Spells (Inside s' r' l')) (λ r r'. Renders s s' r.Spells r'.Spells naked (Like spine)) l.exprs l'.exprs
      (λ r r' y. record { each = more_yields s r.Spells _ _ y (λ x i. good_again s' r'.Spells (naked x) (Same x) (Like spine x) i.inside (λ z g. g.0)) }) L.exprs

  pub arguments_renders : Renders s s' (arguments l).Spells (arguments l').Spells argument_texts (Like (map spine))
  unfolding arguments
  arguments_renders = nested_renders s s' at.Other k.LeftParen (codes "(") never (λ x. x.1) after_arguments (λ xs. join_by naked (codes "," ∷ []) xs ++ codes ")" ∷ []) (Like (map spine)) argument_texts (Like (map spine)) l.exprs l'.exprs left_paren
      (nests_map (λ r r'. Renders s s' r.Spells r'.Spells naked (Like spine)) (λ r r'. Renders s s' (after_arguments r).Spells (after_arguments r').Spells (λ xs. join_by naked (codes "," ∷ []) xs ++ codes ")" ∷ []) (Like (map spine))) l.exprs l'.exprs (λ r r' y. after_arguments_renders s s' r r' y) whole_nests) (λ x. refl) (λ x z h. h)

  pub suffix_renders : Renders s s' (suffix l).Spells (suffix l').Spells (λ x. texts (show.bracket x)) (Like bare_bracket)
  unfolding suffix
  suffix_renders = brackets_render s s' l.exprs l'.exprs whole_nests

  -- ---- variables and functions

  variable_good : (n m : Name) (o : Option (List Expr)) → bare_name m ≡ bare_name n → option_map (map spine) o ≡ None → (spine (named_of (m, o)) ≡ spine (e.Variable n)) × (phrase (named_of (m, o)) ≡ Operand)
  variable_good n m None h g = (spine-variable m ∙ ap (λ x. alone (e.Variable x)) h ∙ sym (spine-variable n), kind-variable m)
  variable_good n m (Some xs) h g = absurd cc

  apply_good : (n m : Name) (xs : List Expr) (o : Option (List Expr)) → bare_name m ≡ bare_name n → option_map (map spine) o ≡ Some (map spine xs) → (spine (named_of (m, o)) ≡ spine (e.Apply n xs)) × (phrase (named_of (m, o)) ≡ Operand)
  apply_good n m xs None h g = absurd cc
  apply_good n m xs (Some ys) h g =
      let same : map spine ys ≡ map spine xs = cc in
      (spine-apply m ys ∙ ap (λ x. alone (e.Apply x (map whole (map spine ys)))) h ∙ ap (λ zs. alone (e.Apply (bare_name n) (map whole zs))) same ∙ sym (spine-apply n xs), kind-apply m ys)

  apply_texts : (n : Name) (xs : List Expr) → texts (names.name n ++ shown.word (codes "(") ++ names.listed show.whole xs ++ shown.word (codes ")")) ≡ n.text ∷ argument_texts xs
  apply_texts n xs = ap (λ ws. n.text ∷ codes "(" ∷ ws) (texts_append (names.listed show.whole xs) (shown.word (codes ")")) ∙ ap (λ ws. ws ++ codes ")" ∷ []) (texts_join show.whole (codes ",") xs))

  named_node : (n : Name) (o : Option (List Expr)) → Again s' (name s' at.Operand).Spells (n.text ∷ []) (Like bare_name n) → Again s' (maybe (arguments l')).Spells (maybe_texts argument_texts o) (Like (option_map (map spine)) o)
      → Node s' (made named_of (seq (name s' at.Operand) (maybe (arguments l')))).Spells (named_expr n o) Operand
  named_node n None h g =
      node s' (made named_of (seq (name s' at.Operand) (maybe (arguments l')))).Spells (e.Variable n) Operand (names.name n) (n.text ∷ []) refl (kind-variable n) (expr-variable n)
      (made_again s' named_of (seq (name s' at.Operand) (maybe (arguments l'))) (n.text ∷ []) (λ x. Like bare_name n x.0 × Like (option_map (map spine)) None x.1) (λ y. (spine y ≡ spine (e.Variable n)) × (phrase y ≡ Operand))
      (seq_again s' (name s' at.Operand) (maybe (arguments l')) (n.text ∷ []) [] (Like bare_name n) (Like (option_map (map spine)) None) h g) (λ x p. variable_good n x.0 x.1 p.0 p.1))
  named_node n (Some xs) h g =
      node s' (made named_of (seq (name s' at.Operand) (maybe (arguments l')))).Spells (e.Apply n xs) Operand (names.name n ++ shown.word (codes "(") ++ names.listed show.whole xs ++ shown.word (codes ")")) (n.text ∷ argument_texts xs) (apply_texts n xs) (kind-apply n xs) (expr-apply n xs)
      (made_again s' named_of (seq (name s' at.Operand) (maybe (arguments l'))) (n.text ∷ argument_texts xs) (λ x. Like bare_name n x.0 × Like (option_map (map spine)) (Some xs) x.1) (λ y. (spine y ≡ spine (e.Apply n xs)) × (phrase y ≡ Operand))
      (seq_again s' (name s' at.Operand) (maybe (arguments l')) (n.text ∷ []) (argument_texts xs) (Like bare_name n) (Like (option_map (map spine)) (Some xs)) h g) (λ x p. apply_good n x.0 xs x.1 p.0 p.1))

  named_yields : Yields s (named s l).Spells (λ x. Node s' (named s' l').Spells x Operand)
  unfolding named
  named_yields = made_yields s named_of (seq (name s at.Operand) (maybe (arguments l))) _ _ (seq_yields s (name s at.Operand) (maybe (arguments l)) _ _ (name_renders s s' at.Operand).each (maybe_renders s s' (map spine) arguments_renders).each) (λ x c. named_node x.0 x.1 c.0 c.1)

  atom_fits : (S : List Token → Expr → Type 0) → ((ts : List Token) (y : Expr) → S ts y → (atom s' l').Spells ts y) → (x : Expr) → Node s' S x Operand → Fits s' l' l'.exprs x Operand
  atom_fits S turn x n = node_fits s' l' l'.exprs x Operand (node_turned s' S (post s' l').Spells x Operand (λ ts y h. of_atom s' l' Operand ts y (turn ts y h)) n)

  pub atom_reads : Reads s s' l' (atom s l) Operand
  unfolding atom group
  atom_reads =
      alt_yields s truth.Spells _ _ (more_yields s truth.Spells _ _ (truth_yields s s') (atom_fits truth.Spells (λ ts y h. inl h)))
      (alt_yields s falsehood.Spells _ _ (more_yields s falsehood.Spells _ _ (falsehood_yields s s') (atom_fits falsehood.Spells (λ ts y h. inr (inl h))))
      (alt_yields s literal.Spells _ _ (more_yields s literal.Spells _ _ (literal_yields s s') (atom_fits literal.Spells (λ ts y h. inr (inr (inl h)))))
      (alt_yields s (group l).Spells (named s l).Spells _ (group_yields s s' l' l.exprs l'.exprs L.exprs) (more_yields s (named s l).Spells _ _ named_yields (atom_fits (named s' l').Spells (λ ts y h. inr (inr (inr (inr h)))))))))
