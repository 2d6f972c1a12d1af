-- An expression that was read, and what is printed of it at each place: it reads again at the rule of that place.
use Rattle.std.proofs.Common.{◌≡◌, ℕ, ◌<◌, ◌≤◌, Bool, true, false, List, [], ◌∷◌, ◌++◌, nat_lt, ◌⊎◌, inl, inr, refl, sym, ap, subst, ◌∙◌, arith, codes}
use Rattle.std.specs.Prelude.{if◌then◌else◌}
use Rattle.std.proofs.lemmas.Bool.{cases_Bool, ltb-true, ltb-false}
use Rattle.std.proofs.lemmas.List.{map-append}
use Rattle.bpl_ast.specs.declared.expr.Expr.{Expr}
use Rattle.bpl_ast.specs.Alike.{spine}
use Rattle.bpl_tok.specs.declared.token.Terminal.TheVariants as k
use Rattle.bpl_tok.specs.declared.token.Token.{Token}
use Rattle.bpl_parse.specs.declared.place.Place.{Place}
use Rattle.bpl_parse.specs.declared.place.Place.TheVariants as at
use Rattle.bpl_parse.specs.Exprs.{after_group, group, atom, expr}
use Rattle.bpl_parse.specs.Reader.{Levels, as_expr}
use Rattle.bpl_parse.specs.Tests.{is}
use Rattle.bpl_rules.specs.Rules.{Below, bottom, above, one, seq, never, nested}
use Rattle.bpl_show.specs.declared.phrase.Phrase.{Phrase}
use Rattle.bpl_show.specs.declared.phrase.Phrase.TheVariants.{Whole, Equivalence, Implication, Logic, Relation, Concatenation, Unary, Operand}
use Rattle.bpl_show.specs.Exprs as show
use Rattle.bpl_show.specs.Tokens as shown
use Rattle.bpl_round.proofs.Again.{Stands, Again, one_again, seq_again, made_again, good_again, turned_again}
use Rattle.bpl_round.proofs.Joined.{texts}
use Rattle.bpl_round.proofs.Known.{left_paren, right_paren}
use Rattle.bpl_round.proofs.Phrases.{rule_at, wide, of_atom, narrow}
use Rattle.bpl_show.specs.Exprs.{kind as phrase}

-- what is printed where any expression may stand
abbrev pub naked : Expr → List (List ℕ)
naked x = texts (show.expr x Whole)

abbrev pub in_parens : List (List ℕ) → List (List ℕ)
in_parens ws = (codes "(" ∷ ws) ++ codes ")" ∷ []

abbrev pub at_place : Phrase → Phrase → List (List ℕ) → List (List ℕ)
at_place own asked ws = if nat_lt (show.rank own) (show.rank asked) then in_parens ws else ws

-- of the same operand and brackets, and of the same kind
abbrev pub Same : Expr → Expr → Type 0
Same x y = (spine y ≡ spine x) × (phrase y ≡ phrase x)

-- what nests reads the texts
abbrev pub Inner : List ℕ → Below Place Token Expr → List (List ℕ) → (Expr → Type 0) → Type 0
Inner s' bottom ws P = ⊥
Inner s' (above r) ws P = Again s' r.Spells ws P

-- The expression is printed in parentheses where a narrower phrase is asked for. Where one is, it reads again with a level fewer.
pub record Fits (s' : List ℕ) (l' : Levels) (inner : Below Place Token Expr) (x : Expr) (asked : Phrase) : Type 0 where
  pub shows : (place : Phrase) → texts (show.expr x place) ≡ at_place (phrase x) place (naked x)
  pub here : Again s' (expr s' l').Spells (naked x) (Same x)
  pub fits : (show.rank asked ≤ show.rank (phrase x)) ⊎ Inner s' inner (naked x) (Same x)

pub wider_fits : (s' : List ℕ) (l' : Levels) (inner : Below Place Token Expr) (x : Expr) (asked wider : Phrase) → show.rank wider ≤ show.rank asked → Fits s' l' inner x asked → Fits s' l' inner x wider
wider_fits s' l' inner x asked wider le h = record { shows = h.shows; here = h.here; fits = elim h.fits [ inl a ↦ inl (omega arith) | inr b ↦ inr b ] }

-- a node of a kind, whose own texts the rule reads again
pub record Node (s' : List ℕ) (Spells : List Token → Expr → Type 0) (x : Expr) (own : Phrase) : Type 0 where
  pub tokens : List shown.Token
  pub is_own : phrase x ≡ own
  pub shows : (place : Phrase) → show.expr x place ≡ show.placed own place tokens
  pub again : Again s' Spells (texts tokens) (λ y. (spine y ≡ spine x) × (phrase y ≡ own))

pub node_turned : (s' : List ℕ) (S T : List Token → Expr → Type 0) (x : Expr) (own : Phrase) → ((ts : List Token) (y : Expr) → S ts y → T ts y) → Node s' S x own → Node s' T x own
node_turned s' S T x own turn n = record { tokens = n.tokens; is_own = n.is_own; shows = n.shows; again = turned_again s' S T (texts n.tokens) _ n.again (λ ts y h good. turn ts y h) }

texts_placed_by : (b : Bool) (tokens : List shown.Token) → texts (if b then shown.word (codes "(") ++ tokens ++ shown.word (codes ")") else tokens) ≡ (if b then in_parens (texts tokens) else texts tokens)
texts_placed_by true tokens = ap (λ ws. codes "(" ∷ ws) (map-append (λ (t : shown.Token). t.text) tokens (shown.word (codes ")")))
texts_placed_by false tokens = refl

texts_placed : (own place : Phrase) (tokens : List shown.Token) → texts (show.placed own place tokens) ≡ at_place own place (texts tokens)
texts_placed own place tokens = texts_placed_by (nat_lt (show.rank own) (show.rank place)) tokens

placed_whole : (own : Phrase) (tokens : List shown.Token) → show.placed own Whole tokens ≡ tokens
placed_whole Whole tokens = refl
placed_whole Equivalence tokens = refl
placed_whole Implication tokens = refl
placed_whole Logic tokens = refl
placed_whole Relation tokens = refl
placed_whole Concatenation tokens = refl
placed_whole Unary tokens = refl
placed_whole Operand tokens = refl

pub node_fits : (s' : List ℕ) (l' : Levels) (inner : Below Place Token Expr) (x : Expr) (own : Phrase) → Node s' (rule_at own s' l').Spells x own → Fits s' l' inner x own
node_fits s' l' inner x own n =
    let whole : naked x ≡ texts n.tokens = ap texts (n.shows Whole ∙ placed_whole own n.tokens) in
    let at_expr : Again s' (expr s' l').Spells (texts n.tokens) (λ y. (spine y ≡ spine x) × (phrase y ≡ own)) =
    turned_again s' (rule_at own s' l').Spells (expr s' l').Spells (texts n.tokens) _ n.again (λ ts y h good. wide s' l' own ts y h) in
    let same : Again s' (expr s' l').Spells (texts n.tokens) (Same x) =
    good_again s' (expr s' l').Spells (texts n.tokens) _ (Same x) at_expr (λ y good. (good.0, good.1 ∙ sym n.is_own)) in
    let rank_is : show.rank (phrase x) ≡ show.rank own = ap show.rank n.is_own in
    record {
      shows = λ place. ap texts (n.shows place) ∙ texts_placed own place n.tokens ∙ ap (at_place own place) (sym whole) ∙ ap (λ p. at_place p place (naked x)) (sym n.is_own);
      here = subst (λ (ws : List (List ℕ)). Again s' (expr s' l').Spells ws (Same x)) (sym whole) same;
      fits = inl (omega arith);
    }

-- parentheses around what nests
parens_again : (s' : List ℕ) (b : Below Place Token Expr) (ws : List (List ℕ)) (P : Expr → Type 0) → Inner s' b ws P → Again s' (nested at.Operand (is k.LeftParen) never (λ x. x.1) after_group b).Spells (in_parens ws) P
parens_again s' bottom ws P h = absurd h
parens_again s' (above r) ws P h =
    let closed : Again s' (after_group r).Spells (ws ++ codes ")" ∷ []) P =
    made_again s' (λ x. x.0) (seq (as_expr r) (one at.AfterOperand (is k.RightParen))) (ws ++ codes ")" ∷ []) (λ x. P x.0 × Stands s' (codes ")") x.1) P
    (seq_again s' (as_expr r) (one at.AfterOperand (is k.RightParen)) ws (codes ")" ∷ []) P (Stands s' (codes ")")) h (one_again s' at.AfterOperand k.RightParen (codes ")") right_paren)) (λ x p. p.0) in
    made_again s' (λ x. x.1) (seq (one at.Operand (is k.LeftParen)) (after_group r)) (in_parens ws) (λ x. Stands s' (codes "(") x.0 × P x.1) P
    (seq_again s' (one at.Operand (is k.LeftParen)) (after_group r) (codes "(" ∷ []) (ws ++ codes ")" ∷ []) (Stands s' (codes "(")) P (one_again s' at.Operand k.LeftParen (codes "(") left_paren) closed) (λ x p. p.1)

group_atom : (s' : List ℕ) (l' : Levels) (ts : List Token) (y : Expr) → (nested at.Operand (is k.LeftParen) never (λ x. x.1) after_group l'.exprs).Spells ts y → (atom s' l').Spells ts y
unfolding atom group
group_atom s' l' ts y h = inr (inr (inr (inl h)))

-- what is printed at a place reads again at the rule of that place
pub at_again : (s' : List ℕ) (l' : Levels) (x : Expr) (asked : Phrase) → Fits s' l' l'.exprs x asked → Again s' (rule_at asked s' l').Spells (texts (show.expr x asked)) (λ y. spine y ≡ spine x)
at_again s' l' x asked h = elim (cases_Bool (nat_lt (show.rank (phrase x)) (show.rank asked))) [
  | inr high ↦ (
      let le : show.rank asked ≤ show.rank (phrase x) = ltb-false (show.rank (phrase x)) (show.rank asked) high in
      let plain : texts (show.expr x asked) ≡ naked x = h.shows asked ∙ ap (λ b. if b then in_parens (naked x) else naked x) high in
      let there : Again s' (rule_at asked s' l').Spells (naked x) (Same x) =
      turned_again s' (expr s' l').Spells (rule_at asked s' l').Spells (naked x) (Same x) h.here (λ ts y spells good. narrow s' l' asked ts y spells (subst (λ (p : Phrase). show.rank asked ≤ show.rank p) (sym good.1) le)) in
      subst (λ (ws : List (List ℕ)). Again s' (rule_at asked s' l').Spells ws (λ y. spine y ≡ spine x)) (sym plain)
      (good_again s' (rule_at asked s' l').Spells (naked x) (Same x) (λ y. spine y ≡ spine x) there (λ y good. good.0)))
  | inl low ↦ (
      let lt : show.rank (phrase x) < show.rank asked = ltb-true (show.rank (phrase x)) (show.rank asked) low in
      let parens : texts (show.expr x asked) ≡ in_parens (naked x) = h.shows asked ∙ ap (λ b. if b then in_parens (naked x) else naked x) low in
      elim h.fits [
        | inl le ↦ absurd (omega arith)
        | inr inner ↦ (
            let there : Again s' (rule_at asked s' l').Spells (in_parens (naked x)) (Same x) =
            turned_again s' (nested at.Operand (is k.LeftParen) never (λ x. x.1) after_group l'.exprs).Spells (rule_at asked s' l').Spells (in_parens (naked x)) (Same x) (parens_again s' l'.exprs (naked x) (Same x) inner) (λ ts y spells good. of_atom s' l' asked ts y (group_atom s' l' ts y spells)) in
            subst (λ (ws : List (List ℕ)). Again s' (rule_at asked s' l').Spells ws (λ y. spine y ≡ spine x)) (sym parens)
            (good_again s' (rule_at asked s' l').Spells (in_parens (naked x)) (Same x) (λ y. spine y ≡ spine x) there (λ y good. good.0)))
      ])
]
