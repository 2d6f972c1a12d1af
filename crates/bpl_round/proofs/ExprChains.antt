-- Operators: what was read as an expression is printed so that it reads again as an expression alike.
use Rattle.std.proofs.Common.{◌≡◌, ℕ, ◌≤◌, List, [], ◌∷◌, ◌++◌, map, inl, refl, sym, ap, subst, ◌∙◌, arith, codes, append_assoc}
use Rattle.std.specs.List.{flat_map, join_by}
use Rattle.std.proofs.lemmas.List.{map-append}
use Rattle.bpl_ast.specs.Alike.{Spine, alone, whole, spine, bare_bracket}
use Rattle.bpl_ast.specs.declared.expr.Bracket.{Bracket}
use Rattle.bpl_ast.specs.declared.expr.Expr.{Expr}
use Rattle.bpl_ast.specs.declared.expr.Expr.TheVariants as e
use Rattle.bpl_tok.specs.declared.token.Terminal.{Terminal}
use Rattle.bpl_tok.specs.declared.token.Terminal.TheVariants as k
use Rattle.bpl_tok.specs.declared.token.Token.{Token}
use Rattle.bpl_parse.specs.declared.place.Place.{Place}
use Rattle.bpl_parse.specs.declared.place.Place.TheVariants as at
use Rattle.bpl_parse.specs.Exprs.{atom, suffix, post_of, post, negation_of, after_bang, negation, unary, chain_of, cat}
use Rattle.bpl_parse.specs.Reader.{Reader, Levels, place_of}
use Rattle.bpl_parse.specs.Tests.{is, follows_post}
use Rattle.bpl_rules.specs.Rules.{Below, bottom, above, first, one, seq, IsMade, made, placed, AreMany, many, listed, some, behind, separated, nested}
use Rattle.bpl_show.specs.Exprs.{chained}
use Rattle.bpl_show.proofs.Equations.{expr-post, expr-not, expr-concat}
use Rattle.bpl_show.specs.declared.phrase.Phrase.{Phrase}
use Rattle.bpl_show.specs.declared.phrase.Phrase.TheVariants.{Concatenation, Unary, Operand}
use Rattle.bpl_show.specs.Exprs as show
use Rattle.bpl_show.specs.Tokens as shown
use Rattle.bpl_round.proofs.Again.{IsText, Stands, AllHave, parted, spelt_append, Again, Yields, one_again, seq_again, made_again, placed_again, turned_again, one_yields, seq_yields, made_yields, placed_yields, more_yields, alt_yields, many_yields}
use Rattle.bpl_round.proofs.ExprRules.{node, ExprsAgain, Reads, suffix_renders, atom_reads}
use Rattle.bpl_round.proofs.Fits.{Fits, Node, wider_fits, node_turned, node_fits, at_again}
use Rattle.bpl_round.proofs.Joined.{texts}
use Rattle.bpl_round.proofs.Known.{bang, plus_plus}
use Rattle.bpl_round.proofs.Pairs.{Renders, Like, Nests, many_renders, many_reads}
use Rattle.bpl_round.proofs.Phrases.{rule_at}
use Rattle.bpl_round.proofs.Texts.{texts_append, texts_flat, texts_join}
use Rattle.bpl_show.specs.Exprs.{kind as phrase}
use Rattle.bpl_show.proofs.KindLaws.{kind-post, kind-not, kind-concat}
use Rattle.bpl_round.proofs.Trees.{spine-post, spine-not, spine-concat, with_brackets, post_spine}

-- ---- brackets after an operand

many_append : (p : Reader Bracket) (xs ys : List Bracket) (a b : List Token) → AreMany p a xs → AreMany p b ys → AreMany p (a ++ b) (xs ++ ys)
many_append p [] ys a b h g = subst (λ (ts : List Token). AreMany p (ts ++ b) ys) (sym h) g
many_append p (x ∷ xs) ys a b h g = record {
  front = h.front;
  back = h.back ++ b;
  parts = ap (λ ts. ts ++ b) h.parts ∙ append_assoc h.front h.back b;
  first = h.first;
  others = many_append p xs ys h.back b h.others g;
}

not_none : (bs : List Bracket) (c : Bracket) (cs : List Bracket) (olds : List Bracket) → map bare_bracket bs ≡ map bare_bracket (c ∷ cs) → (d : Bracket) × (ds : List Bracket) × (olds ++ bs ≡ d ∷ ds)
not_none [] c cs olds h = absurd cc
not_none (b ∷ bs) c cs [] h = (b, bs, refl)
not_none (b ∷ bs) c cs (a ∷ olds) h = (a, olds ++ b ∷ bs, refl)

post_phrase : (place : ℕ) (o : Expr) (olds bs : List Bracket) (c : Bracket) (cs : List Bracket) → map bare_bracket bs ≡ map bare_bracket (c ∷ cs) → phrase (post_of place (o, olds ++ bs)) ≡ Operand
post_phrase place o olds bs c cs h =
    let (d, ds, is) = not_none bs c cs olds h in
    ap (λ xs. phrase (post_of place (o, xs))) is ∙ kind-post place o (d ∷ ds)

more_brackets : (place place' : ℕ) (x o : Expr) (olds bs cs : List Bracket) → spine (post_of place' (o, olds)) ≡ spine x → map bare_bracket bs ≡ map bare_bracket cs → spine (post_of place (o, olds ++ bs)) ≡ with_brackets (spine x) (map bare_bracket cs)
more_brackets place place' x o olds bs cs h g =
    let there : with_brackets (spine o) (map bare_bracket olds) ≡ spine x = sym (post_spine place' o olds) ∙ h in
    post_spine place o (olds ++ bs)
    ∙ ap (with_brackets (spine o)) (map-append bare_bracket olds bs)
    ∙ ap (λ (ys : List Bracket). let y : Spine = record { operand = (spine o).operand; brackets = ys } in y) (sym (append_assoc (spine o).brackets (map bare_bracket olds) (map bare_bracket bs)))
    ∙ ap (λ y. with_brackets y (map bare_bracket bs)) there
    ∙ ap (with_brackets (spine x)) g

module _ (s' : List ℕ) (l' : Levels) where
  post_more : (place : ℕ) (x : Expr) (c : Bracket) (cs : List Bracket) (a b : List (List ℕ)) → Again s' (post s' l').Spells a (Like spine x) → Again s' (many (suffix l')).Spells b (Like (map bare_bracket) (c ∷ cs))
      → Again s' (post s' l').Spells (a ++ b) (λ y. (spine y ≡ spine (e.Post place x (c ∷ cs))) × (phrase y ≡ Operand))
  unfolding post
  post_more place x c cs a b h g = record {
    spelt = spelt_append a b h.spelt g.spelt;
    reads = λ ts stand.
        let cut = parted s' a b ts stand in
        let (y, spells, good) = h.reads cut.front cut.first in
        let (bs, more, same) = g.reads cut.back cut.second in
        let o = spells.inner.0 in
        let olds = spells.inner.1 in
        let here = place_of (first ts) in
        let was : spine (post_of (place_of (first cut.front)) (o, olds)) ≡ spine x = ap spine (sym spells.value) ∙ good in (
          post_of here (o, olds ++ bs),
          record {
            inner = (o, olds ++ bs);
            spells = record {
              front = spells.spells.front;
              back = spells.spells.back ++ cut.back;
              parts = cut.parts ∙ ap (λ t. t ++ cut.back) spells.spells.parts ∙ append_assoc spells.spells.front spells.spells.back cut.back;
              first = spells.spells.first;
              second = many_append (suffix l') olds bs spells.spells.back cut.back spells.spells.second more;
            };
            value = refl;
          },
          (more_brackets here (place_of (first cut.front)) x o olds bs (c ∷ cs) was same ∙ sym (spine-post place x (c ∷ cs)), post_phrase here o olds bs c cs same),
        );
  }

  post_fits : (place : ℕ) (x : Expr) (bs : List Bracket) → Fits s' l' l'.exprs x Operand → Again s' (many (suffix l')).Spells (flat_map (λ b. texts (show.bracket b)) bs) (Like (map bare_bracket) bs) → Fits s' l' l'.exprs (post_of place (x, bs)) Operand
  post_fits place x [] h g = h
  post_fits place x (c ∷ cs) h g =
      node_fits s' l' l'.exprs (e.Post place x (c ∷ cs)) Operand
      (node s' (post s' l').Spells (e.Post place x (c ∷ cs)) Operand (show.expr x Operand ++ flat_map show.bracket (c ∷ cs)) (texts (show.expr x Operand) ++ flat_map (λ b. texts (show.bracket b)) (c ∷ cs))
      (texts_append (show.expr x Operand) (flat_map show.bracket (c ∷ cs)) ∙ ap (λ ws. texts (show.expr x Operand) ++ ws) (texts_flat show.bracket (c ∷ cs)))
      (kind-post place x (c ∷ cs)) (expr-post place x (c ∷ cs))
      (post_more place x c cs (texts (show.expr x Operand)) (flat_map (λ b. texts (show.bracket b)) (c ∷ cs)) (at_again s' l' x Operand h) g))

  -- ---- chains of one operand or more

  -- some operands
  abbrev pub SomeFit : Phrase → List Expr → Type 0
  SomeFit kind [] = ⊥
  SomeFit kind (x ∷ xs) = Fits s' l' l'.exprs x kind × AllHave (λ y. Fits s' l' l'.exprs y kind) xs

  -- operands after the first, each behind a sign
  pub behind_again : (place : Place) (sign : Terminal) (w : List ℕ) (kind : Phrase) → IsText sign w → (x : Expr) → Fits s' l' l'.exprs x kind
      → Again s' (behind place (is sign) (rule_at kind s' l')).Spells (w ∷ texts (show.expr x kind)) (Like spine x)
  behind_again place sign w kind W x h =
      made_again s' (λ x. x.1) (seq (one place (is sign)) (rule_at kind s' l')) (w ∷ texts (show.expr x kind)) (λ y. Stands s' w y.0 × Like spine x y.1) (Like spine x)
      (seq_again s' (one place (is sign)) (rule_at kind s' l') (w ∷ []) (texts (show.expr x kind)) (Stands s' w) (Like spine x) (one_again s' place sign w W) (at_again s' l' x kind h)) (λ y p. p.1)

  module _ (place : Place) (sign : Terminal) (w : List ℕ) (kind : Phrase) (q : Reader Expr) (turn : (ts : List Token) (y : Expr) → (behind place (is sign) (rule_at kind s' l')).Spells ts y → q.Spells ts y) (W : IsText sign w) where
    each_behind : (xs : List Expr) → AllHave (λ y. Fits s' l' l'.exprs y kind) xs → AllHave (λ x. Again s' q.Spells (w ∷ texts (show.expr x kind)) (Like spine x)) xs
    each_behind [] h = tt
    each_behind (x ∷ xs) h = (turned_again s' (behind place (is sign) (rule_at kind s' l')).Spells q.Spells (w ∷ texts (show.expr x kind)) (Like spine x) (behind_again place sign w kind W x h.0) (λ ts y spells good. turn ts y spells), each_behind xs h.1)

    pub others_again : (xs : List Expr) → AllHave (λ y. Fits s' l' l'.exprs y kind) xs → Again s' (AreMany q) (flat_map (λ x. w ∷ texts (show.expr x kind)) xs) (Like (map spine) xs)
    others_again xs h = many_reads s' s' q (λ x. w ∷ texts (show.expr x kind)) spine xs (each_behind xs h)

    -- one or more
    pub some_again : (x : Expr) (xs : List Expr) → AllHave (λ y. Fits s' l' l'.exprs y kind) (x ∷ xs) → Again s' (some q).Spells (flat_map (λ z. w ∷ texts (show.expr z kind)) (x ∷ xs)) (Like (map spine) (x ∷ xs))
    some_again x xs h =
        made_again s' listed (seq q (many q)) (flat_map (λ z. w ∷ texts (show.expr z kind)) (x ∷ xs)) (λ z. Like spine x z.0 × Like (map spine) xs z.1) (Like (map spine) (x ∷ xs))
        (seq_again s' q (many q) (w ∷ texts (show.expr x kind)) (flat_map (λ z. w ∷ texts (show.expr z kind)) xs) (Like spine x) (Like (map spine) xs) (each_behind (x ∷ xs) h).0 (others_again xs h.1))
        (λ z p. ap (λ v. v ∷ map spine z.1) p.0 ∙ ap (λ vs. spine x ∷ vs) p.1)

  pub chain_texts : (sign : List ℕ) (kind : Phrase) (xs : List Expr) → texts (chained sign kind xs) ≡ join_by (λ x. texts (show.expr x kind)) (sign ∷ []) xs
  chain_texts sign kind xs = texts_join (λ x. show.expr x kind) sign xs

  -- the operands of a chain, where it has two or more
  two_same : (F : ℕ → List Expr → Expr) (here place : ℕ) (own : Phrase) (x y : Expr) (xs zs : List Expr)
      → ((at : ℕ) (vs ws : List Expr) (to : ℕ) → map spine vs ≡ map spine ws → spine (F at vs) ≡ spine (F to ws)) → ((at : ℕ) (vs : List Expr) → phrase (F at vs) ≡ own) → map spine zs ≡ map spine (x ∷ y ∷ xs)
      → (spine (chain_of (F here) zs) ≡ spine (F place (x ∷ y ∷ xs))) × (phrase (chain_of (F here) zs) ≡ own)
  two_same F here place own x y xs [] spines phrases h = absurd cc
  two_same F here place own x y xs (z ∷ []) spines phrases h = absurd cc
  two_same F here place own x y xs (z ∷ v ∷ zs) spines phrases h = (spines here (z ∷ v ∷ zs) (x ∷ y ∷ xs) place h, phrases here (z ∷ v ∷ zs))

  module _ (F : ℕ → List Expr → Expr) (own kind : Phrase) (lt : show.rank own ≤ show.rank kind) (at_sign : Place) (sign : Terminal) (w : List ℕ) (W : IsText sign w)
      (shows : (at : ℕ) (xs : List Expr) (place : Phrase) → show.expr (F at xs) place ≡ show.placed own place (chained w kind xs))
      (spines : (at : ℕ) (vs ws : List Expr) (to : ℕ) → map spine vs ≡ map spine ws → spine (F at vs) ≡ spine (F to ws)) (phrases : (at : ℕ) (vs : List Expr) → phrase (F at vs) ≡ own) where
    pub chain_fits : (rule_own : (ts : List Token) (y : Expr) → (placed (λ t. chain_of (F (place_of t))) (separated at_sign (is sign) (rule_at kind s' l'))).Spells ts y → (rule_at own s' l').Spells ts y)
        (place : ℕ) (xs : List Expr) → SomeFit kind xs → Fits s' l' l'.exprs (chain_of (F place) xs) own
    chain_fits rule_own place [] h = absurd h
    chain_fits rule_own place (x ∷ []) h = wider_fits s' l' l'.exprs x kind own lt h.0
    chain_fits rule_own place (x ∷ y ∷ xs) h =
        let listing : Again s' (separated at_sign (is sign) (rule_at kind s' l')).Spells (join_by (λ z. texts (show.expr z kind)) (w ∷ []) (x ∷ y ∷ xs)) (Like (map spine) (x ∷ y ∷ xs)) =
        made_again s' listed (seq (rule_at kind s' l') (many (behind at_sign (is sign) (rule_at kind s' l')))) (join_by (λ z. texts (show.expr z kind)) (w ∷ []) (x ∷ y ∷ xs)) (λ z. Like spine x z.0 × Like (map spine) (y ∷ xs) z.1) (Like (map spine) (x ∷ y ∷ xs))
        (seq_again s' (rule_at kind s' l') (many (behind at_sign (is sign) (rule_at kind s' l'))) (texts (show.expr x kind)) (flat_map (λ z. w ∷ texts (show.expr z kind)) (y ∷ xs)) (Like spine x) (Like (map spine) (y ∷ xs)) (at_again s' l' x kind h.0) (others_again at_sign sign w kind (behind at_sign (is sign) (rule_at kind s' l')) (λ ts z spells. spells) W (y ∷ xs) h.1))
        (λ z p. ap (λ v. v ∷ map spine z.1) p.0 ∙ ap (λ vs. spine x ∷ vs) p.1) in
        node_fits s' l' l'.exprs (F place (x ∷ y ∷ xs)) own
        (node_turned s' (placed (λ t. chain_of (F (place_of t))) (separated at_sign (is sign) (rule_at kind s' l'))).Spells (rule_at own s' l').Spells (F place (x ∷ y ∷ xs)) own rule_own
        (node s' (placed (λ t. chain_of (F (place_of t))) (separated at_sign (is sign) (rule_at kind s' l'))).Spells (F place (x ∷ y ∷ xs)) own (chained w kind (x ∷ y ∷ xs)) (join_by (λ z. texts (show.expr z kind)) (w ∷ []) (x ∷ y ∷ xs)) (chain_texts w kind (x ∷ y ∷ xs))
        (phrases place (x ∷ y ∷ xs)) (shows place (x ∷ y ∷ xs))
        (placed_again s' (λ t. chain_of (F (place_of t))) (separated at_sign (is sign) (rule_at kind s' l')) (join_by (λ z. texts (show.expr z kind)) (w ∷ []) (x ∷ y ∷ xs)) (Like (map spine) (x ∷ y ∷ xs)) (λ z. (spine z ≡ spine (F place (x ∷ y ∷ xs))) × (phrase z ≡ own)) listing
        (λ t zs good. two_same F (place_of t) place own x y xs zs spines phrases good))))

pub some_yields : (s s' : List ℕ) (l' : Levels) (kind : Phrase) (p q : Reader Expr) → Yields s p.Spells (λ x. Fits s' l' l'.exprs x kind) → Yields s q.Spells (λ x. Fits s' l' l'.exprs x kind) → Yields s (IsMade listed (seq p (many q))) (SomeFit s' l' kind)
some_yields s s' l' kind p q h g = made_yields s listed (seq p (many q)) _ (SomeFit s' l' kind) (seq_yields s p (many q) _ _ h (many_yields s q _ g)) (λ x c. c)

pub behind_yields : (s : List ℕ) (place : Place) (sign : Terminal) (p : Reader Expr) (C : Expr → Type 0) → Yields s p.Spells C → Yields s (behind place (is sign) p).Spells C
behind_yields s place sign p C h = made_yields s (λ x. x.1) (seq (one place (is sign)) p) _ C (seq_yields s (one place (is sign)) p _ C (one_yields s (is sign)) h) (λ x c. c.1)

pub spines_of : (F : ℕ → List Expr → Expr) (G : List Spine → Spine) → ((at : ℕ) (xs : List Expr) → spine (F at xs) ≡ G (map spine xs)) → (at : ℕ) (vs ws : List Expr) (to : ℕ) → map spine vs ≡ map spine ws → spine (F at vs) ≡ spine (F to ws)
spines_of F G is at vs ws to h = is at vs ∙ ap G h ∙ sym (is to ws)

-- the operand of `!`
negation_yields : (s s' : List ℕ) (b b' : Below Place Token Expr) → Nests (λ r r'. Renders s s' r.Spells r'.Spells (λ x. texts (show.expr x Unary)) (Like spine)) b b'
    → Yields s (nested at.Operand (is k.Bang) follows_post negation_of after_bang b).Spells (λ x. Node s' (nested at.Operand (is k.Bang) follows_post negation_of after_bang b').Spells x Unary)
negation_yields s s' bottom b' h = record { each = λ ts x old no_phrase. absurd no_phrase }
negation_yields s s' (above r) bottom h = absurd h
negation_yields s s' (above r) (above r') h =
    made_yields s negation_of (seq (one at.Operand (is k.Bang)) (after_bang r)) _ _ (seq_yields s (one at.Operand (is k.Bang)) (after_bang r) _ (λ x. Again s' r'.Spells (texts (show.expr x Unary)) (Like spine x)) (one_yields s (is k.Bang)) h.each)
    (λ x c. node s' (made negation_of (seq (one at.Operand (is k.Bang)) (after_bang r'))).Spells (negation_of x) Unary (shown.word (codes "!") ++ show.expr x.1 Unary) (codes "!" ∷ texts (show.expr x.1 Unary)) refl (kind-not x.0.at x.1) (expr-not x.0.at x.1)
    (made_again s' negation_of (seq (one at.Operand (is k.Bang)) (after_bang r')) (codes "!" ∷ texts (show.expr x.1 Unary)) (λ y. Stands s' (codes "!") y.0 × Like spine x.1 y.1) (λ y. (spine y ≡ spine (negation_of x)) × (phrase y ≡ Unary))
    (seq_again s' (one at.Operand (is k.Bang)) (after_bang r') (codes "!" ∷ []) (texts (show.expr x.1 Unary)) (Stands s' (codes "!")) (Like spine x.1) (one_again s' at.Operand k.Bang (codes "!") bang) c.1)
    (λ y p. (spine-not y.0.at y.1 ∙ ap (λ v. alone (e.Not 0 (whole v))) p.1 ∙ sym (spine-not x.0.at x.1), kind-not y.0.at y.1))))

module _ (s s' : List ℕ) (l l' : Levels) (L : ExprsAgain s s' l l') where
  post_reads : Reads s s' l' (post s l) Operand
  unfolding post
  post_reads = placed_yields s (λ t. post_of (place_of t)) (seq (atom s l) (many (suffix l))) _ _ (seq_yields s (atom s l) (many (suffix l)) _ _ (atom_reads s s' l l' L) (many_renders s s' bare_bracket (suffix_renders s s' l l' L)).each)
      (λ t x c. post_fits s' l' (place_of t) x.0 x.1 c.0 c.1)

  negation_turned : (ts : List Token) (y : Expr) → (nested at.Operand (is k.Bang) follows_post negation_of after_bang l'.unaries).Spells ts y → (unary s' l').Spells ts y
  unfolding unary negation
  negation_turned ts y h = inl h

  pub unary_reads : Reads s s' l' (unary s l) Unary
  unfolding unary negation
  unary_reads =
      alt_yields s (negation l).Spells (post s l).Spells _
      (more_yields s (negation l).Spells _ _ (negation_yields s s' l.unaries l'.unaries L.unaries) (λ x n. node_fits s' l' l'.exprs x Unary (node_turned s' (nested at.Operand (is k.Bang) follows_post negation_of after_bang l'.unaries).Spells (unary s' l').Spells x Unary negation_turned n)))
      (more_yields s (post s l).Spells _ _ post_reads (λ x h. wider_fits s' l' l'.exprs x Operand Unary (omega arith) h))

  concat_own : (ts : List Token) (y : Expr) → (placed (λ t. chain_of (e.Concat (place_of t))) (separated at.AfterOperand (is k.PlusPlus) (unary s' l'))).Spells ts y → (cat s' l').Spells ts y
  unfolding cat
  concat_own ts y h = h

  pub cat_reads : Reads s s' l' (cat s l) Concatenation
  unfolding cat
  cat_reads = placed_yields s (λ t. chain_of (e.Concat (place_of t))) (separated at.AfterOperand (is k.PlusPlus) (unary s l)) _ _
      (some_yields s s' l' Unary (unary s l) (behind at.AfterOperand (is k.PlusPlus) (unary s l)) unary_reads (behind_yields s at.AfterOperand k.PlusPlus (unary s l) _ unary_reads))
      (λ t xs c. chain_fits s' l' e.Concat Concatenation Unary (omega arith) at.AfterOperand k.PlusPlus (codes "++") plus_plus expr-concat (spines_of e.Concat (λ v. alone (e.Concat 0 (map whole v))) spine-concat) kind-concat concat_own (place_of t) xs c)
