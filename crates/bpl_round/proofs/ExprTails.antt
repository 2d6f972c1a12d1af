-- Relations, logic, implications and choices: what was read as an expression is printed so that it reads again as an expression alike.
use Rattle.std.proofs.Common.{◌≡◌, ℕ, List, [], ◌∷◌, ◌++◌, map, inl, refl, sym, ap, subst, ◌∙◌, arith, codes}
use Rattle.std.specs.List.{flat_map}
use Rattle.bpl_ast.specs.Alike.{Spine, alone, whole, spine}
use Rattle.bpl_ast.specs.declared.expr.Expr.{Expr}
use Rattle.bpl_ast.specs.declared.expr.Expr.TheVariants as e
use Rattle.bpl_tok.specs.declared.token.Terminal.TheVariants as k
use Rattle.bpl_tok.specs.declared.token.Token.{Token}
use Rattle.bpl_parse.specs.declared.parts.ImplicationTail.{ImplicationTail}
use Rattle.bpl_parse.specs.declared.parts.ImplicationTail.TheVariants as impls
use Rattle.bpl_parse.specs.declared.parts.LogicTail.{LogicTail}
use Rattle.bpl_parse.specs.declared.parts.LogicTail.TheVariants as logics
use Rattle.bpl_parse.specs.declared.parts.RelationTail.{RelationTail}
use Rattle.bpl_parse.specs.declared.parts.RelationTail.TheVariants as relations
use Rattle.bpl_parse.specs.declared.place.Place.{Place}
use Rattle.bpl_parse.specs.declared.place.Place.TheVariants as at
use Rattle.bpl_parse.specs.Exprs.{chain_of, cat, relation_of, equal_to, unequal_to, relation_tail, rel, logic_of, conjunct, disjunct, ands, ors, logic_tail, logic, implication_of, after_implies, right, rights, left, lefts, impl_tail, implication, equiv, choice_of, after_if, choice, expr}
use Rattle.bpl_parse.specs.Reader.{Reader, Levels, place_of}
use Rattle.bpl_parse.specs.Tests.{is, follows_impl, follows_expr}
use Rattle.bpl_rules.specs.Rules.{Below, bottom, above, one, empty, seq, made, placed, some, behind, separated, nested}
use Rattle.bpl_show.specs.Exprs.{chained}
use Rattle.bpl_show.proofs.Equations.{expr-and, expr-or, expr-implied_by, expr-equivalent, expr-equal, expr-not_equal, expr-implies, expr-choice}
use Rattle.bpl_show.specs.declared.phrase.Phrase.{Phrase}
use Rattle.bpl_show.specs.declared.phrase.Phrase.TheVariants.{Whole, Equivalence, Implication, Logic, Relation, Concatenation}
use Rattle.bpl_show.specs.Exprs as show
use Rattle.bpl_show.specs.Tokens as shown
use Rattle.bpl_round.proofs.Again.{Stands, Again, Yields, one_again, seq_again, made_again, placed_again, left_again, right_again, one_yields, empty_yields, seq_yields, made_yields, placed_yields, more_yields, alt_yields}
use Rattle.bpl_round.proofs.ExprChains.{SomeFit, behind_again, some_again, chain_texts, chain_fits, some_yields, behind_yields, spines_of, cat_reads}
use Rattle.bpl_round.proofs.ExprRules.{node, ExprsAgain, Reads, whole_nests}
use Rattle.bpl_round.proofs.Fits.{naked, Fits, Node, wider_fits, node_turned, node_fits, at_again}
use Rattle.bpl_round.proofs.Joined.{texts}
use Rattle.bpl_round.proofs.Known.{equal, not_equal, and_and, or_or, implies, implied_by, equivalent, if_word, then_word, else_word}
use Rattle.bpl_round.proofs.Pairs.{Renders, Like, Nests, seq_renders, behind_renders, nested_renders}
use Rattle.bpl_round.proofs.Texts.{texts_3, texts_6}
use Rattle.bpl_show.specs.Exprs.{kind as phrase}
use Rattle.bpl_show.proofs.KindLaws.{kind-equal, kind-not_equal, kind-and, kind-or, kind-implies, kind-implied_by, kind-equivalent, kind-choice}
use Rattle.bpl_round.proofs.Trees.{spine-equal, spine-not_equal, spine-and, spine-or, spine-implies, spine-implied_by, spine-equivalent, spine-choice}

-- two sides: the node of the sides that were read again is alike
module _ (F : ℕ → Expr → Expr → Expr) (G : Spine → Spine → Spine) (own : Phrase) (spines : (at : ℕ) (x y : Expr) → spine (F at x y) ≡ G (spine x) (spine y)) (phrases : (at : ℕ) (x y : Expr) → phrase (F at x y) ≡ own) where
  sides_good : (place here : ℕ) (x y v z : Expr) → spine v ≡ spine x → spine z ≡ spine y → (spine (F here v z) ≡ spine (F place x y)) × (phrase (F here v z) ≡ own)
  sides_good place here x y v z h g = (spines here v z ∙ ap (λ w. G w (spine z)) h ∙ ap (λ w. G (spine x) w) g ∙ sym (spines place x y), phrases here v z)

-- the list of an operator: the node of the operands that were read again is alike
operands_good : (F : ℕ → List Expr → Expr) (own : Phrase) → ((at : ℕ) (vs ws : List Expr) (to : ℕ) → map spine vs ≡ map spine ws → spine (F at vs) ≡ spine (F to ws)) → ((at : ℕ) (vs : List Expr) → phrase (F at vs) ≡ own)
    → (place here : ℕ) (x v : Expr) (xs vs : List Expr) → spine v ≡ spine x → map spine vs ≡ map spine xs → (spine (F here (v ∷ vs)) ≡ spine (F place (x ∷ xs))) × (phrase (F here (v ∷ vs)) ≡ own)
operands_good F own spines phrases place here x v xs vs h g = (spines here (v ∷ vs) (x ∷ xs) place (ap (λ w. w ∷ map spine vs) h ∙ ap (λ ws. spine x ∷ ws) g), phrases here (v ∷ vs))

-- a tail with a value that is alike
abbrev HasOne : {T : Type 0} → (Expr → T) → Expr → T → Type 0
HasOne make y tail = (z : Expr) × (tail ≡ make z) × (spine z ≡ spine y)

abbrev HasSome : {T : Type 0} → (List Expr → T) → List Expr → T → Type 0
HasSome make ys tail = (zs : List Expr) × (tail ≡ make zs) × (map spine zs ≡ map spine ys)

module _ (s s' : List ℕ) (l l' : Levels) (L : ExprsAgain s s' l l') where
  -- ---- relations

  abbrev RelationFits : RelationTail → Type 0
  RelationFits relations.Alone = Unit {0}
  RelationFits (relations.Equal y) = Fits s' l' l'.exprs y Concatenation
  RelationFits (relations.NotEqual y) = Fits s' l' l'.exprs y Concatenation

  relation_tail_yields : Yields s (relation_tail s l).Spells RelationFits
  unfolding relation_tail
  relation_tail_yields =
      alt_yields s (equal_to s l).Spells _ RelationFits (made_yields s relations.Equal (behind at.AfterOperand (is k.Equal) (cat s l)) _ RelationFits (behind_yields s at.AfterOperand k.Equal (cat s l) _ (cat_reads s s' l l' L)) (λ y c. c))
      (alt_yields s (unequal_to s l).Spells _ RelationFits (made_yields s relations.NotEqual (behind at.AfterOperand (is k.NotEqual) (cat s l)) _ RelationFits (behind_yields s at.AfterOperand k.NotEqual (cat s l) _ (cat_reads s s' l l' L)) (λ y c. c))
      (more_yields s (empty {K = Place} {T = Token} relations.Alone).Spells _ RelationFits (empty_yields s relations.Alone) (λ x e. subst RelationFits (sym e) tt)))

  equal_tail : (y : Expr) → Fits s' l' l'.exprs y Concatenation → Again s' (relation_tail s' l').Spells (codes "==" ∷ texts (show.expr y Concatenation)) (HasOne relations.Equal y)
  unfolding relation_tail
  equal_tail y h = left_again s' (equal_to s' l').Spells _ (codes "==" ∷ texts (show.expr y Concatenation)) (HasOne relations.Equal y)
      (made_again s' relations.Equal (behind at.AfterOperand (is k.Equal) (cat s' l')) (codes "==" ∷ texts (show.expr y Concatenation)) (Like spine y) (HasOne relations.Equal y) (behind_again s' l' at.AfterOperand k.Equal (codes "==") Concatenation equal y h) (λ z g. (z, refl, g)))

  unequal_tail : (y : Expr) → Fits s' l' l'.exprs y Concatenation → Again s' (relation_tail s' l').Spells (codes "!=" ∷ texts (show.expr y Concatenation)) (HasOne relations.NotEqual y)
  unfolding relation_tail
  unequal_tail y h = right_again s' (equal_to s' l').Spells _ (codes "!=" ∷ texts (show.expr y Concatenation)) (HasOne relations.NotEqual y)
      (left_again s' (unequal_to s' l').Spells _ (codes "!=" ∷ texts (show.expr y Concatenation)) (HasOne relations.NotEqual y)
      (made_again s' relations.NotEqual (behind at.AfterOperand (is k.NotEqual) (cat s' l')) (codes "!=" ∷ texts (show.expr y Concatenation)) (Like spine y) (HasOne relations.NotEqual y) (behind_again s' l' at.AfterOperand k.NotEqual (codes "!=") Concatenation not_equal y h) (λ z g. (z, refl, g))))

  equal_good : (place here : ℕ) (x y v : Expr) (tail : RelationTail) → spine v ≡ spine x → HasOne relations.Equal y tail → (spine (relation_of here (v, tail)) ≡ spine (e.Equal place x y)) × (phrase (relation_of here (v, tail)) ≡ Relation)
  equal_good place here x y v tail h g =
      let (z, is, good) = g in
      subst (λ (r : RelationTail). (spine (relation_of here (v, r)) ≡ spine (e.Equal place x y)) × (phrase (relation_of here (v, r)) ≡ Relation)) (sym is)
      (sides_good e.Equal (λ a b. alone (e.Equal 0 (whole a) (whole b))) Relation spine-equal kind-equal place here x y v z h good)

  unequal_good : (place here : ℕ) (x y v : Expr) (tail : RelationTail) → spine v ≡ spine x → HasOne relations.NotEqual y tail → (spine (relation_of here (v, tail)) ≡ spine (e.NotEqual place x y)) × (phrase (relation_of here (v, tail)) ≡ Relation)
  unequal_good place here x y v tail h g =
      let (z, is, good) = g in
      subst (λ (r : RelationTail). (spine (relation_of here (v, r)) ≡ spine (e.NotEqual place x y)) × (phrase (relation_of here (v, r)) ≡ Relation)) (sym is)
      (sides_good e.NotEqual (λ a b. alone (e.NotEqual 0 (whole a) (whole b))) Relation spine-not_equal kind-not_equal place here x y v z h good)

  equal_node : (place : ℕ) (x y : Expr) → Fits s' l' l'.exprs x Concatenation → Fits s' l' l'.exprs y Concatenation → Node s' (rel s' l').Spells (e.Equal place x y) Relation
  unfolding rel
  equal_node place x y h g =
      let ws = texts (show.expr x Concatenation) ++ codes "==" ∷ texts (show.expr y Concatenation) in
      node s' (placed (λ t. relation_of (place_of t)) (seq (cat s' l') (relation_tail s' l'))).Spells (e.Equal place x y) Relation (show.expr x Concatenation ++ shown.word (codes "==") ++ show.expr y Concatenation) ws
      (texts_3 (show.expr x Concatenation) (shown.word (codes "==")) (show.expr y Concatenation)) (kind-equal place x y) (expr-equal place x y)
      (placed_again s' (λ t. relation_of (place_of t)) (seq (cat s' l') (relation_tail s' l')) ws (λ v. Like spine x v.0 × HasOne relations.Equal y v.1) _
      (seq_again s' (cat s' l') (relation_tail s' l') (texts (show.expr x Concatenation)) (codes "==" ∷ texts (show.expr y Concatenation)) (Like spine x) (HasOne relations.Equal y) (at_again s' l' x Concatenation h) (equal_tail y g))
      (λ t v p. equal_good place (place_of t) x y v.0 v.1 p.0 p.1))

  unequal_node : (place : ℕ) (x y : Expr) → Fits s' l' l'.exprs x Concatenation → Fits s' l' l'.exprs y Concatenation → Node s' (rel s' l').Spells (e.NotEqual place x y) Relation
  unfolding rel
  unequal_node place x y h g =
      let ws = texts (show.expr x Concatenation) ++ codes "!=" ∷ texts (show.expr y Concatenation) in
      node s' (placed (λ t. relation_of (place_of t)) (seq (cat s' l') (relation_tail s' l'))).Spells (e.NotEqual place x y) Relation (show.expr x Concatenation ++ shown.word (codes "!=") ++ show.expr y Concatenation) ws
      (texts_3 (show.expr x Concatenation) (shown.word (codes "!=")) (show.expr y Concatenation)) (kind-not_equal place x y) (expr-not_equal place x y)
      (placed_again s' (λ t. relation_of (place_of t)) (seq (cat s' l') (relation_tail s' l')) ws (λ v. Like spine x v.0 × HasOne relations.NotEqual y v.1) _
      (seq_again s' (cat s' l') (relation_tail s' l') (texts (show.expr x Concatenation)) (codes "!=" ∷ texts (show.expr y Concatenation)) (Like spine x) (HasOne relations.NotEqual y) (at_again s' l' x Concatenation h) (unequal_tail y g))
      (λ t v p. unequal_good place (place_of t) x y v.0 v.1 p.0 p.1))

  relation_fits : (place : ℕ) (x : Expr) (tail : RelationTail) → Fits s' l' l'.exprs x Concatenation → RelationFits tail → Fits s' l' l'.exprs (relation_of place (x, tail)) Relation
  relation_fits place x relations.Alone h g = wider_fits s' l' l'.exprs x Concatenation Relation (omega arith) h
  relation_fits place x (relations.Equal y) h g = node_fits s' l' l'.exprs (e.Equal place x y) Relation (equal_node place x y h g)
  relation_fits place x (relations.NotEqual y) h g = node_fits s' l' l'.exprs (e.NotEqual place x y) Relation (unequal_node place x y h g)

  rel_reads : Reads s s' l' (rel s l) Relation
  unfolding rel
  rel_reads = placed_yields s (λ t. relation_of (place_of t)) (seq (cat s l) (relation_tail s l)) _ _ (seq_yields s (cat s l) (relation_tail s l) _ _ (cat_reads s s' l l' L) relation_tail_yields) (λ t x c. relation_fits (place_of t) x.0 x.1 c.0 c.1)

  -- ---- `&&` and `||`

  abbrev LogicFits : LogicTail → Type 0
  LogicFits logics.Alone = Unit {0}
  LogicFits (logics.Ands ys) = SomeFit s' l' Relation ys
  LogicFits (logics.Ors ys) = SomeFit s' l' Relation ys

  conjunct_yields : Yields s (conjunct s l).Spells (λ x. Fits s' l' l'.exprs x Relation)
  unfolding conjunct
  conjunct_yields = behind_yields s at.AfterOperand k.AndAnd (rel s l) _ rel_reads

  disjunct_yields : Yields s (disjunct s l).Spells (λ x. Fits s' l' l'.exprs x Relation)
  unfolding disjunct
  disjunct_yields = behind_yields s at.AfterOperand k.OrOr (rel s l) _ rel_reads

  logic_tail_yields : Yields s (logic_tail s l).Spells LogicFits
  unfolding logic_tail
  logic_tail_yields =
      alt_yields s (ands s l).Spells _ LogicFits (made_yields s logics.Ands (some (conjunct s l)) _ LogicFits (some_yields s s' l' Relation (conjunct s l) (conjunct s l) conjunct_yields conjunct_yields) (λ y c. c))
      (alt_yields s (ors s l).Spells _ LogicFits (made_yields s logics.Ors (some (disjunct s l)) _ LogicFits (some_yields s s' l' Relation (disjunct s l) (disjunct s l) disjunct_yields disjunct_yields) (λ y c. c))
      (more_yields s (empty {K = Place} {T = Token} logics.Alone).Spells _ LogicFits (empty_yields s logics.Alone) (λ x e. subst LogicFits (sym e) tt)))

  conjunct_turned : (ts : List Token) (y : Expr) → (behind at.AfterOperand (is k.AndAnd) (rel s' l')).Spells ts y → (conjunct s' l').Spells ts y
  unfolding conjunct
  conjunct_turned ts y h = h

  disjunct_turned : (ts : List Token) (y : Expr) → (behind at.AfterOperand (is k.OrOr) (rel s' l')).Spells ts y → (disjunct s' l').Spells ts y
  unfolding disjunct
  disjunct_turned ts y h = h

  and_tail : (y : Expr) (ys : List Expr) → SomeFit s' l' Relation (y ∷ ys) → Again s' (logic_tail s' l').Spells (flat_map (λ z. codes "&&" ∷ texts (show.expr z Relation)) (y ∷ ys)) (HasSome logics.Ands (y ∷ ys))
  unfolding logic_tail
  and_tail y ys h = left_again s' (ands s' l').Spells _ (flat_map (λ z. codes "&&" ∷ texts (show.expr z Relation)) (y ∷ ys)) (HasSome logics.Ands (y ∷ ys))
      (made_again s' logics.Ands (some (conjunct s' l')) (flat_map (λ z. codes "&&" ∷ texts (show.expr z Relation)) (y ∷ ys)) (Like (map spine) (y ∷ ys)) (HasSome logics.Ands (y ∷ ys))
      (some_again s' l' at.AfterOperand k.AndAnd (codes "&&") Relation (conjunct s' l') conjunct_turned and_and y ys h) (λ zs g. (zs, refl, g)))

  or_tail : (y : Expr) (ys : List Expr) → SomeFit s' l' Relation (y ∷ ys) → Again s' (logic_tail s' l').Spells (flat_map (λ z. codes "||" ∷ texts (show.expr z Relation)) (y ∷ ys)) (HasSome logics.Ors (y ∷ ys))
  unfolding logic_tail
  or_tail y ys h = right_again s' (ands s' l').Spells _ (flat_map (λ z. codes "||" ∷ texts (show.expr z Relation)) (y ∷ ys)) (HasSome logics.Ors (y ∷ ys))
      (left_again s' (ors s' l').Spells _ (flat_map (λ z. codes "||" ∷ texts (show.expr z Relation)) (y ∷ ys)) (HasSome logics.Ors (y ∷ ys))
      (made_again s' logics.Ors (some (disjunct s' l')) (flat_map (λ z. codes "||" ∷ texts (show.expr z Relation)) (y ∷ ys)) (Like (map spine) (y ∷ ys)) (HasSome logics.Ors (y ∷ ys))
      (some_again s' l' at.AfterOperand k.OrOr (codes "||") Relation (disjunct s' l') disjunct_turned or_or y ys h) (λ zs g. (zs, refl, g))))

  and_good : (place here : ℕ) (x v : Expr) (ys : List Expr) (tail : LogicTail) → spine v ≡ spine x → HasSome logics.Ands ys tail → (spine (logic_of here (v, tail)) ≡ spine (e.And place (x ∷ ys))) × (phrase (logic_of here (v, tail)) ≡ Logic)
  and_good place here x v ys tail h g =
      let (zs, is, good) = g in
      subst (λ (r : LogicTail). (spine (logic_of here (v, r)) ≡ spine (e.And place (x ∷ ys))) × (phrase (logic_of here (v, r)) ≡ Logic)) (sym is)
      (operands_good e.And Logic (spines_of e.And (λ w. alone (e.And 0 (map whole w))) spine-and) kind-and place here x v ys zs h good)

  or_good : (place here : ℕ) (x v : Expr) (ys : List Expr) (tail : LogicTail) → spine v ≡ spine x → HasSome logics.Ors ys tail → (spine (logic_of here (v, tail)) ≡ spine (e.Or place (x ∷ ys))) × (phrase (logic_of here (v, tail)) ≡ Logic)
  or_good place here x v ys tail h g =
      let (zs, is, good) = g in
      subst (λ (r : LogicTail). (spine (logic_of here (v, r)) ≡ spine (e.Or place (x ∷ ys))) × (phrase (logic_of here (v, r)) ≡ Logic)) (sym is)
      (operands_good e.Or Logic (spines_of e.Or (λ w. alone (e.Or 0 (map whole w))) spine-or) kind-or place here x v ys zs h good)

  and_node : (place : ℕ) (x y : Expr) (ys : List Expr) → Fits s' l' l'.exprs x Relation → SomeFit s' l' Relation (y ∷ ys) → Node s' (logic s' l').Spells (e.And place (x ∷ y ∷ ys)) Logic
  unfolding logic
  and_node place x y ys h g =
      let ws = texts (show.expr x Relation) ++ flat_map (λ z. codes "&&" ∷ texts (show.expr z Relation)) (y ∷ ys) in
      node s' (placed (λ t. logic_of (place_of t)) (seq (rel s' l') (logic_tail s' l'))).Spells (e.And place (x ∷ y ∷ ys)) Logic (chained (codes "&&") Relation (x ∷ y ∷ ys)) ws
      (chain_texts s' l' (codes "&&") Relation (x ∷ y ∷ ys)) (kind-and place (x ∷ y ∷ ys)) (expr-and place (x ∷ y ∷ ys))
      (placed_again s' (λ t. logic_of (place_of t)) (seq (rel s' l') (logic_tail s' l')) ws (λ v. Like spine x v.0 × HasSome logics.Ands (y ∷ ys) v.1) _
      (seq_again s' (rel s' l') (logic_tail s' l') (texts (show.expr x Relation)) (flat_map (λ z. codes "&&" ∷ texts (show.expr z Relation)) (y ∷ ys)) (Like spine x) (HasSome logics.Ands (y ∷ ys)) (at_again s' l' x Relation h) (and_tail y ys g))
      (λ t v p. and_good place (place_of t) x v.0 (y ∷ ys) v.1 p.0 p.1))

  or_node : (place : ℕ) (x y : Expr) (ys : List Expr) → Fits s' l' l'.exprs x Relation → SomeFit s' l' Relation (y ∷ ys) → Node s' (logic s' l').Spells (e.Or place (x ∷ y ∷ ys)) Logic
  unfolding logic
  or_node place x y ys h g =
      let ws = texts (show.expr x Relation) ++ flat_map (λ z. codes "||" ∷ texts (show.expr z Relation)) (y ∷ ys) in
      node s' (placed (λ t. logic_of (place_of t)) (seq (rel s' l') (logic_tail s' l'))).Spells (e.Or place (x ∷ y ∷ ys)) Logic (chained (codes "||") Relation (x ∷ y ∷ ys)) ws
      (chain_texts s' l' (codes "||") Relation (x ∷ y ∷ ys)) (kind-or place (x ∷ y ∷ ys)) (expr-or place (x ∷ y ∷ ys))
      (placed_again s' (λ t. logic_of (place_of t)) (seq (rel s' l') (logic_tail s' l')) ws (λ v. Like spine x v.0 × HasSome logics.Ors (y ∷ ys) v.1) _
      (seq_again s' (rel s' l') (logic_tail s' l') (texts (show.expr x Relation)) (flat_map (λ z. codes "||" ∷ texts (show.expr z Relation)) (y ∷ ys)) (Like spine x) (HasSome logics.Ors (y ∷ ys)) (at_again s' l' x Relation h) (or_tail y ys g))
      (λ t v p. or_good place (place_of t) x v.0 (y ∷ ys) v.1 p.0 p.1))

  ands_fit : (place : ℕ) (x : Expr) (ys : List Expr) → Fits s' l' l'.exprs x Relation → SomeFit s' l' Relation ys → Fits s' l' l'.exprs (e.And place (x ∷ ys)) Logic
  ands_fit place x [] h g = absurd g
  ands_fit place x (y ∷ ys) h g = node_fits s' l' l'.exprs (e.And place (x ∷ y ∷ ys)) Logic (and_node place x y ys h g)

  ors_fit : (place : ℕ) (x : Expr) (ys : List Expr) → Fits s' l' l'.exprs x Relation → SomeFit s' l' Relation ys → Fits s' l' l'.exprs (e.Or place (x ∷ ys)) Logic
  ors_fit place x [] h g = absurd g
  ors_fit place x (y ∷ ys) h g = node_fits s' l' l'.exprs (e.Or place (x ∷ y ∷ ys)) Logic (or_node place x y ys h g)

  logic_fits : (place : ℕ) (x : Expr) (tail : LogicTail) → Fits s' l' l'.exprs x Relation → LogicFits tail → Fits s' l' l'.exprs (logic_of place (x, tail)) Logic
  logic_fits place x logics.Alone h g = wider_fits s' l' l'.exprs x Relation Logic (omega arith) h
  logic_fits place x (logics.Ands ys) h g = ands_fit place x ys h g
  logic_fits place x (logics.Ors ys) h g = ors_fit place x ys h g

  logic_reads : Reads s s' l' (logic s l) Logic
  unfolding logic
  logic_reads = placed_yields s (λ t. logic_of (place_of t)) (seq (rel s l) (logic_tail s l)) _ _ (seq_yields s (rel s l) (logic_tail s l) _ _ rel_reads logic_tail_yields) (λ t x c. logic_fits (place_of t) x.0 x.1 c.0 c.1)

  -- ---- `==>` and `<==`

  abbrev ImplicationFits : ImplicationTail → Type 0
  ImplicationFits impls.Alone = Unit {0}
  ImplicationFits (impls.Right y) = Again s' (right l').Spells (codes "==>" ∷ texts (show.expr y Implication)) (Like spine y)
  ImplicationFits (impls.Lefts ys) = SomeFit s' l' Logic ys

  right_renders : Renders s s' (right l).Spells (right l').Spells (λ x. codes "==>" ∷ texts (show.expr x Implication)) (Like spine)
  unfolding right
  right_renders = nested_renders s s' at.AfterOperand k.Implies (codes "==>") follows_impl (λ x. x.1) after_implies (λ x. texts (show.expr x Implication)) (Like spine) (λ x. codes "==>" ∷ texts (show.expr x Implication)) (Like spine) l.impls l'.impls implies L.impls (λ x. refl) (λ x y h. h)

  left_yields : Yields s (left s l).Spells (λ x. Fits s' l' l'.exprs x Logic)
  unfolding left
  left_yields = behind_yields s at.AfterOperand k.ImpliedBy (logic s l) _ logic_reads

  impl_tail_yields : Yields s (impl_tail s l).Spells ImplicationFits
  unfolding impl_tail
  impl_tail_yields =
      alt_yields s (rights l).Spells _ ImplicationFits (made_yields s impls.Right (right l) _ ImplicationFits right_renders.each (λ y c. c))
      (alt_yields s (lefts s l).Spells _ ImplicationFits (made_yields s impls.Lefts (some (left s l)) _ ImplicationFits (some_yields s s' l' Logic (left s l) (left s l) left_yields left_yields) (λ y c. c))
      (more_yields s (empty {K = Place} {T = Token} impls.Alone).Spells _ ImplicationFits (empty_yields s impls.Alone) (λ x e. subst ImplicationFits (sym e) tt)))

  left_turned : (ts : List Token) (y : Expr) → (behind at.AfterOperand (is k.ImpliedBy) (logic s' l')).Spells ts y → (left s' l').Spells ts y
  unfolding left
  left_turned ts y h = h

  right_tail : (y : Expr) → Again s' (right l').Spells (codes "==>" ∷ texts (show.expr y Implication)) (Like spine y) → Again s' (impl_tail s' l').Spells (codes "==>" ∷ texts (show.expr y Implication)) (HasOne impls.Right y)
  unfolding impl_tail
  right_tail y h = left_again s' (rights l').Spells _ (codes "==>" ∷ texts (show.expr y Implication)) (HasOne impls.Right y)
      (made_again s' impls.Right (right l') (codes "==>" ∷ texts (show.expr y Implication)) (Like spine y) (HasOne impls.Right y) h (λ z g. (z, refl, g)))

  left_tail : (y : Expr) (ys : List Expr) → SomeFit s' l' Logic (y ∷ ys) → Again s' (impl_tail s' l').Spells (flat_map (λ z. codes "<==" ∷ texts (show.expr z Logic)) (y ∷ ys)) (HasSome impls.Lefts (y ∷ ys))
  unfolding impl_tail
  left_tail y ys h = right_again s' (rights l').Spells _ (flat_map (λ z. codes "<==" ∷ texts (show.expr z Logic)) (y ∷ ys)) (HasSome impls.Lefts (y ∷ ys))
      (left_again s' (lefts s' l').Spells _ (flat_map (λ z. codes "<==" ∷ texts (show.expr z Logic)) (y ∷ ys)) (HasSome impls.Lefts (y ∷ ys))
      (made_again s' impls.Lefts (some (left s' l')) (flat_map (λ z. codes "<==" ∷ texts (show.expr z Logic)) (y ∷ ys)) (Like (map spine) (y ∷ ys)) (HasSome impls.Lefts (y ∷ ys))
      (some_again s' l' at.AfterOperand k.ImpliedBy (codes "<==") Logic (left s' l') left_turned implied_by y ys h) (λ zs g. (zs, refl, g))))

  implies_good : (place here : ℕ) (x y v : Expr) (tail : ImplicationTail) → spine v ≡ spine x → HasOne impls.Right y tail → (spine (implication_of here (v, tail)) ≡ spine (e.Implies place x y)) × (phrase (implication_of here (v, tail)) ≡ Implication)
  implies_good place here x y v tail h g =
      let (z, is, good) = g in
      subst (λ (r : ImplicationTail). (spine (implication_of here (v, r)) ≡ spine (e.Implies place x y)) × (phrase (implication_of here (v, r)) ≡ Implication)) (sym is)
      (sides_good e.Implies (λ a b. alone (e.Implies 0 (whole a) (whole b))) Implication spine-implies kind-implies place here x y v z h good)

  implied_good : (place here : ℕ) (x v : Expr) (ys : List Expr) (tail : ImplicationTail) → spine v ≡ spine x → HasSome impls.Lefts ys tail → (spine (implication_of here (v, tail)) ≡ spine (e.ImpliedBy place (x ∷ ys))) × (phrase (implication_of here (v, tail)) ≡ Implication)
  implied_good place here x v ys tail h g =
      let (zs, is, good) = g in
      subst (λ (r : ImplicationTail). (spine (implication_of here (v, r)) ≡ spine (e.ImpliedBy place (x ∷ ys))) × (phrase (implication_of here (v, r)) ≡ Implication)) (sym is)
      (operands_good e.ImpliedBy Implication (spines_of e.ImpliedBy (λ w. alone (e.ImpliedBy 0 (map whole w))) spine-implied_by) kind-implied_by place here x v ys zs h good)

  implies_node : (place : ℕ) (x y : Expr) → Fits s' l' l'.exprs x Logic → Again s' (right l').Spells (codes "==>" ∷ texts (show.expr y Implication)) (Like spine y) → Node s' (implication s' l').Spells (e.Implies place x y) Implication
  unfolding implication
  implies_node place x y h g =
      let ws = texts (show.expr x Logic) ++ codes "==>" ∷ texts (show.expr y Implication) in
      node s' (placed (λ t. implication_of (place_of t)) (seq (logic s' l') (impl_tail s' l'))).Spells (e.Implies place x y) Implication (show.expr x Logic ++ shown.word (codes "==>") ++ show.expr y Implication) ws
      (texts_3 (show.expr x Logic) (shown.word (codes "==>")) (show.expr y Implication)) (kind-implies place x y) (expr-implies place x y)
      (placed_again s' (λ t. implication_of (place_of t)) (seq (logic s' l') (impl_tail s' l')) ws (λ v. Like spine x v.0 × HasOne impls.Right y v.1) _
      (seq_again s' (logic s' l') (impl_tail s' l') (texts (show.expr x Logic)) (codes "==>" ∷ texts (show.expr y Implication)) (Like spine x) (HasOne impls.Right y) (at_again s' l' x Logic h) (right_tail y g))
      (λ t v p. implies_good place (place_of t) x y v.0 v.1 p.0 p.1))

  implied_node : (place : ℕ) (x y : Expr) (ys : List Expr) → Fits s' l' l'.exprs x Logic → SomeFit s' l' Logic (y ∷ ys) → Node s' (implication s' l').Spells (e.ImpliedBy place (x ∷ y ∷ ys)) Implication
  unfolding implication
  implied_node place x y ys h g =
      let ws = texts (show.expr x Logic) ++ flat_map (λ z. codes "<==" ∷ texts (show.expr z Logic)) (y ∷ ys) in
      node s' (placed (λ t. implication_of (place_of t)) (seq (logic s' l') (impl_tail s' l'))).Spells (e.ImpliedBy place (x ∷ y ∷ ys)) Implication (chained (codes "<==") Logic (x ∷ y ∷ ys)) ws
      (chain_texts s' l' (codes "<==") Logic (x ∷ y ∷ ys)) (kind-implied_by place (x ∷ y ∷ ys)) (expr-implied_by place (x ∷ y ∷ ys))
      (placed_again s' (λ t. implication_of (place_of t)) (seq (logic s' l') (impl_tail s' l')) ws (λ v. Like spine x v.0 × HasSome impls.Lefts (y ∷ ys) v.1) _
      (seq_again s' (logic s' l') (impl_tail s' l') (texts (show.expr x Logic)) (flat_map (λ z. codes "<==" ∷ texts (show.expr z Logic)) (y ∷ ys)) (Like spine x) (HasSome impls.Lefts (y ∷ ys)) (at_again s' l' x Logic h) (left_tail y ys g))
      (λ t v p. implied_good place (place_of t) x v.0 (y ∷ ys) v.1 p.0 p.1))

  lefts_fit : (place : ℕ) (x : Expr) (ys : List Expr) → Fits s' l' l'.exprs x Logic → SomeFit s' l' Logic ys → Fits s' l' l'.exprs (e.ImpliedBy place (x ∷ ys)) Implication
  lefts_fit place x [] h g = absurd g
  lefts_fit place x (y ∷ ys) h g = node_fits s' l' l'.exprs (e.ImpliedBy place (x ∷ y ∷ ys)) Implication (implied_node place x y ys h g)

  implication_fits : (place : ℕ) (x : Expr) (tail : ImplicationTail) → Fits s' l' l'.exprs x Logic → ImplicationFits tail → Fits s' l' l'.exprs (implication_of place (x, tail)) Implication
  implication_fits place x impls.Alone h g = wider_fits s' l' l'.exprs x Logic Implication (omega arith) h
  implication_fits place x (impls.Right y) h g = node_fits s' l' l'.exprs (e.Implies place x y) Implication (implies_node place x y h g)
  implication_fits place x (impls.Lefts ys) h g = lefts_fit place x ys h g

  pub implication_reads : Reads s s' l' (implication s l) Implication
  unfolding implication
  implication_reads = placed_yields s (λ t. implication_of (place_of t)) (seq (logic s l) (impl_tail s l)) _ _ (seq_yields s (logic s l) (impl_tail s l) _ _ logic_reads impl_tail_yields) (λ t x c. implication_fits (place_of t) x.0 x.1 c.0 c.1)

  -- ---- `<==>`

  equivalent_own : (ts : List Token) (y : Expr) → (placed (λ t. chain_of (e.Equivalent (place_of t))) (separated at.AfterOperand (is k.Equivalent) (implication s' l'))).Spells ts y → (equiv s' l').Spells ts y
  unfolding equiv
  equivalent_own ts y h = h

  equiv_reads : Reads s s' l' (equiv s l) Equivalence
  unfolding equiv
  equiv_reads = placed_yields s (λ t. chain_of (e.Equivalent (place_of t))) (separated at.AfterOperand (is k.Equivalent) (implication s l)) _ _
      (some_yields s s' l' Implication (implication s l) (behind at.AfterOperand (is k.Equivalent) (implication s l)) implication_reads (behind_yields s at.AfterOperand k.Equivalent (implication s l) _ implication_reads))
      (λ t xs c. chain_fits s' l' e.Equivalent Equivalence Implication (omega arith) at.AfterOperand k.Equivalent (codes "<==>") equivalent expr-equivalent (spines_of e.Equivalent (λ v. alone (e.Equivalent 0 (map whole v))) spine-equivalent) kind-equivalent equivalent_own (place_of t) xs c)

-- ---- choices

abbrev Parts : Type 0
Parts = Expr × (Expr × Expr)

abbrev part_texts : Parts → List (List ℕ)
part_texts x = naked x.0 ++ ((codes "then" ∷ naked x.1.0) ++ (codes "else" ∷ naked x.1.1))

abbrev LikeParts : Parts → Parts → Type 0
LikeParts x y = Like spine x.0 y.0 × (Like spine x.1.0 y.1.0 × Like spine x.1.1 y.1.1)

choice_good : (x y : Token × Parts) → LikeParts x.1 y.1 → (spine (choice_of y) ≡ spine (choice_of x)) × (phrase (choice_of y) ≡ Whole)
choice_good x y h = (
  spine-choice y.0.at y.1.0 y.1.1.0 y.1.1.1
      ∙ ap (λ a. alone (e.Choice 0 (whole a) (whole (spine y.1.1.0)) (whole (spine y.1.1.1)))) h.0
      ∙ ap (λ a. alone (e.Choice 0 (whole (spine x.1.0)) (whole a) (whole (spine y.1.1.1)))) h.1.0
      ∙ ap (λ a. alone (e.Choice 0 (whole (spine x.1.0)) (whole (spine x.1.1.0)) (whole a))) h.1.1
      ∙ sym (spine-choice x.0.at x.1.0 x.1.1.0 x.1.1.1),
  kind-choice y.0.at y.1.0 y.1.1.0 y.1.1.1,
)

module _ (s s' : List ℕ) where
  parts_render : (r r' : Reader Expr) → Renders s s' r.Spells r'.Spells naked (Like spine) → Renders s s' (after_if r).Spells (after_if r').Spells part_texts LikeParts
  parts_render r r' y = seq_renders s s' y (seq_renders s s' (behind_renders s s' at.AfterOperand k.Then (codes "then") then_word y) (behind_renders s s' at.AfterOperand k.Else (codes "else") else_word y))

  choice_yields : (b b' : Below Place Token Expr) → Nests (λ r r'. Renders s s' r.Spells r'.Spells naked (Like spine)) b b'
      → Yields s (nested at.Operand (is k.If) follows_expr choice_of after_if b).Spells (λ x. Node s' (nested at.Operand (is k.If) follows_expr choice_of after_if b').Spells x Whole)
  choice_yields bottom b' h = record { each = λ ts x old no_phrase. absurd no_phrase }
  choice_yields (above r) bottom h = absurd h
  choice_yields (above r) (above r') h =
      made_yields s choice_of (seq (one at.Operand (is k.If)) (after_if r)) _ _ (seq_yields s (one at.Operand (is k.If)) (after_if r) _ _ (one_yields s (is k.If)) (parts_render r r' h).each)
      (λ x c. node s' (made choice_of (seq (one at.Operand (is k.If)) (after_if r'))).Spells (choice_of x) Whole
      (shown.word (codes "if") ++ show.whole x.1.0 ++ shown.word (codes "then") ++ show.whole x.1.1.0 ++ shown.word (codes "else") ++ show.whole x.1.1.1) (codes "if" ∷ part_texts x.1)
      (texts_6 (shown.word (codes "if")) (show.whole x.1.0) (shown.word (codes "then")) (show.whole x.1.1.0) (shown.word (codes "else")) (show.whole x.1.1.1))
      (kind-choice x.0.at x.1.0 x.1.1.0 x.1.1.1) (expr-choice x.0.at x.1.0 x.1.1.0 x.1.1.1)
      (made_again s' choice_of (seq (one at.Operand (is k.If)) (after_if r')) (codes "if" ∷ part_texts x.1) (λ y. Stands s' (codes "if") y.0 × LikeParts x.1 y.1) _
      (seq_again s' (one at.Operand (is k.If)) (after_if r') (codes "if" ∷ []) (part_texts x.1) (Stands s' (codes "if")) (LikeParts x.1) (one_again s' at.Operand k.If (codes "if") if_word) c.1)
      (λ y p. choice_good x y p.1)))

module _ (s s' : List ℕ) (l l' : Levels) (L : ExprsAgain s s' l l') where
  choice_turned : (ts : List Token) (y : Expr) → (nested at.Operand (is k.If) follows_expr choice_of after_if l'.exprs).Spells ts y → (expr s' l').Spells ts y
  unfolding expr choice
  choice_turned ts y h = inl h

  pub expr_reads : Reads s s' l' (expr s l) Whole
  unfolding expr choice
  expr_reads =
      alt_yields s (choice l).Spells (equiv s l).Spells _
      (more_yields s (choice l).Spells _ _ (choice_yields s s' l.exprs l'.exprs (whole_nests s s' l l' L)) (λ x n. node_fits s' l' l'.exprs x Whole (node_turned s' (nested at.Operand (is k.If) follows_expr choice_of after_if l'.exprs).Spells (expr s' l').Spells x Whole choice_turned n)))
      (more_yields s (equiv s l).Spells _ _ (equiv_reads s s' l l' L) (λ x h. wider_fits s' l' l'.exprs x Equivalence Whole (omega arith) h))
