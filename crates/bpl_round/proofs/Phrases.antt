-- A phrase of one kind is a phrase of each wider kind, and a phrase of a wide kind whose tree is of a narrower kind is a phrase of that kind.
use Rattle.std.proofs.Common.{◌≡◌, ℕ, ◌<◌, ◌≤◌, List, [], ◌∷◌, ◌++◌, inl, inr, refl, sym, ap, subst, ◌∙◌, arith}
use Rattle.std.proofs.lemmas.List.{append-nil}
use Rattle.bpl_ast.specs.declared.expr.Expr.{Expr}
use Rattle.bpl_ast.specs.declared.expr.Expr.TheVariants as e
use Rattle.bpl_tok.specs.declared.token.Terminal.TheVariants as k
use Rattle.bpl_tok.specs.declared.token.Token.{Token}
use Rattle.bpl_parse.specs.declared.parts.ImplicationTail.{ImplicationTail}
use Rattle.bpl_parse.specs.declared.parts.ImplicationTail.TheVariants as impls
use Rattle.bpl_parse.specs.declared.parts.LogicTail.{LogicTail}
use Rattle.bpl_parse.specs.declared.parts.LogicTail.TheVariants as logics
use Rattle.bpl_parse.specs.declared.parts.RelationTail.{RelationTail}
use Rattle.bpl_parse.specs.declared.parts.RelationTail.TheVariants as relations
use Rattle.bpl_parse.specs.declared.place.Place.{Place}
use Rattle.bpl_parse.specs.declared.place.Place.TheVariants as at
use Rattle.bpl_parse.specs.Exprs.{atom, post, negation_of, after_bang, negation, unary, chain_of, cat, relation_of, relation_tail, rel, logic_of, logic_tail, logic, implication_of, impl_tail, implication, equiv, choice_of, after_if, choice, expr}
use Rattle.bpl_parse.specs.Reader.{Reader, Levels, place_of}
use Rattle.bpl_parse.specs.Tests.{is, follows_post, follows_expr}
use Rattle.bpl_rules.specs.Rules.{Below, bottom, above, AreBoth, seq, IsMade, many, listed, behind, nested, first}
use Rattle.bpl_show.specs.declared.phrase.Phrase.{Phrase}
use Rattle.bpl_show.specs.declared.phrase.Phrase.TheVariants.{Whole, Equivalence, Implication, Logic, Relation, Concatenation, Unary, Operand}
use Rattle.bpl_show.specs.Exprs.{rank}
use Rattle.bpl_show.specs.Exprs.{kind as phrase}
use Rattle.bpl_show.proofs.KindLaws.{kind-not, kind-concat, kind-equal, kind-not_equal, kind-and, kind-or, kind-implies, kind-implied_by, kind-equivalent, kind-choice}

-- the rule of the grammar for a kind of phrase
abbrev pub rule_at : Phrase → List ℕ → Levels → Reader Expr
rule_at Whole s l = expr s l
rule_at Equivalence s l = equiv s l
rule_at Implication s l = implication s l
rule_at Logic s l = logic s l
rule_at Relation s l = rel s l
rule_at Concatenation s l = cat s l
rule_at Unary s l = unary s l
rule_at Operand s l = post s l

one_listed : (p q : Reader Expr) (ts : List Token) (x : Expr) → p.Spells ts x → IsMade listed (seq p (many q)) ts (x ∷ [])
one_listed p q ts x h = record { inner = (x, []); spells = record { front = ts; back = []; parts = sym (append-nil ts); first = h; second = refl }; value = refl }

too_low : (x : Expr) (own : Phrase) (n : ℕ) → phrase x ≡ own → n ≤ rank (phrase x) → rank own < n → ⊥
too_low x own n is le lt = let same : rank (phrase x) ≡ rank own = ap rank is in omega arith

-- nothing stands after it
stands_alone : (S : List Token → Expr → Type 0) (ts front back : List Token) (v x : Expr) → ts ≡ front ++ back → back ≡ [] → S front v → x ≡ v → S ts x
stands_alone S ts front back v x parts none h is =
    subst (λ (t : List Token). S t x) (sym (parts ∙ ap (λ b. front ++ b) none ∙ append-nil front)) (subst (λ (w : Expr). S front w) (sym is) h)

chain_alone : (F : List Expr → Expr) (own : Phrase) (n : ℕ) (p q : Reader Expr) (ts : List Token) (v : Expr) (vs : List Expr) (x : Expr)
    → ((ys : List Expr) → phrase (F ys) ≡ own) → rank own < n → AreBoth p (many q) ts (v, vs) → x ≡ chain_of F (v ∷ vs) → n ≤ rank (phrase x) → p.Spells ts x
chain_alone F own n p q ts v [] x low lt h is le = stands_alone p.Spells ts h.front h.back v x h.parts h.second h.first is
chain_alone F own n p q ts v (y ∷ ys) x low lt h is le = absurd (too_low x own n (ap phrase is ∙ low (v ∷ y ∷ ys)) le lt)

chain_single : (F : List Expr → Expr) (own : Phrase) (n : ℕ) (p q : Reader Expr) (ts : List Token) (xs : List Expr) (x : Expr)
    → ((ys : List Expr) → phrase (F ys) ≡ own) → rank own < n → IsMade listed (seq p (many q)) ts xs → x ≡ chain_of F xs → n ≤ rank (phrase x) → p.Spells ts x
chain_single F own n p q ts xs x low lt h is le = chain_alone F own n p q ts h.inner.0 h.inner.1 x low lt h.spells (is ∙ ap (chain_of F) h.value) le

choice_low : (b : Below Place Token Expr) (ts : List Token) (x : Expr) → (nested at.Operand (is k.If) follows_expr choice_of after_if b).Spells ts x → 1 ≤ rank (phrase x) → ⊥
choice_low bottom ts x h le = absurd h
choice_low (above r) ts x h le = too_low x Whole 1 (ap phrase h.value ∙ kind-choice _ _ _ _) le (omega arith)

negation_low : (b : Below Place Token Expr) (ts : List Token) (x : Expr) → (nested at.Operand (is k.Bang) follows_post negation_of after_bang b).Spells ts x → 7 ≤ rank (phrase x) → ⊥
negation_low bottom ts x h le = absurd h
negation_low (above r) ts x h le = too_low x Unary 7 (ap phrase h.value ∙ kind-not _ _) le (omega arith)

module _ (s : List ℕ) (l : Levels) where
  -- ---- to wider kinds

  atom_post : (ts : List Token) (x : Expr) → (atom s l).Spells ts x → (post s l).Spells ts x
  unfolding post
  atom_post ts x h = record { inner = (x, []); spells = record { front = ts; back = []; parts = sym (append-nil ts); first = h; second = refl }; value = refl }

  post_unary : (ts : List Token) (x : Expr) → (post s l).Spells ts x → (unary s l).Spells ts x
  unfolding unary
  post_unary ts x h = inr h

  unary_cat : (ts : List Token) (x : Expr) → (unary s l).Spells ts x → (cat s l).Spells ts x
  unfolding cat
  unary_cat ts x h = record { inner = x ∷ []; spells = one_listed (unary s l) (behind at.AfterOperand (is k.PlusPlus) (unary s l)) ts x h; value = refl }

  cat_rel : (ts : List Token) (x : Expr) → (cat s l).Spells ts x → (rel s l).Spells ts x
  unfolding rel relation_tail
  cat_rel ts x h = record { inner = (x, relations.Alone); spells = record { front = ts; back = []; parts = sym (append-nil ts); first = h; second = inr (inr (record { none = refl; value = refl })) }; value = refl }

  rel_logic : (ts : List Token) (x : Expr) → (rel s l).Spells ts x → (logic s l).Spells ts x
  unfolding logic logic_tail
  rel_logic ts x h = record { inner = (x, logics.Alone); spells = record { front = ts; back = []; parts = sym (append-nil ts); first = h; second = inr (inr (record { none = refl; value = refl })) }; value = refl }

  logic_implication : (ts : List Token) (x : Expr) → (logic s l).Spells ts x → (implication s l).Spells ts x
  unfolding implication impl_tail
  logic_implication ts x h = record { inner = (x, impls.Alone); spells = record { front = ts; back = []; parts = sym (append-nil ts); first = h; second = inr (inr (record { none = refl; value = refl })) }; value = refl }

  implication_equiv : (ts : List Token) (x : Expr) → (implication s l).Spells ts x → (equiv s l).Spells ts x
  unfolding equiv
  implication_equiv ts x h = record { inner = x ∷ []; spells = one_listed (implication s l) (behind at.AfterOperand (is k.Equivalent) (implication s l)) ts x h; value = refl }

  equiv_expr : (ts : List Token) (x : Expr) → (equiv s l).Spells ts x → (expr s l).Spells ts x
  unfolding expr
  equiv_expr ts x h = inr h

  -- a phrase of any kind is an expression
  pub wide : (own : Phrase) (ts : List Token) (x : Expr) → (rule_at own s l).Spells ts x → (expr s l).Spells ts x
  wide Whole ts x h = h
  wide Equivalence ts x h = equiv_expr ts x h
  wide Implication ts x h = equiv_expr ts x (implication_equiv ts x h)
  wide Logic ts x h = equiv_expr ts x (implication_equiv ts x (logic_implication ts x h))
  wide Relation ts x h = equiv_expr ts x (implication_equiv ts x (logic_implication ts x (rel_logic ts x h)))
  wide Concatenation ts x h = equiv_expr ts x (implication_equiv ts x (logic_implication ts x (rel_logic ts x (cat_rel ts x h))))
  wide Unary ts x h = equiv_expr ts x (implication_equiv ts x (logic_implication ts x (rel_logic ts x (cat_rel ts x (unary_cat ts x h)))))
  wide Operand ts x h = equiv_expr ts x (implication_equiv ts x (logic_implication ts x (rel_logic ts x (cat_rel ts x (unary_cat ts x (post_unary ts x h))))))

  -- an atom is a phrase of each kind
  pub of_atom : (asked : Phrase) (ts : List Token) (x : Expr) → (atom s l).Spells ts x → (rule_at asked s l).Spells ts x
  of_atom Operand ts x h = atom_post ts x h
  of_atom Unary ts x h = post_unary ts x (atom_post ts x h)
  of_atom Concatenation ts x h = unary_cat ts x (post_unary ts x (atom_post ts x h))
  of_atom Relation ts x h = cat_rel ts x (unary_cat ts x (post_unary ts x (atom_post ts x h)))
  of_atom Logic ts x h = rel_logic ts x (cat_rel ts x (unary_cat ts x (post_unary ts x (atom_post ts x h))))
  of_atom Implication ts x h = logic_implication ts x (rel_logic ts x (cat_rel ts x (unary_cat ts x (post_unary ts x (atom_post ts x h)))))
  of_atom Equivalence ts x h = implication_equiv ts x (logic_implication ts x (rel_logic ts x (cat_rel ts x (unary_cat ts x (post_unary ts x (atom_post ts x h))))))
  of_atom Whole ts x h = equiv_expr ts x (implication_equiv ts x (logic_implication ts x (rel_logic ts x (cat_rel ts x (unary_cat ts x (post_unary ts x (atom_post ts x h)))))))

  -- ---- to narrower kinds

  equiv_of : (ts : List Token) (x : Expr) → (expr s l).Spells ts x → 1 ≤ rank (phrase x) → (equiv s l).Spells ts x
  unfolding expr choice
  equiv_of ts x h le = elim h [ inl c ↦ absurd (choice_low l.exprs ts x c le) | inr q ↦ q ]

  implication_of_equiv : (ts : List Token) (x : Expr) → (equiv s l).Spells ts x → 2 ≤ rank (phrase x) → (implication s l).Spells ts x
  unfolding equiv
  implication_of_equiv ts x h le =
      chain_single (e.Equivalent (place_of (first ts))) Equivalence 2 (implication s l) (behind at.AfterOperand (is k.Equivalent) (implication s l)) ts h.inner x (λ ys. kind-equivalent _ ys) (omega arith) h.spells h.value le

  no_impl_tail : (back : List Token) → (impl_tail s l).Spells back impls.Alone → back ≡ []
  unfolding impl_tail
  no_impl_tail back h = elim h [ inl r ↦ (let is : impls.Alone ≡ impls.Right r.inner = r.value in absurd cc) | inr q ↦ elim q [ inl r ↦ (let is : impls.Alone ≡ impls.Lefts r.inner = r.value in absurd cc) | inr n ↦ n.none ] ]

  logic_alone : (place : ℕ) (ts : List Token) (x v : Expr) (tail : ImplicationTail) → AreBoth (logic s l) (impl_tail s l) ts (v, tail) → x ≡ implication_of place (v, tail) → 3 ≤ rank (phrase x) → (logic s l).Spells ts x
  logic_alone place ts x v impls.Alone h is le = stands_alone (logic s l).Spells ts h.front h.back v x h.parts (no_impl_tail h.back h.second) h.first is
  logic_alone place ts x v (impls.Right y) h is le = absurd (too_low x Implication 3 (ap phrase is ∙ kind-implies place v y) le (omega arith))
  logic_alone place ts x v (impls.Lefts ys) h is le = absurd (too_low x Implication 3 (ap phrase is ∙ kind-implied_by place (v ∷ ys)) le (omega arith))

  logic_of_implication : (ts : List Token) (x : Expr) → (implication s l).Spells ts x → 3 ≤ rank (phrase x) → (logic s l).Spells ts x
  unfolding implication
  logic_of_implication ts x h le = logic_alone (place_of (first ts)) ts x h.inner.0 h.inner.1 h.spells h.value le

  no_logic_tail : (back : List Token) → (logic_tail s l).Spells back logics.Alone → back ≡ []
  unfolding logic_tail
  no_logic_tail back h = elim h [ inl r ↦ (let is : logics.Alone ≡ logics.Ands r.inner = r.value in absurd cc) | inr q ↦ elim q [ inl r ↦ (let is : logics.Alone ≡ logics.Ors r.inner = r.value in absurd cc) | inr n ↦ n.none ] ]

  rel_alone : (place : ℕ) (ts : List Token) (x v : Expr) (tail : LogicTail) → AreBoth (rel s l) (logic_tail s l) ts (v, tail) → x ≡ logic_of place (v, tail) → 4 ≤ rank (phrase x) → (rel s l).Spells ts x
  rel_alone place ts x v logics.Alone h is le = stands_alone (rel s l).Spells ts h.front h.back v x h.parts (no_logic_tail h.back h.second) h.first is
  rel_alone place ts x v (logics.Ands ys) h is le = absurd (too_low x Logic 4 (ap phrase is ∙ kind-and place (v ∷ ys)) le (omega arith))
  rel_alone place ts x v (logics.Ors ys) h is le = absurd (too_low x Logic 4 (ap phrase is ∙ kind-or place (v ∷ ys)) le (omega arith))

  rel_of_logic : (ts : List Token) (x : Expr) → (logic s l).Spells ts x → 4 ≤ rank (phrase x) → (rel s l).Spells ts x
  unfolding logic
  rel_of_logic ts x h le = rel_alone (place_of (first ts)) ts x h.inner.0 h.inner.1 h.spells h.value le

  no_relation_tail : (back : List Token) → (relation_tail s l).Spells back relations.Alone → back ≡ []
  unfolding relation_tail
  no_relation_tail back h = elim h [ inl r ↦ (let is : relations.Alone ≡ relations.Equal r.inner = r.value in absurd cc) | inr q ↦ elim q [ inl r ↦ (let is : relations.Alone ≡ relations.NotEqual r.inner = r.value in absurd cc) | inr n ↦ n.none ] ]

  cat_alone : (place : ℕ) (ts : List Token) (x v : Expr) (tail : RelationTail) → AreBoth (cat s l) (relation_tail s l) ts (v, tail) → x ≡ relation_of place (v, tail) → 5 ≤ rank (phrase x) → (cat s l).Spells ts x
  cat_alone place ts x v relations.Alone h is le = stands_alone (cat s l).Spells ts h.front h.back v x h.parts (no_relation_tail h.back h.second) h.first is
  cat_alone place ts x v (relations.Equal y) h is le = absurd (too_low x Relation 5 (ap phrase is ∙ kind-equal place v y) le (omega arith))
  cat_alone place ts x v (relations.NotEqual y) h is le = absurd (too_low x Relation 5 (ap phrase is ∙ kind-not_equal place v y) le (omega arith))

  cat_of_rel : (ts : List Token) (x : Expr) → (rel s l).Spells ts x → 5 ≤ rank (phrase x) → (cat s l).Spells ts x
  unfolding rel
  cat_of_rel ts x h le = cat_alone (place_of (first ts)) ts x h.inner.0 h.inner.1 h.spells h.value le

  unary_of_cat : (ts : List Token) (x : Expr) → (cat s l).Spells ts x → 6 ≤ rank (phrase x) → (unary s l).Spells ts x
  unfolding cat
  unary_of_cat ts x h le =
      chain_single (e.Concat (place_of (first ts))) Concatenation 6 (unary s l) (behind at.AfterOperand (is k.PlusPlus) (unary s l)) ts h.inner x (λ ys. kind-concat _ ys) (omega arith) h.spells h.value le

  post_of_unary : (ts : List Token) (x : Expr) → (unary s l).Spells ts x → 7 ≤ rank (phrase x) → (post s l).Spells ts x
  unfolding unary negation
  post_of_unary ts x h le = elim h [ inl c ↦ absurd (negation_low l.unaries ts x c le) | inr q ↦ q ]

  -- an expression is a phrase of the kind of its tree, and of each wider one
  pub narrow : (asked : Phrase) (ts : List Token) (x : Expr) → (expr s l).Spells ts x → rank asked ≤ rank (phrase x) → (rule_at asked s l).Spells ts x
  narrow Whole ts x h le = h
  narrow Equivalence ts x h le = equiv_of ts x h le
  narrow Implication ts x h le = implication_of_equiv ts x (equiv_of ts x h (omega arith)) le
  narrow Logic ts x h le = logic_of_implication ts x (implication_of_equiv ts x (equiv_of ts x h (omega arith)) (omega arith)) le
  narrow Relation ts x h le = rel_of_logic ts x (logic_of_implication ts x (implication_of_equiv ts x (equiv_of ts x h (omega arith)) (omega arith)) (omega arith)) le
  narrow Concatenation ts x h le = cat_of_rel ts x (rel_of_logic ts x (logic_of_implication ts x (implication_of_equiv ts x (equiv_of ts x h (omega arith)) (omega arith)) (omega arith)) (omega arith)) le
  narrow Unary ts x h le = unary_of_cat ts x (cat_of_rel ts x (rel_of_logic ts x (logic_of_implication ts x (implication_of_equiv ts x (equiv_of ts x h (omega arith)) (omega arith)) (omega arith)) (omega arith)) (omega arith)) le
  narrow Operand ts x h le = post_of_unary ts x (unary_of_cat ts x (cat_of_rel ts x (rel_of_logic ts x (logic_of_implication ts x (implication_of_equiv ts x (equiv_of ts x h (omega arith)) (omega arith)) (omega arith)) (omega arith)) (omega arith)) (omega arith)) le
