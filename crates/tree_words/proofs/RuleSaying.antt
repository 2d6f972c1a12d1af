-- The rules say what the root is to say.
use Rattle.std.proofs.Common.{◌≡◌, ℕ, zero, suc, ◌<◌, Bool, true, false, not, ◌&&◌, ◌||◌, List, [], ◌∷◌, ◌++◌, map, length, refl, sym, ap, ◌∙◌, subst, arith, ⊎_elim}
use Rattle.std.specs.Prelude.{Option, None, Some, slice_get, slice_index, if◌then◌else◌}
use Rattle.std.proofs.lemmas.Bool.{and_parts, and_from, cases_lt}
use Rattle.std.proofs.lemmas.Option.{slice_get_within}
use Rattle.call_tree.specs.declared.piece.Decision2.{Decision2}
use Rattle.call_tree.specs.declared.piece.Decision2.TheVariants.{Must, Avoid}
use Rattle.call_tree.specs.Pieces.{meets}
use Rattle.tree_terms.specs.declared.linked.Linked.{Linked}
use Rattle.tree_terms.specs.declared.linked.SiteTerms.{SiteTerms}
use Rattle.tree_terms.specs.Linked.{template_of, kid}
use Rattle.tree_terms.specs.declared.rules.Rule.{Rule}
use Rattle.tree_terms.specs.Rules.{rule_holds, rules_hold}
use Rattle.tree_words.specs.Linking.{number, ends_by, fails_by, sites_by}
use Rattle.tree_words.specs.Rooting.{term, RulesSay}
use Rattle.tree_words.specs.Asking.{over, cut_by, cut, cuts_to, rules_to, decided}
use Rattle.tree_words.specs.RulesSaid.{numbered, RulesAreSaid}

hold_both : (v : ℕ → Bool) (xs ys : List Rule) → rules_hold v (xs ++ ys) ≡ (rules_hold v xs && rules_hold v ys)
hold_both v [] ys = refl
hold_both v (x ∷ xs) ys = ap (λ (b : Bool). rule_holds v x && b) (hold_both v xs ys) ∙ grouped (rule_holds v x) (rules_hold v xs) (rules_hold v ys)
  where
    grouped : (x y z : Bool) → (x && (y && z)) ≡ ((x && y) && z)
    grouped true y z = refl
    grouped false y z = refl

hold_parts : (v : ℕ → Bool) (xs ys : List Rule) → rules_hold v (xs ++ ys) ≡ true → (rules_hold v xs ≡ true) × (rules_hold v ys ≡ true)
hold_parts v xs ys h = and_parts (rules_hold v xs) (rules_hold v ys) (sym (hold_both v xs ys) ∙ h)

hold_from : (v : ℕ → Bool) (xs ys : List Rule) → rules_hold v xs ≡ true → rules_hold v ys ≡ true → rules_hold v (xs ++ ys) ≡ true
hold_from v xs ys h g = hold_both v xs ys ∙ and_from (rules_hold v xs) (rules_hold v ys) h g

and_yes : (x : Bool) → (x && true) ≡ x
and_yes true = refl
and_yes false = refl

or_no : (x : Bool) → (x || false) ≡ x
or_no true = refl
or_no false = refl

-- a rule holds where its bool is true only if what it says is
one_plain : (w x y : Bool) → ((if w then (x || y) else true) && true) ≡ true → w ≡ true → (x || y) ≡ true
one_plain true x y h e = sym (and_yes (x || y)) ∙ h
one_plain false x y h e = cc

from_plain : (w x y : Bool) → (w ≡ true → (x || y) ≡ true) → ((if w then (x || y) else true) && true) ≡ true
from_plain true x y h = and_yes (x || y) ∙ h refl
from_plain false x y h = refl

one_negated : (w x : Bool) → ((if w then not x else true) && true) ≡ true → w ≡ true → x ≡ false
one_negated true true h e = cc
one_negated true false h e = refl
one_negated false x h e = cc

from_negated : (w x : Bool) → (w ≡ true → x ≡ false) → ((if w then not x else true) && true) ≡ true
from_negated true x h = ap (λ (b : Bool). not b && true) (h refl)
from_negated false x h = refl

module _ (q : Linked) (places : List (List ℕ)) (reach : List ℕ) (may : ℕ → ℕ → Bool) (v : ℕ → Bool) where
  abbrev w : ℕ → Bool
  w m = v (slice_index reach m)

  -- ---- sites

  cut_off : (m i : ℕ) (b : Bool) (k : Option ℕ) (o : Option SiteTerms) (s : SiteTerms) → rules_hold v (cut_by (slice_index reach m) (term places m) b k o) ≡ true
      → b ≡ false → k ≡ None → o ≡ Some s → w m ≡ true → v (term places m s.node) ≡ false
  cut_off m i true k o s h eb ek eo go = cc
  cut_off m i false (Some c) o s h eb ek eo go = cc
  cut_off m i false None None s h eb ek eo go = cc
  cut_off m i false None (Some x) s h eb ek eo go = let e : x ≡ s = cc in subst (λ (y : SiteTerms). v (term places m y.node) ≡ false) e (one_negated (w m) (v (term places m x.node)) h go)

  cut_on : (m i : ℕ) (b : Bool) (k : Option ℕ) (o : Option SiteTerms) → ((s : SiteTerms) → o ≡ Some s → k ≡ None → b ≡ false → w m ≡ true → v (term places m s.node) ≡ false)
      → rules_hold v (cut_by (slice_index reach m) (term places m) b k o) ≡ true
  cut_on m i true k o h = refl
  cut_on m i false (Some c) o h = refl
  cut_on m i false None None h = refl
  cut_on m i false None (Some s) h = from_negated (w m) (v (term places m s.node)) (λ go. h s refl refl refl go)

  cuts_off : (m n i : ℕ) → i < n → rules_hold v (cuts_to q places reach may m n) ≡ true → rules_hold v (cut q places reach may m i) ≡ true
  cuts_off m zero i l h = absurd (omega (arith, l))
  cuts_off m (suc n) i l h =
      let b = hold_parts v (cuts_to q places reach may m n) (cut q places reach may m n) h in
      ⊎_elim (λ low. cuts_off m n i low b.0) (λ high. let e : n ≡ i = omega (arith, high, l) in subst (λ (k : ℕ). rules_hold v (cut q places reach may m k) ≡ true) e b.1) (cases_lt i n)

  cuts_on : (m n : ℕ) → ((i : ℕ) → rules_hold v (cut q places reach may m i) ≡ true) → rules_hold v (cuts_to q places reach may m n) ≡ true
  cuts_on m zero h = refl
  cuts_on m (suc n) h = hold_from v (cuts_to q places reach may m n) (cut q places reach may m n) (cuts_on m n h) (h n)

  -- ---- nodes

  node_off : (n m : ℕ) → m < n → rules_hold v (rules_to q places reach may n) ≡ true
      → (rules_hold v (over q places reach m) ≡ true) × (rules_hold v (cuts_to q places reach may m (length (sites_by (template_of q m)))) ≡ true)
  node_off zero m l h = absurd (omega (arith, l))
  node_off (suc n) m l h =
      let b = hold_parts v (rules_to q places reach may n) (over q places reach n ++ cuts_to q places reach may n (length (sites_by (template_of q n)))) h in
      let c = hold_parts v (over q places reach n) (cuts_to q places reach may n (length (sites_by (template_of q n)))) b.1 in
      ⊎_elim (λ low. node_off n m low b.0)
      (λ high.
      let e : n ≡ m = omega (arith, high, l) in
      subst (λ (k : ℕ). (rules_hold v (over q places reach k) ≡ true) × (rules_hold v (cuts_to q places reach may k (length (sites_by (template_of q k)))) ≡ true)) e c) (cases_lt m n)

  node_on : (n : ℕ) → ((m : ℕ) → m < n → rules_hold v (over q places reach m) ≡ true) → ((m i : ℕ) → m < n → rules_hold v (cut q places reach may m i) ≡ true)
      → rules_hold v (rules_to q places reach may n) ≡ true
  node_on zero o c = refl
  node_on (suc n) o c =
      hold_from v (rules_to q places reach may n) (over q places reach n ++ cuts_to q places reach may n (length (sites_by (template_of q n))))
      (node_on n (λ m l. o m (omega (arith, l))) (λ m i l. c m i (omega (arith, l))))
      (hold_from v (over q places reach n) (cuts_to q places reach may n (length (sites_by (template_of q n)))) (o n (omega arith)) (cuts_on n (length (sites_by (template_of q n))) (λ i. c n i (omega arith))))

  over_on : (m : ℕ) → ((k : ℕ) → m ≡ suc k → w m ≡ true → (v (term places m (ends_by (template_of q m))) || v (term places m (fails_by (template_of q m)))) ≡ true) → rules_hold v (over q places reach m) ≡ true
  over_on zero h = refl
  over_on (suc k) h = from_plain (w (suc k)) (v (term places (suc k) (ends_by (template_of q (suc k))))) (v (term places (suc k) (fails_by (template_of q (suc k))))) (h k refl)

  -- ---- the piece

  module _ (always never : ℕ) (yes_is : v always ≡ true) (no_is : v never ≡ false) where
    must_is : (x : ℕ) → (if v always then (v x || v never) else true) ≡ v x
    must_is x = ap (λ (b : Bool). if b then (v x || v never) else true) yes_is ∙ (ap (λ (b : Bool). v x || b) no_is ∙ or_no (v x))

    avoid_is : (x : ℕ) → (if v always then not (v x) else true) ≡ not (v x)
    avoid_is x = ap (λ (b : Bool). if b then not (v x) else true) yes_is

    pieces : (piece : List (List ℕ × Decision2)) → rules_hold v (map (decided always never reach) (numbered q piece)) ≡ meets (λ p. v (slice_index reach (number q p))) piece
    pieces [] = refl
    pieces ((p, Must) ∷ ds) =
        ap (λ (b : Bool). b && rules_hold v (map (decided always never reach) (numbered q ds))) (must_is (slice_index reach (number q p)))
        ∙ ap (λ (b : Bool). v (slice_index reach (number q p)) && b) (pieces ds)
    pieces ((p, Avoid) ∷ ds) =
        ap (λ (b : Bool). b && rules_hold v (map (decided always never reach) (numbered q ds))) (avoid_is (slice_index reach (number q p)))
        ∙ ap (λ (b : Bool). not (v (slice_index reach (number q p))) && b) (pieces ds)

pub rules_are_said : RulesAreSaid
rules_are_said q places reach may always never piece v yes_is no_is = (
  λ h.
      let b = hold_parts v (rules_to q places reach may (length q.tree)) (map (decided always never reach) (numbered q piece)) h in
      record {
        over = λ m l go. one_plain (v (slice_index reach (suc m))) (v (term places (suc m) (ends_by (template_of q (suc m))))) (v (term places (suc m) (fails_by (template_of q (suc m)))))
            (node_off q places reach may v (length q.tree) (suc m) l b.0).0 go;
        sites = λ m i s l is k off go. cut_off q places reach may v m i (may m i) (kid q m i) (slice_get (sites_by (template_of q m)) i) s
            (cuts_off q places reach may v m (length (sites_by (template_of q m))) i (slice_get_within (sites_by (template_of q m)) i s is) (node_off q places reach may v (length q.tree) m l b.0).1) off k is go;
        meet = sym (pieces q places reach may v always never yes_is no_is piece) ∙ b.1;
      },
  λ say. hold_from v (rules_to q places reach may (length q.tree)) (map (decided always never reach) (numbered q piece))
      (node_on q places reach may v (length q.tree) (λ m l. over_on q places reach may v m (λ k e go. over_at say m k l e go))
      (λ m i l. cut_on q places reach may v m i (may m i) (kid q m i) (slice_get (sites_by (template_of q m)) i) (λ s is k off go. say.sites m i s l is k off go)))
      (pieces q places reach may v always never yes_is no_is piece ∙ say.meet),
)
  where
    over_at : RulesSay q places reach may piece v → (m k : ℕ) → m < length q.tree → m ≡ suc k → v (slice_index reach m) ≡ true
        → (v (term places m (ends_by (template_of q m))) || v (term places m (fails_by (template_of q m)))) ≡ true
    over_at say zero k l e go = absurd (omega (arith, e))
    over_at say (suc m) k l e go = say.over m l go
