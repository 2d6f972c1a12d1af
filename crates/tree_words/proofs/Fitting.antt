-- The rules are over bools.
use Rattle.std.proofs.Common.{◌≡◌, ℕ, zero, suc, ◌<◌, Bool, true, false, List, [], ◌∷◌, ◌++◌, map, length, refl, ◌∙◌, subst, arith}
use Rattle.std.specs.Prelude.{Option, None, Some, slice_get, slice_index}
use Rattle.hy_term.specs.declared.node.TermNode.{TermNode}
use Rattle.call_tree.specs.declared.piece.Decision2.{Decision2}
use Rattle.call_tree.specs.declared.piece.Decision2.TheVariants.{Must, Avoid}
use Rattle.tree_terms.specs.declared.linked.Linked.{Linked}
use Rattle.tree_terms.specs.declared.linked.SiteTerms.{SiteTerms}
use Rattle.tree_terms.specs.Linked.{template_of, nodes_of, kid}
use Rattle.tree_terms.specs.Copying.{AreCopied}
use Rattle.tree_terms.specs.declared.rules.Rule.{Rule}
use Rattle.tree_terms.specs.Rules.{IsBool, RuleFits, RulesFit}
use Rattle.tree_words.specs.Linking.{ends_by, fails_by, sites_by}
use Rattle.tree_words.specs.Rooting.{term, BitsAreThere}
use Rattle.tree_words.specs.Asking.{over, cut_by, cut, cuts_to, rules_to, decided}
use Rattle.tree_words.specs.RulesSaid.{BitsAreBools, RulesAreFit}

fit_both : (into : List TermNode) (xs ys : List Rule) → RulesFit into xs → RulesFit into ys → RulesFit into (xs ++ ys)
fit_both into [] ys h g k r is = g k r is
fit_both into (x ∷ xs) ys h g zero r is = h 0 r is
fit_both into (x ∷ xs) ys h g (suc k) r is = fit_both into xs ys (λ j s e. h (suc j) s e) g k r is

fit_one : (into : List TermNode) (x : Rule) → RuleFits into x → RulesFit into (x ∷ [])
fit_one into x h zero r is = let e : x ≡ r = cc in subst (λ (y : Rule). RuleFits into y) e h
fit_one into x h (suc k) r is = cc

fit_none : (into : List TermNode) → RulesFit into []
fit_none into k r is = cc

module _ (q : Linked) (base into : List TermNode) (places : List (List ℕ)) (reach : List ℕ) (may : ℕ → ℕ → Bool) (there : BitsAreThere q) (bools : BitsAreBools q) (done : AreCopied q base into places)
    (reaches : (m : ℕ) → m < length q.tree → IsBool into (slice_index reach m)) where
  -- the copy of a bool is one
  pub copy_bool : (m k : ℕ) → m < length q.tree → k < length (nodes_of q m) → IsBool (nodes_of q m) k → IsBool into (term places m k)
  copy_bool m k l low b = (done.copying.parts m l).sorts_are k (let w = done.whole m l in omega (arith, low, w)) ∙ b

  over_fit : (m : ℕ) → m < length q.tree → RulesFit into (over q places reach m)
  over_fit zero l = fit_none into
  over_fit (suc m) l = fit_one into (record { when = slice_index reach (suc m); negated = false; one = term places (suc m) (ends_by (template_of q (suc m))); other = term places (suc m) (fails_by (template_of q (suc m))) }) (record {
    when = reaches (suc m) l;
    one = copy_bool (suc m) (ends_by (template_of q (suc m))) l (there.ends (suc m) l) (bools.ends (suc m) l);
    other = copy_bool (suc m) (fails_by (template_of q (suc m))) l (there.fails (suc m) l) (bools.fails (suc m) l);
  })

  cut_fit : (m i : ℕ) (b : Bool) (k : Option ℕ) (o : Option SiteTerms) → m < length q.tree → slice_get (sites_by (template_of q m)) i ≡ o → RulesFit into (cut_by (slice_index reach m) (term places m) b k o)
  cut_fit m i true k o l is = fit_none into
  cut_fit m i false (Some c) o l is = fit_none into
  cut_fit m i false None None l is = fit_none into
  cut_fit m i false None (Some s) l is = fit_one into (record { when = slice_index reach m; negated = true; one = term places m s.node; other = slice_index reach m }) (record {
    when = reaches m l;
    one = copy_bool m s.node l (there.sites m i s l is) (bools.sites m i s l is);
    other = reaches m l;
  })

  cuts_fit : (m n : ℕ) → m < length q.tree → RulesFit into (cuts_to q places reach may m n)
  cuts_fit m zero l = fit_none into
  cuts_fit m (suc n) l = fit_both into (cuts_to q places reach may m n) (cut q places reach may m n) (cuts_fit m n l)
      (cut_fit m n (may m n) (kid q m n) (slice_get (sites_by (template_of q m)) n) l refl)

  nodes_fit : (n : ℕ) → ((m : ℕ) → m < n → m < length q.tree) → RulesFit into (rules_to q places reach may n)
  nodes_fit zero l = fit_none into
  nodes_fit (suc n) l =
      let here : n < length q.tree = l n (omega arith) in
      fit_both into (rules_to q places reach may n) (over q places reach n ++ cuts_to q places reach may n (length (sites_by (template_of q n)))) (nodes_fit n (λ m low. l m (omega (arith, low))))
      (fit_both into (over q places reach n) (cuts_to q places reach may n (length (sites_by (template_of q n)))) (over_fit n here) (cuts_fit n (length (sites_by (template_of q n))) here))

  piece_fit : (always never : ℕ) (piece : List (ℕ × Decision2)) → IsBool into always → IsBool into never → ((k : ℕ) (d : ℕ × Decision2) → slice_get piece k ≡ Some d → d.0 < length q.tree)
      → RulesFit into (map (decided always never reach) piece)
  piece_fit always never [] a n h = fit_none into
  piece_fit always never ((m, Must) ∷ ds) a n h =
      fit_both into (decided always never reach (m, Must) ∷ []) (map (decided always never reach) ds)
      (fit_one into (decided always never reach (m, Must)) (record { when = a; one = reaches m (h 0 (m, Must) refl); other = n })) (piece_fit always never ds a n (λ k d is. h (suc k) d is))
  piece_fit always never ((m, Avoid) ∷ ds) a n h =
      fit_both into (decided always never reach (m, Avoid) ∷ []) (map (decided always never reach) ds)
      (fit_one into (decided always never reach (m, Avoid)) (record { when = a; one = reaches m (h 0 (m, Avoid) refl); other = n })) (piece_fit always never ds a n (λ k d is. h (suc k) d is))

pub rules_are_fit : RulesAreFit
rules_are_fit q base into places reach may always never piece there bools done reaches a n low =
    fit_both into (rules_to q places reach may (length q.tree)) (map (decided always never reach) piece)
    (nodes_fit q base into places reach may there bools done reaches (length q.tree) (λ m l. l)) (piece_fit q base into places reach may there bools done reaches always never piece a n low)
