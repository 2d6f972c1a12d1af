-- A rule more.
use Rattle.std.proofs.Common.{◌≡◌, ℕ, suc, ◌+◌, Bool, List, ◌++◌, length, ap, ◌∙◌, arith, append_assoc}
use Rattle.tree_terms.specs.declared.linked.Linked.{Linked}
use Rattle.tree_terms.specs.Linked.{template_of}
use Rattle.tree_terms.specs.declared.rules.Rule.{Rule}
use Rattle.tree_words.specs.Linking.{sites_by}
use Rattle.tree_words.specs.Asking.{over, cut, cuts_to, rules_to}

pub cuts_more : (q : Linked) (places : List (List ℕ)) (reach : List ℕ) (may : ℕ → ℕ → Bool) (m i : ℕ) (first old new : List Rule) → old ≡ first ++ cuts_to q places reach may m i
    → new ≡ old ++ cut q places reach may m i → new ≡ first ++ cuts_to q places reach may m (i + 1)
cuts_more q places reach may m i first old new h p =
    let e : suc i ≡ i + 1 = omega arith in
    p ∙ (ap (λ (rs : List Rule). rs ++ cut q places reach may m i) h ∙ (append_assoc first (cuts_to q places reach may m i) (cut q places reach may m i)
    ∙ ap (λ (k : ℕ). first ++ cuts_to q places reach may m k) e))

pub node_more : (q : Linked) (places : List (List ℕ)) (reach : List ℕ) (may : ℕ → ℕ → Bool) (m : ℕ) (old mid new : List Rule) → old ≡ rules_to q places reach may m → mid ≡ old ++ over q places reach m
    → new ≡ mid ++ cuts_to q places reach may m (length (sites_by (template_of q m))) → new ≡ rules_to q places reach may (m + 1)
node_more q places reach may m old mid new h p r =
    let e : suc m ≡ m + 1 = omega arith in
    let cuts = cuts_to q places reach may m (length (sites_by (template_of q m))) in
    r ∙ (ap (λ (rs : List Rule). rs ++ cuts) (p ∙ ap (λ (rs : List Rule). rs ++ over q places reach m) h)
    ∙ (append_assoc (rules_to q places reach may m) (over q places reach m) cuts ∙ ap (rules_to q places reach may) e))
