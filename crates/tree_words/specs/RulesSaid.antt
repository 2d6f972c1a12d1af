-- Laws of a question's rules: they say what the root has to, and are over bools.
use Rattle.std.specs.Prelude.{◌≡◌, ◌<◌, ◌↔◌, ℕ, Bool, true, false, List, map, length, slice_get, slice_index, Some}
use Rattle.hy_term.specs.declared.node.TermNode.{TermNode}
use Rattle.call_tree.specs.declared.piece.Decision2.{Decision2}
use Rattle.tree_terms.specs.declared.linked.Linked.{Linked}
use Rattle.tree_terms.specs.declared.linked.SiteTerms.{SiteTerms}
use Rattle.tree_terms.specs.Linked.{template_of, nodes_of}
use Rattle.tree_terms.specs.Copying.{AreCopied}
use Rattle.tree_terms.specs.Rules.{IsBool, RulesFit, rules_hold}
use Rattle.tree_words.specs.Linking.{number, ends_by, fails_by, sites_by}
use Rattle.tree_words.specs.Rooting.{RulesSay, BitsAreThere}
use Rattle.tree_words.specs.Asking.{rules_of}

-- a piece by the numbers of its nodes
abbrev pub numbered : Linked → List (List ℕ × Decision2) → List (ℕ × Decision2)
numbered q piece = map (λ (d : List ℕ × Decision2). (number q d.0, d.1)) piece

-- the rules of a tree and a piece hold exactly where what they are to say is so
abbrev pub RulesAreSaid : Type 0
RulesAreSaid =
    (q : Linked) (places : List (List ℕ)) (reach : List ℕ) (may : ℕ → ℕ → Bool) (always never : ℕ) (piece : List (List ℕ × Decision2)) (v : ℕ → Bool) → v always ≡ true → v never ≡ false
    → (rules_hold v (rules_of q places reach may always never (numbered q piece)) ≡ true) ↔ RulesSay q places reach may piece v

-- the bits of the formulas are bools
pub record BitsAreBools (q : Linked) : Type 0 where
  pub ends : (m : ℕ) → m < length q.tree → IsBool (nodes_of q m) (ends_by (template_of q m))
  pub fails : (m : ℕ) → m < length q.tree → IsBool (nodes_of q m) (fails_by (template_of q m))
  pub sites : (m i : ℕ) (s : SiteTerms) → m < length q.tree → slice_get (sites_by (template_of q m)) i ≡ Some s → IsBool (nodes_of q m) s.node

-- the rules are over bools
-- the rules are over bools, where the bits of the formulas and those of the nodes are, and the decisions are on nodes
abbrev pub RulesAreFit : Type 0
RulesAreFit =
    (q : Linked) (base into : List TermNode) (places : List (List ℕ)) (reach : List ℕ) (may : ℕ → ℕ → Bool) (always never : ℕ) (piece : List (ℕ × Decision2)) → BitsAreThere q → BitsAreBools q
    → AreCopied q base into places → ((m : ℕ) → m < length q.tree → IsBool into (slice_index reach m)) → IsBool into always → IsBool into never
    → ((k : ℕ) (d : ℕ × Decision2) → slice_get piece k ≡ Some d → d.0 < length q.tree) → RulesFit into (rules_of q places reach may always never piece)
