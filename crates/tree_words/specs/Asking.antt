-- The rules of a question: those of the nodes in the order of the tree, and of each of its sites by number, then those of the piece.
use Rattle.std.specs.Prelude.{ℕ, zero, suc, Bool, true, false, List, [], ◌∷◌, ◌++◌, map, length, slice_get, slice_index, Option, None, Some}
use Rattle.call_tree.specs.declared.piece.Decision2.{Decision2}
use Rattle.call_tree.specs.declared.piece.Decision2.TheVariants.{Must, Avoid}
use Rattle.tree_terms.specs.declared.linked.Linked.{Linked}
use Rattle.tree_terms.specs.declared.linked.SiteTerms.{SiteTerms}
use Rattle.tree_terms.specs.Linked.{template_of, kid}
use Rattle.tree_terms.specs.declared.rules.Rule.{Rule}
use Rattle.tree_words.specs.Linking.{sites_by, ends_by, fails_by}
use Rattle.tree_words.specs.Rooting.{term}

-- what a table does not say is false
abbrev pub flag_by : Option Bool → Bool
flag_by None = false
flag_by (Some b) = b

abbrev pub flags_by : Option (List Bool) → List Bool
flags_by None = []
flags_by (Some bs) = bs

-- whether a site without a node may be passed, by a table
abbrev pub may_by : List (List Bool) → ℕ → ℕ → Bool
may_by table m i = flag_by (slice_get (flags_by (slice_get table m)) i)

-- A node that is reached ends or fails. The root has no such rule, since the question says by itself that it fails.
abbrev pub over : Linked → List (List ℕ) → List ℕ → ℕ → List Rule
over q places reach zero = []
over q places reach (suc m) =
    record { when = slice_index reach (suc m); negated = false; one = term places (suc m) (ends_by (template_of q (suc m))); other = term places (suc m) (fails_by (template_of q (suc m))) } ∷ []

-- a site without a node that may not be passed is not passed by its node, where that is reached
abbrev pub cut_by : (when : ℕ) → (place : ℕ → ℕ) → Bool → Option ℕ → Option SiteTerms → List Rule
cut_by when place true k s = []
cut_by when place false (Some c) s = []
cut_by when place false None None = []
cut_by when place false None (Some s) = record { when = when; negated = true; one = place s.node; other = when } ∷ []

abbrev pub cut : Linked → List (List ℕ) → List ℕ → (ℕ → ℕ → Bool) → ℕ → ℕ → List Rule
cut q places reach may m i = cut_by (slice_index reach m) (term places m) (may m i) (kid q m i) (slice_get (sites_by (template_of q m)) i)

-- those of the first sites of a node
abbrev pub cuts_to : Linked → List (List ℕ) → List ℕ → (ℕ → ℕ → Bool) → ℕ → ℕ → List Rule
cuts_to q places reach may m zero = []
cuts_to q places reach may m (suc i) = cuts_to q places reach may m i ++ cut q places reach may m i

-- those of the first nodes
abbrev pub rules_to : Linked → List (List ℕ) → List ℕ → (ℕ → ℕ → Bool) → ℕ → List Rule
rules_to q places reach may zero = []
rules_to q places reach may (suc n) = rules_to q places reach may n ++ (over q places reach n ++ cuts_to q places reach may n (length (sites_by (template_of q n))))

-- the rule of a decision on a node, by its number: the node is reached, or it is not
abbrev pub decided : (always never : ℕ) → List ℕ → ℕ × Decision2 → Rule
decided always never reach (m, Must) = record { when = always; negated = false; one = slice_index reach m; other = never }
decided always never reach (m, Avoid) = record { when = always; negated = true; one = slice_index reach m; other = never }

-- all rules; always and never are bools that are true and false
abbrev pub rules_of : Linked → List (List ℕ) → List ℕ → (ℕ → ℕ → Bool) → (always never : ℕ) → List (ℕ × Decision2) → List Rule
rules_of q places reach may always never piece = rules_to q places reach may (length q.tree) ++ map (decided always never reach) piece
