-- What meets a piece, where the same paths are reached.
use Rattle.std.proofs.Common.{◌≡◌, ℕ, Bool, true, not, List, [], ◌∷◌, refl, ap, ◌∙◌}
use Rattle.std.proofs.lemmas.Bool.{and_parts, and_from}
use Rattle.call_tree.specs.declared.piece.Decision2.{Decision2}
use Rattle.call_tree.specs.declared.piece.Decision2.TheVariants.{Must, Avoid}
use Rattle.call_tree.specs.Pieces.{meets}
use Rattle.tree_words.specs.Question.{named}

-- the same of all paths
pub meets_alike : (f g : List ℕ → Bool) → ((p : List ℕ) → f p ≡ g p) → (ds : List (List ℕ × Decision2)) → meets g ds ≡ true → meets f ds ≡ true
meets_alike f g e [] h = refl
meets_alike f g e ((p, Must) ∷ ds) h =
    let d = and_parts (g p) (meets g ds) h in
    and_from (f p) (meets f ds) (e p ∙ d.0) (meets_alike f g e ds d.1)
meets_alike f g e ((p, Avoid) ∷ ds) h =
    let d = and_parts (not (g p)) (meets g ds) h in
    and_from (not (f p)) (meets f ds) (ap not (e p) ∙ d.0) (meets_alike f g e ds d.1)

-- the same of the paths of nodes, where the piece names nodes
pub meets_same : (is_node : List ℕ → Bool) (f g : List ℕ → Bool) → ((p : List ℕ) → is_node p ≡ true → f p ≡ g p) → (piece : List (List ℕ × Decision2)) → named is_node piece ≡ true → meets g piece ≡ true → meets f piece ≡ true
meets_same is_node f g same [] named h = refl
meets_same is_node f g same ((p, Must) ∷ ds) names h =
    let n = and_parts (is_node p) (named is_node ds) names in
    let d = and_parts (g p) (meets g ds) h in
    and_from (f p) (meets f ds) (same p n.0 ∙ d.0) (meets_same is_node f g same ds n.1 d.1)
meets_same is_node f g same ((p, Avoid) ∷ ds) names h =
    let n = and_parts (is_node p) (named is_node ds) names in
    let d = and_parts (not (g p)) (meets g ds) h in
    and_from (not (f p)) (meets f ds) (ap not (same p n.0) ∙ d.0) (meets_same is_node f g same ds n.1 d.1)
