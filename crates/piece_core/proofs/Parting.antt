-- Nodes behind a split, where its parts are known under other names.
use Rattle.std.proofs.Common.{◌≡◌, ℕ, List, [], ◌∷◌, ◌++◌, set, ap, ap₂, ◌∙◌}
use Rattle.piece_core.specs.declared.leaves.Leaf.{Leaf}
use Rattle.piece_core.specs.declared.leaves.Status2.TheVariants.{Split as SplitNode}

pub parted : (nodes : List Leaf) (node : ℕ) (leaf : Leaf) (site same_site : List ℕ) (must same_must avoid same_avoid : Leaf) → site ≡ same_site → must ≡ same_must → avoid ≡ same_avoid
    → set nodes node (record leaf { status = SplitNode site }) ++ must ∷ avoid ∷ [] ≡ set nodes node (record leaf { status = SplitNode same_site }) ++ same_must ∷ same_avoid ∷ []
parted nodes node leaf site same_site must same_must avoid same_avoid s m a =
    ap (λ (x : List ℕ). set nodes node (record leaf { status = SplitNode x }) ++ must ∷ avoid ∷ []) s
    ∙ ap₂ (λ (x y : Leaf). set nodes node (record leaf { status = SplitNode same_site }) ++ x ∷ y ∷ []) m a
