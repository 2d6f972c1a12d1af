-- Waiting edges that are the same as far as it matters: the variables of an edge that isn't live are left open.
use Rattle.std.specs.Prelude.{◌≡◌, true, List, [], ◌∷◌}
use Rattle.vc_gen.specs.Fold.{Edge}

abbrev pub Alike : List Edge → List Edge → Type 0
Alike [] [] = Unit {0}
Alike [] (f ∷ fs) = ⊥
Alike (e ∷ es) [] = ⊥
Alike (e ∷ es) (f ∷ fs) = ((e.target ≡ f.target) × (e.live ≡ f.live) × (f.live ≡ true → e.env ≡ f.env)) × Alike es fs
