-- Trees of splits, and the pieces at their ends.
use Rattle.std.specs.Prelude.{◌≡◌, ℕ, Bool, ◌&&◌, List, [], ◌∷◌, ◌++◌, IsTrue, count_by}
use Rattle.flat_prog.specs.Program.{FlatProgram}
use Rattle.flat_prog.specs.Shape.{IsFlat}
use Rattle.flat_prog.specs.Trees.{Run}
use Rattle.flat_prog.specs.Runs.{NoneFails}
use Rattle.call_tree.specs.declared.piece.Decision2.{Decision2}
use Rattle.call_tree.specs.declared.piece.Decision2.TheVariants.{Must, Avoid}
use Rattle.call_tree.specs.Trees.{are_in, IsPartTree}
use Rattle.call_tree.specs.Pieces.{is_kept, meets, names_of}
use Rattle.call_tree.specs.Questions.{IsOver}

-- each split is on a site, and has a part in which it is reached and one in which it is not
pub data Splits : Type 0 where
  leaf : Splits
  split : (site : List ℕ) → (must avoid : Splits) → Splits

-- the pieces at the ends, where the whole has this one
abbrev pub pieces_of : Splits → List (List ℕ × Decision2) → List (List (List ℕ × Decision2))
pieces_of leaf piece = piece ∷ []
pieces_of (split site must avoid) piece = pieces_of must (piece ++ (site, Must) ∷ []) ++ pieces_of avoid (piece ++ (site, Avoid) ∷ [])

-- one decision more is one more to be kept
abbrev pub DecisionLaw : Type 0
DecisionLaw = (reached : List ℕ → Bool) (piece : List (List ℕ × Decision2)) (decision : List ℕ × Decision2) → meets reached (piece ++ decision ∷ []) ≡ (meets reached piece && is_kept reached decision)

-- whatever is reached meets exactly one piece
abbrev pub CoverLaw : Type 0
CoverLaw = (reached : List ℕ → Bool) (splits : Splits) → count_by (meets reached) (pieces_of splits []) ≡ 1

-- the over question has no member, for some partial tree with all paths that the piece names
pub record IsClosed (flat : FlatProgram) (entry bound : ℕ) (piece : List (List ℕ × Decision2)) : Type 0 where
  pub tree : List (List ℕ)
  pub is : IsPartTree flat entry bound tree
  pub names : IsTrue (are_in (names_of piece) tree)
  pub none : (run : Run) → IsOver flat entry bound tree piece run → ⊥

abbrev pub AllClosed : FlatProgram → (entry bound : ℕ) → List (List (List ℕ × Decision2)) → Type 0
AllClosed flat entry bound [] = Unit {0}
AllClosed flat entry bound (piece ∷ pieces) = IsClosed flat entry bound piece × AllClosed flat entry bound pieces

-- where all pieces are closed, no run within the caps fails
abbrev pub SafeLaw : Type 0
SafeLaw = (flat : FlatProgram) (entry bound : ℕ) (splits : Splits) → IsFlat flat → AllClosed flat entry bound (pieces_of splits []) → NoneFails flat entry bound
