-- What a run settles of the values of blocks: of the blocks that it passes all, of the others nothing.
use Rattle.std.specs.Prelude.{◌≡◌, ℕ, false, List, [], ◌∷◌, slice_get, Some}
use Rattle.flat_prog.specs.Local.{Result, Ended, Broken}
use Rattle.vc_gen.specs.Fold.{Given}
use Rattle.flat_prog.specs.Ordering.{is_in}

-- of a block: anything, these values, or those with which the run fails there
pub data Entry : Type 0 where
  Any : Entry
  Is : Given → Entry
  Stop : Entry

abbrev pub Keeps : (Given → Type 0) → ℕ → Entry → Given → Type 0
Keeps L n Any o = o.number ≡ n
Keeps L n (Is g) o = o ≡ g
Keeps L n Stop o = (o.number ≡ n) × L o

-- values of the blocks of an order that are as the plan says
abbrev pub Agree : (Given → Type 0) → List ℕ → List Entry → List Given → Type 0
Agree L [] [] [] = Unit {0}
Agree L [] [] (o ∷ os) = ⊥
Agree L [] (p ∷ ps) os = ⊥
Agree L (n ∷ ns) [] os = ⊥
Agree L (n ∷ ns) (p ∷ ps) [] = ⊥
Agree L (n ∷ ns) (p ∷ ps) (o ∷ os) = Keeps L n p o × Agree L ns ps os

-- what holds of the values that a plan settles, and of the blocks where it stops
abbrev pub Settled : (Given → Type 0) → (ℕ → Type 0) → ℕ → Entry → Type 0
Settled P T n Any = Unit {0}
Settled P T n (Is g) = (g.number ≡ n) × P g
Settled P T n Stop = T n

abbrev pub AllSettled : (Given → Type 0) → (ℕ → Type 0) → List ℕ → List Entry → Type 0
AllSettled P T [] [] = Unit {0}
AllSettled P T [] (p ∷ ps) = ⊥
AllSettled P T (n ∷ ns) [] = ⊥
AllSettled P T (n ∷ ns) (p ∷ ps) = Settled P T n p × AllSettled P T ns ps

-- nothing is settled of blocks that aren't on the path
abbrev pub Off : List ℕ → List ℕ → List Entry → Type 0
Off path [] [] = Unit {0}
Off path [] (p ∷ ps) = ⊥
Off path (n ∷ ns) [] = ⊥
Off path (n ∷ ns) (p ∷ ps) = (is_in n path ≡ false → p ≡ Any) × Off path ns ps

-- the run stops in a block of this number
abbrev pub StopsAt : ℕ → List ℕ → List Entry → Type 0
StopsAt c ns plan = (i : ℕ) × (slice_get ns i ≡ Some c) × (slice_get plan i ≡ Some Stop)

-- a result, with another assert that a callee fails in
abbrev pub recast : ℕ → ℕ → Result → Result
recast a b (Ended os gs) = Ended os gs
recast a b (Broken p n) = Broken a b
