-- What the reduction of maps keeps: with the same values of the variables that aren't maps, the reduced terms can hold exactly where
-- the terms can.
use Rattle.std.specs.Prelude.{◌≡◌, ℕ, Bool, true, false, List, map, slice_get, Option, None, Some, IsTrue, ◌↔◌}
use Rattle.hy_val.specs.declared.atom.Atom.{Atom}
use Rattle.hy_val.specs.declared.sort.Scalar.{Scalar}
use Rattle.hy_val.specs.declared.sort.Sort.{Sort}
use Rattle.hy_val.specs.declared.sort.SortKind.TheVariants.{Scalar as ScalarSort, Map as MapSort}
use Rattle.hy_val.specs.declared.value.Value.{Value}
use Rattle.hy_val.specs.declared.value.Value.TheVariants.{Atom as AtomValue}
use Rattle.hy_term.specs.Formula.{Formula}
use Rattle.hy_term.specs.TermSorts.{sort_of_number}
use Rattle.hy_term.specs.Meaning.{fits, holds}
use Rattle.hy_term.specs.Variables.{numbers, of_list}
use Rattle.hy_term.specs.declared.node.TermNode.{TermNode}

-- a scalar sort is there
abbrev pub is_scalar_there : Option Sort → Bool
is_scalar_there None = false
is_scalar_there (Some (ScalarSort s)) = true
is_scalar_there (Some (MapSort index elem)) = false

-- the assignments agree on the variables of the nodes that aren't maps
abbrev pub AgreeOnScalars : List TermNode → (ℕ → Value) → (ℕ → Value) → Type 0
AgreeOnScalars nodes a b = (n : ℕ) → is_scalar_there (sort_of_number n nodes) ≡ true → a n ≡ b n

-- with these values of the source's variables that aren't maps, some values of the others make the root true
abbrev pub CanHoldWith : List TermNode → (ℕ → Value) → Formula → Type 0
CanHoldWith source chosen f = (a : ℕ → Value) × IsTrue (fits a f.nodes) × (holds a f ≡ true) × AgreeOnScalars source a chosen

-- whatever is chosen for the variables that aren't maps, both can hold or neither can
abbrev pub KeepsHolding : Formula → Formula → Type 0
KeepsHolding source reduced = (chosen : ℕ → Value) → CanHoldWith source.nodes chosen reduced ↔ CanHoldWith source.nodes chosen source

-- the source's variables that aren't maps are variables of the reduced terms, with their sorts
abbrev pub KeepsScalars : List TermNode → List TermNode → Type 0
KeepsScalars source reduced = (n : ℕ) (s : Scalar) → sort_of_number n source ≡ Some (ScalarSort s) → sort_of_number n reduced ≡ Some (ScalarSort s)

-- terms, and what they were reduced to
pub record Reduction : Type 0 where
  pub source : Formula
  pub reduced : Formula

-- the assignment that atoms for the variables of the nodes stand for
abbrev pub of_atoms : List TermNode → List Atom → ℕ → Value
of_atoms nodes atoms = of_list (numbers nodes) (map (λ (a : Atom). AtomValue a) atoms)

-- no two nodes are equal
abbrev pub AllDiffer : List TermNode → Type 0
AllDiffer nodes = (i j : ℕ) (node : TermNode) → slice_get nodes i ≡ Some node → slice_get nodes j ≡ Some node → i ≡ j
