-- When the constants are allowed, said by a bool among terms.
use Rattle.std.specs.Prelude.{◌≡◌, ℕ, Bool, true, false, not, List, slice_get, Option, None, Some}
use Rattle.std.specs.List.{list_all}
use Rattle.hy_val.specs.Stores.{same_value}
use Rattle.hy_val.specs.Values.{at}
use Rattle.hy_val.specs.declared.sort.Sort.{Sort}
use Rattle.hy_val.specs.declared.sort.SortKind.TheVariants.{Scalar as ScalarSort, Map as MapSort}
use Rattle.hy_val.specs.declared.value.Value.{Value}
use Rattle.hy_term.specs.declared.node.TermNode.{TermNode}
use Rattle.flat_prog.specs.Program.{FlatProgram}
use Rattle.flat_prog.specs.Runs.{are_allowed}
use Rattle.tree_terms.specs.Rules.{IsBit}
use Rattle.tree_terms.specs.Standing.{all_at}

abbrev pub scalar_by : Option Sort → Bool
scalar_by None = false
scalar_by (Some (ScalarSort s)) = true
scalar_by (Some (MapSort index elem)) = false

-- the constant of a number is there, and no map
abbrev pub is_scalar_at : List Sort → ℕ → Bool
is_scalar_at sorts n = scalar_by (slice_get sorts n)

-- none of these constants is a map
abbrev pub are_scalars : List Sort → List ℕ → Bool
are_scalars sorts ns = list_all (is_scalar_at sorts) ns

-- the constants of two numbers differ
abbrev pub differ : List Value → ℕ → ℕ → Bool
differ vs n m = not (same_value (at vs n) (at vs m))

-- a bool that is true where the constants are allowed, by their terms; none where a unique constant is a map
abbrev pub SaysAllowed : FlatProgram → (old new : List TermNode) → (consts : List ℕ) → Option ℕ → Type 0
SaysAllowed flat old new consts (Some t) = (are_scalars flat.consts flat.uniques ≡ true) × IsBit old new (λ a. are_allowed flat (all_at a old consts)) t
SaysAllowed flat old new consts None = are_scalars flat.consts flat.uniques ≡ false
