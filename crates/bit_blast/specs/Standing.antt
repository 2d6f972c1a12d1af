-- What stands of the net of terms while it is made: the wires of the nodes so far. No public clause cites it.
use Rattle.std.specs.Prelude.{◌≡◌, ℕ, ◌+◌, ◌<◌, ◌≤◌, Bool, true, false, List, [], ◌∷◌, length, take, drop, slice_get, Some, IsTrue}
use Rattle.hy_val.specs.declared.sort.Scalar.{Scalar}
use Rattle.hy_val.specs.declared.sort.ScalarKind.TheVariants.{Bool as BoolSort, Bv as BvSort}
use Rattle.hy_val.specs.declared.sort.Sort.{Sort}
use Rattle.hy_val.specs.declared.sort.SortKind.TheVariants.{Scalar as ScalarSort, Map as MapSort}
use Rattle.hy_val.specs.declared.atom.Atom.{Atom}
use Rattle.hy_val.specs.declared.atom.AtomKind.TheVariants.{Bool as BoolAtom, Bv as BvAtom}
use Rattle.hy_val.specs.declared.value.Value.{Value}
use Rattle.hy_term.specs.Meaning.{fits, value}
use Rattle.hy_term.specs.Variables.{variables}
use Rattle.hy_term.specs.Laws.{EachNodeHasItsSort, EachNodeHasItsValue, EachValueHasItsSort, FitsByVariables, ListsFit, PlainVariablesAreScalars, VariablesAreListed, VariablesAscend}
use Rattle.hy_term.specs.declared.node.TermNode.{TermNode}
use Rattle.hy_term.specs.declared.node.TermVariable.{TermVariable}
use Rattle.gate_net.specs.declared.net.Net.{Net}
use Rattle.bit_blast.specs.Words.{number, bits, IsWord, Says}
use Rattle.bit_blast.specs.Blasted.{sort_width, value_bits, input_bits, input_count, node_width}

-- the laws of terms that stand below
pub record TermLaws : Type 0 where
  pub value : EachNodeHasItsValue
  pub sort : EachNodeHasItsSort
  pub typed : EachValueHasItsSort
  pub listed : VariablesAreListed
  pub scalars : PlainVariablesAreScalars
  pub ascend : VariablesAscend
  pub fits : FitsByVariables
  pub lists : ListsFit

-- the wires carry the bits of the node's value, for each choice of values of the variables
pub record CarriesNode (nodes : List TermNode) (net : Net) (k : ℕ) (ws : List ℕ) : Type 0 where
  pub wires : IsWord net (node_width nodes k) ws
  pub some : 0 < length ws
  pub narrow : length ws ≤ 64
  pub means : (a : ℕ → Value) → IsTrue (fits a nodes) → bits (input_bits (variables nodes) a) net ws ≡ value_bits (value a nodes k)

-- the first two gates are the constants
pub record HasConstants (net : Net) : Type 0 where
  pub there : 2 ≤ length net.gates.items
  pub never : Says net net.inputs (λ ins. false)
  pub always : Says net (net.inputs + 1) (λ ins. true)

-- each of the words carries the bits of its node's value
pub record Stands (nodes : List TermNode) (net : Net) (words : List (List ℕ)) : Type 0 where
  pub inputs : net.inputs ≡ input_count (variables nodes)
  pub constants : HasConstants net
  pub each : (k : ℕ) (ws : List ℕ) → slice_get words k ≡ Some ws → CarriesNode nodes net k ws

-- where the bits of each variable begin among the inputs
abbrev pub starts_from : ℕ → List TermVariable → List ℕ
starts_from first [] = []
starts_from first (v ∷ vs) = first ∷ starts_from (first + sort_width v.sort) vs

-- ---- values from bits

abbrev pub first_bit : List Bool → Bool
first_bit [] = false
first_bit (b ∷ bs) = b

abbrev pub atom_read : Scalar → List Bool → Atom
atom_read BoolSort bs = BoolAtom (first_bit bs)
atom_read (BvSort w) bs = BvAtom (record { width = w; bits = number bs })

abbrev pub sort_read : Sort → List Bool → Atom
sort_read (ScalarSort s) bs = atom_read s bs
sort_read (MapSort index elem) bs = BoolAtom false

-- the atoms of the variables' sorts that have these bits, one behind the other
abbrev pub atoms_read : List TermVariable → List Bool → List Atom
atoms_read [] bs = []
atoms_read (v ∷ vs) bs = sort_read v.sort (take (sort_width v.sort) bs) ∷ atoms_read vs (drop (sort_width v.sort) bs)
