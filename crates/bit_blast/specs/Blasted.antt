-- Nets that mean terms without maps: the inputs are the bits of the variables' values, and the root is true where the terms hold.
use Rattle.std.specs.Prelude.{◌≡◌, ℕ, zero, suc, ◌+◌, ◌*◌, ◌/◌, ◌%◌, max, nat_eq, Bool, List, [], ◌∷◌, ◌++◌, map, take, drop, slice_get, Option, None, Some, IsTrue}
use Rattle.hy_val.specs.Values.{atom_of}
use Rattle.hy_val.specs.declared.sort.Scalar.{Scalar}
use Rattle.hy_val.specs.declared.sort.ScalarKind.TheVariants.{Bool as BoolSort, Bv as BvSort}
use Rattle.hy_val.specs.declared.sort.Sort.{Sort}
use Rattle.hy_val.specs.declared.sort.SortKind.TheVariants.{Scalar as ScalarSort, Map as MapSort}
use Rattle.hy_val.specs.declared.atom.Atom.{Atom}
use Rattle.hy_val.specs.declared.atom.AtomKind.TheVariants.{Bool as BoolAtom, Bv as BvAtom}
use Rattle.hy_val.specs.declared.value.Value.{Value}
use Rattle.hy_val.specs.declared.value.Value.TheVariants.{Atom as AtomValue}
use Rattle.hy_term.specs.Formula.{Formula}
use Rattle.hy_term.specs.TermSorts.{sort_at}
use Rattle.hy_term.specs.Meaning.{fits, holds}
use Rattle.hy_term.specs.Variables.{variables, numbers_of, numbers, have_sorts, of_list, are_scalars}
use Rattle.hy_term.specs.declared.node.TermNode.{TermNode}
use Rattle.hy_term.specs.declared.node.TermNode.TheVariants.{Lit, ZeroMap, Variable, Unary, Binary, If, Select, Store}
use Rattle.hy_term.specs.declared.node.TermVariable.{TermVariable}
use Rattle.gate_net.specs.Net.{value}
use Rattle.gate_net.specs.declared.net.Net.{Net}

-- how many bits the values of a sort have: a bool one
abbrev pub scalar_width : Scalar → ℕ
scalar_width BoolSort = 1
scalar_width (BvSort w) = w

abbrev pub sort_width : Sort → ℕ
sort_width (ScalarSort s) = scalar_width s
sort_width (MapSort index elem) = 0

-- so many bits of a number, lowest first
abbrev pub low_bits : ℕ → ℕ → List Bool
low_bits zero n = []
low_bits (suc w) n = nat_eq (n % 2) 1 ∷ low_bits w (n / 2)

-- the bits of a value, lowest first: a bool as one
abbrev pub atom_bits : Atom → List Bool
atom_bits (BoolAtom b) = b ∷ []
atom_bits (BvAtom v) = low_bits v.width v.bits

abbrev pub value_bits : Value → List Bool
value_bits v = atom_bits (atom_of v)

-- the bits of the variables' values, one behind the other
abbrev pub input_bits : List TermVariable → (ℕ → Value) → List Bool
input_bits [] a = []
input_bits (v ∷ vs) a = value_bits (a v.number) ++ input_bits vs a

abbrev pub input_count : List TermVariable → ℕ
input_count [] = 0
input_count (v ∷ vs) = sort_width v.sort + input_count vs

-- the net's inputs are the bits of the variables' values, ascending by number, and for each choice of values that have their sorts the
-- root carries whether the terms hold
pub record IsNetOf (f : Formula) (net : Net) : Type 0 where
  pub inputs : net.inputs ≡ input_count (variables f.nodes)
  pub means : (a : ℕ → Value) → IsTrue (fits a f.nodes) → value (input_bits (variables f.nodes) a) net.gates.items net.root ≡ holds a f

-- the assignment that a list of atoms stands for, one for each variable, ascending by number
abbrev pub assigned : List TermNode → List Atom → ℕ → Value
assigned nodes atoms = of_list (numbers nodes) (map (λ (x : Atom). AtomValue x) atoms)

-- the inputs of a variable carry the bits of its value
abbrev pub InputsOfVariables : Type 0
InputsOfVariables =
    (vs : List TermVariable) (a : ℕ → Value) (i : ℕ) (v : TermVariable) → IsTrue (are_scalars vs) → IsTrue (have_sorts vs (map a (numbers_of vs))) → slice_get vs i ≡ Some v
    → take (sort_width v.sort) (drop (input_count (take i vs)) (input_bits vs a)) ≡ value_bits (a v.number)

-- ---- how many gates

abbrev pub width_of : Option Sort → ℕ
width_of None = 0
width_of (Some sort) = sort_width sort

-- the width of the node k, a bool as 1
abbrev pub node_width : List TermNode → ℕ → ℕ
node_width nodes k = width_of (sort_at nodes k)

abbrev pub children : TermNode → List ℕ
children (Lit a) = []
children (ZeroMap index elem) = []
children (Variable number sort) = []
children (Unary op child) = child ∷ []
children (Binary op left right) = left ∷ right ∷ []
children (If test one other) = test ∷ one ∷ other ∷ []
children (Select map index) = map ∷ index ∷ []
children (Store map index value) = map ∷ index ∷ value ∷ []

abbrev pub greatest : List ℕ → ℕ
greatest [] = 0
greatest (n ∷ ns) = max n (greatest ns)

-- the greatest width of a node and its children
abbrev pub reach : List TermNode → ℕ → TermNode → ℕ
reach nodes k node = greatest (map (node_width nodes) (k ∷ children node))

-- 64 w^2 gates for each node from k on, where w is the greatest width of it and its children
abbrev pub gates_from : List TermNode → ℕ → List TermNode → ℕ
gates_from nodes k [] = 0
gates_from nodes k (node ∷ rest) = 64 * (reach nodes k node * reach nodes k node) + gates_from nodes (suc k) rest

abbrev pub most_gates : List TermNode → ℕ
most_gates nodes = gates_from nodes 0 nodes
