-- What terms mean under an assignment of a value to every variable number. An operator's meaning is that of the expressions' nodes.
use Rattle.std.specs.Prelude.{◌≡◌, ℕ, ◌-◌, ◌<◌, nat_lt, Bool, true, ◌&&◌, List, [], ◌∷◌, ◌++◌, length, if◌then◌else◌, IsTrue}
use Rattle.hy_val.specs.Values.{zero_of, has_sort, at, is_on, unary_value, binary_value, pick, select_value, store_value}
use Rattle.hy_val.specs.declared.sort.SortKind.TheVariants.{Map as MapSort}
use Rattle.hy_val.specs.declared.value.Value.{Value}
use Rattle.hy_val.specs.declared.value.Value.TheVariants.{Atom as AtomValue}
use Rattle.hy_term.specs.Formula.{Formula}
use Rattle.hy_term.specs.declared.node.TermNode.{TermNode}
use Rattle.hy_term.specs.declared.node.TermNode.TheVariants.{Lit, ZeroMap, Variable, Unary, Binary, If, Select, Store}

-- the value of a node, from those of the nodes before it
abbrev pub node_value : (ℕ → Value) → List Value → TermNode → Value
node_value a known (Lit v) = AtomValue v
node_value a known (ZeroMap index elem) = zero_of (MapSort index elem)
node_value a known (Variable number sort) = a number
node_value a known (Unary op child) = unary_value op (at known child)
node_value a known (Binary op left right) = binary_value op (at known left) (at known right)
node_value a known (If test one other) = pick (at known test) (at known one) (at known other)
node_value a known (Select map index) = select_value (at known map) (at known index)
node_value a known (Store map index value) = store_value (at known map) (at known index) (at known value)

-- the values of all nodes, behind those that are known
abbrev pub values_onto : (ℕ → Value) → List Value → List TermNode → List Value
values_onto a known [] = known
values_onto a known (node ∷ nodes) = values_onto a (known ++ node_value a known node ∷ []) nodes

abbrev pub values : (ℕ → Value) → List TermNode → List Value
values a nodes = values_onto a [] nodes

-- the value of the node t
abbrev pub value : (ℕ → Value) → List TermNode → ℕ → Value
value a nodes t = at (values a nodes) t

-- the root is true
abbrev pub holds : (ℕ → Value) → Formula → Bool
holds a f = is_on (value a f.nodes f.root)

-- each variable's value has its sort
abbrev pub node_fits : (ℕ → Value) → TermNode → Bool
node_fits a (Lit v) = true
node_fits a (ZeroMap index elem) = true
node_fits a (Variable number sort) = has_sort (a number) sort
node_fits a (Unary op child) = true
node_fits a (Binary op left right) = true
node_fits a (If test one other) = true
node_fits a (Select map index) = true
node_fits a (Store map index value) = true

abbrev pub fits : (ℕ → Value) → List TermNode → Bool
fits a [] = true
fits a (node ∷ nodes) = node_fits a node && fits a nodes

-- some values of the variables, which have their sorts, make the root true
abbrev pub CanHold : Formula → Type 0
CanHold f = (a : ℕ → Value) × IsTrue (fits a f.nodes) × (holds a f ≡ true)

-- the term is there, and means this under every assignment
abbrev pub Denotes : List TermNode → ℕ → ((ℕ → Value) → Value) → Type 0
Denotes nodes t meaning = (t < length nodes) × ((a : ℕ → Value) → value a nodes t ≡ meaning a)

-- more nodes stand behind the old ones
abbrev pub Grows : List TermNode → List TermNode → Type 0
Grows old new = (more : List TermNode) × (new ≡ old ++ more)

-- a below a number, and from there on the values of a list
abbrev pub extended : (ℕ → Value) → ℕ → List Value → ℕ → Value
extended a k vs n = if nat_lt n k then a n else at vs (n - k)
