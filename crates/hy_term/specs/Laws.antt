-- Laws of terms.
use Rattle.std.specs.Prelude.{◌≡◌, ℕ, ◌<◌, List, [], ◌∷◌, ◌++◌, length, map, take, slice_get, None, Some, ◌↔◌, IsTrue, IsSome}
use Rattle.hy_val.specs.declared.value.Value.{Value}
use Rattle.hy_val.specs.Values.{has_sort}
use Rattle.hy_val.specs.declared.sort.Sort.{Sort}
use Rattle.hy_term.specs.TermSorts.{sort_of_node, sorts, sort_at, sort_of_number, agree_onto, are_plain}
use Rattle.hy_term.specs.Meaning.{node_value, values, value, fits, extended}
use Rattle.hy_term.specs.Variables.{variables, numbers, ascend, have_sorts, are_scalars, count_below, of_list, Agree, below, reads}
use Rattle.hy_term.specs.declared.node.TermNode.{TermNode}
use Rattle.hy_term.specs.declared.node.TermNode.TheVariants.{Variable}

-- a node's value is that of its operator on the values of all nodes
abbrev pub EachNodeHasItsValue : Type 0
EachNodeHasItsValue =
    (a : ℕ → Value) (nodes : List TermNode) (k : ℕ) (node : TermNode) → IsSome (sorts nodes) → slice_get nodes k ≡ Some node
    → value a nodes k ≡ node_value a (values a nodes) node

-- nodes that are added leave the values of the others
abbrev pub ValuesStay : Type 0
ValuesStay = (a : ℕ → Value) (nodes more : List TermNode) (t : ℕ) → t < length nodes → value a (nodes ++ more) t ≡ value a nodes t

abbrev pub NewValue : Type 0
NewValue = (a : ℕ → Value) (nodes : List TermNode) (node : TermNode) → value a (nodes ++ node ∷ []) (length nodes) ≡ node_value a (values a nodes) node

-- only the variables that stand in the nodes matter
abbrev pub VariablesAloneMatter : Type 0
VariablesAloneMatter =
    (a b : ℕ → Value) (nodes : List TermNode) → Agree a b (numbers nodes) → (values a nodes ≡ values b nodes) × (fits a nodes ≡ fits b nodes)

-- the list of an assignment's values for the variables that stand in the nodes says the same
abbrev pub ListsSuffice : Type 0
ListsSuffice =
    (a : ℕ → Value) (nodes : List TermNode)
    → (values (of_list (numbers nodes) (map a (numbers nodes))) nodes ≡ values a nodes) × (fits (of_list (numbers nodes) (map a (numbers nodes))) nodes ≡ fits a nodes)

-- values for variables whose numbers are above those of the nodes leave the nodes' values, and are read back
abbrev pub NewVariables : Type 0
NewVariables =
    (a : ℕ → Value) (k : ℕ) (vs : List Value) (nodes : List TermNode) → IsTrue (below k nodes)
    → (values (extended a k vs) nodes ≡ values a nodes) × (fits (extended a k vs) nodes ≡ fits a nodes) × (reads (extended a k vs) k (length vs) ≡ vs)

-- a number above those of the nodes has no sort yet
abbrev pub AboveIsFree : Type 0
AboveIsFree = (k : ℕ) (nodes : List TermNode) → IsTrue (below k nodes) → sort_of_number k nodes ≡ None

-- where the variables' values have their sorts, each node's value has the node's
abbrev pub EachValueHasItsSort : Type 0
EachValueHasItsSort =
    (a : ℕ → Value) (nodes : List TermNode) (k : ℕ) (sort : Sort) → IsTrue (fits a nodes) → sort_at nodes k ≡ Some sort → IsTrue (has_sort (value a nodes k) sort)

-- each variable stands once in the list of the variables
abbrev pub VariablesAscend : Type 0
VariablesAscend = (nodes : List TermNode) → IsTrue (ascend (numbers nodes))

-- an assignment fits exactly where its values for the list of the variables have their sorts
abbrev pub FitsByVariables : Type 0
FitsByVariables =
    (a : ℕ → Value) (nodes : List TermNode) → IsTrue (agree_onto [] nodes) → IsTrue (fits a nodes) ↔ IsTrue (have_sorts (variables nodes) (map a (numbers nodes)))

-- the assignment that a list of values stands for has these values
abbrev pub ListsAreRead : Type 0
ListsAreRead = (ms : List ℕ) (vs : List Value) → IsTrue (ascend ms) → length vs ≡ length ms → map (of_list ms vs) ms ≡ vs

-- values of the variables' sorts, one for each, stand for an assignment that fits
abbrev pub ListsFit : Type 0
ListsFit =
    (nodes : List TermNode) (vs : List Value) → IsTrue (agree_onto [] nodes) → IsTrue (have_sorts (variables nodes) vs)
    → IsTrue (fits (of_list (numbers nodes) vs) nodes) × (map (of_list (numbers nodes) vs) (numbers nodes) ≡ vs)

-- the sort of each node is that from the sorts of the nodes before it
abbrev pub EachNodeHasItsSort : Type 0
EachNodeHasItsSort =
    (nodes : List TermNode) (ss : List Sort) (k : ℕ) (node : TermNode) → sorts nodes ≡ Some ss → slice_get nodes k ≡ Some node → slice_get ss k ≡ sort_of_node (take k ss) node

-- a variable node's variable stands in the list of the variables, at the place of its number
abbrev pub VariablesAreListed : Type 0
VariablesAreListed =
    (nodes : List TermNode) (k number : ℕ) (sort : Sort) → IsTrue (agree_onto [] nodes) → slice_get nodes k ≡ Some (Variable number sort)
    → slice_get (variables nodes) (count_below number (variables nodes)) ≡ Some (record { number = number; sort = sort })

abbrev pub PlainVariablesAreScalars : Type 0
PlainVariablesAreScalars = (nodes : List TermNode) → IsSome (sorts nodes) → IsTrue (are_plain nodes) → IsTrue (are_scalars (variables nodes))
