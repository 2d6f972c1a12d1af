-- What the reduction keeps from step to step. No public clause cites it.
use Rattle.std.specs.Prelude.{◌≡◌, ℕ, zero, suc, is_some, ◌+◌, ◌-◌, ◌*◌, ◌/◌, ◌%◌, ◌<◌, ◌≤◌, nat_lt, nat_eq, Bool, true, false, ◌&&◌, List, [], ◌∷◌, length, map, slice_get, slice_index, ◌||◌, Option, None, Some, if◌then◌else◌, IsTrue, IsSome}
use Rattle.std.specs.Map.{lookup}
use Rattle.std.specs.Option.{unwrap_or}
use Rattle.hy_val.specs.Table.{Table}
use Rattle.hy_val.specs.Maps.{stored}
use Rattle.hy_val.specs.Sorts.{scalar_of}
use Rattle.hy_val.specs.Values.{at, has_sort, is_on, atom_of, binary_value, select_value}
use Rattle.hy_val.specs.declared.atom.Atom.{Atom}
use Rattle.hy_val.specs.declared.sort.Scalar.{Scalar}
use Rattle.hy_val.specs.declared.sort.ScalarKind.TheVariants.{Bool as BoolSort}
use Rattle.hy_val.specs.declared.sort.Sort.{Sort}
use Rattle.hy_val.specs.declared.sort.SortKind.TheVariants.{Scalar as ScalarSort, Map as MapSort}
use Rattle.hy_val.specs.declared.operator.BvOp.TheVariants.{Eq, Implies}
use Rattle.hy_val.specs.declared.value.Value.{Value}
use Rattle.hy_val.specs.declared.value.Value.TheVariants.{Atom as AtomValue, Map as MapValue}
use Rattle.hy_term.specs.Formula.{Formula}
use Rattle.hy_term.specs.TermSorts.{sorts, sort_at, sort_of_number, is_formula}
use Rattle.hy_term.specs.Meaning.{value, values, fits, Grows}
use Rattle.hy_term.specs.Variables.{below, numbers_of, of_list}
use Rattle.hy_term.specs.declared.node.TermVariable.{TermVariable}
use Rattle.hy_term.specs.declared.node.TermNode.{TermNode}
use Rattle.hy_term.specs.declared.node.TermNode.TheVariants.{Lit, ZeroMap, Variable, Unary, Binary, If, Select, Store}
use Rattle.map_axioms.specs.declared.entry.Entry.{Entry}
use Rattle.map_axioms.specs.Reduction.{AgreeOnScalars}

-- ---- the variables of the reduced terms

-- the variable for the entry of the map variable m at the value of the node i; base is above all variables of the source
abbrev pub entry_number : ℕ → ℕ → ℕ → ℕ
entry_number base i m = base * (i + 1) + m

-- the sort of the entries of a map sort
abbrev pub elem_of : Option Sort → Option Sort
elem_of None = None
elem_of (Some (ScalarSort s)) = None
elem_of (Some (MapSort index elem)) = Some (ScalarSort elem)

-- the sort that a variable of the reduced terms has from the source: its own, or that of the entries of its map
abbrev pub home : ℕ → List TermNode → ℕ → Option Sort
home base nodes n = if nat_lt n base then sort_of_number n nodes else elem_of (sort_of_number (n % base) nodes)

-- the node is no map, and a variable has the sort that the source gives it
abbrev pub IsHome : ℕ → List TermNode → TermNode → Type 0
IsHome base nodes (Lit a) = Unit {0}
IsHome base nodes (ZeroMap index elem) = ⊥
IsHome base nodes (Variable n (ScalarSort s)) = home base nodes n ≡ Some (ScalarSort s)
IsHome base nodes (Variable n (MapSort index elem)) = ⊥
IsHome base nodes (Unary op child) = Unit {0}
IsHome base nodes (Binary op left right) = Unit {0}
IsHome base nodes (If test one other) = Unit {0}
IsHome base nodes (Select map index) = ⊥
IsHome base nodes (Store map index value) = ⊥

abbrev pub AllHome : ℕ → List TermNode → List TermNode → Type 0
AllHome base nodes [] = Unit {0}
AllHome base nodes (node ∷ more) = IsHome base nodes node × AllHome base nodes more

-- ---- entries

-- the node of the first entry of this map variable at this node
abbrev pub asked : ℕ → ℕ → List Entry → Option ℕ
asked m i [] = None
asked m i (e ∷ es) = if nat_eq e.map m && nat_eq e.place i then Some e.entry else asked m i es

-- the number that stands under a key of two numbers
abbrev pub found : ℕ → ℕ → List ((ℕ × ℕ) × ℕ) → Option ℕ
found a b cells = lookup (λ (k : ℕ × ℕ). nat_eq a k.0 && nat_eq b k.1) cells

-- no two entries are of one map variable at one node
abbrev pub Apart : List Entry → Type 0
Apart [] = Unit {0}
Apart (e ∷ es) = (asked e.map e.place es ≡ None) × Apart es

-- ---- assignments of both

-- the reduced terms' assignment has the source's scalars, and for each entry that was asked for the one of the map, provided that
-- the index means the same on both sides
pub record Linked (nodes out : List TermNode) (entries : List Entry) (a b : ℕ → Value) : Type 0 where
  pub scalars : AgreeOnScalars nodes a b
  pub maps : (j : ℕ) (e : Entry) → slice_get entries j ≡ Some e → value b out e.index ≡ value a nodes e.place → b e.number ≡ select_value (a e.map) (value a nodes e.place)

-- the reduced node t is a scalar of this sort, and has the value that is meant
pub record Stands (nodes out : List TermNode) (entries : List Entry) (s : Scalar) (t : ℕ) (meant : (ℕ → Value) → Value) : Type 0 where
  pub sort : sort_at out t ≡ Some (ScalarSort s)
  pub means : (a b : ℕ → Value) → IsTrue (fits a nodes) → Linked nodes out entries a b → value b out t ≡ meant a

-- an entry that was asked for: of a map variable at the value of a node of the source
pub record EntryKept (base : ℕ) (nodes out : List TermNode) (entries : List Entry) (e : Entry) : Type 0 where
  pub index : Scalar
  pub elem : Scalar
  pub map : sort_of_number e.map nodes ≡ Some (MapSort index elem)
  pub place : sort_at nodes e.place ≡ Some (ScalarSort index)
  pub number : e.number ≡ entry_number base e.place e.map
  pub stands : Stands nodes out entries index e.index (λ a. value a nodes e.place)
  pub sort : sort_at out e.entry ≡ Some (ScalarSort elem)
  pub is : (b : ℕ → Value) → value b out e.entry ≡ b e.number

-- ---- the reduced terms as they grow

-- more nodes and entries stand behind the old ones, whose indexes are nodes
pub record Later (out : List TermNode) (entries : List Entry) (out' : List TermNode) (entries' : List Entry) : Type 0 where
  pub nodes : Grows out out'
  pub sound : IsSome (sorts out')
  pub more : (j : ℕ) (e : Entry) → slice_get entries j ≡ Some e → slice_get entries' j ≡ Some e
  pub within : (j : ℕ) (e : Entry) → slice_get entries j ≡ Some e → e.index < length out

pub record State (base : ℕ) (nodes out : List TermNode) (entries : List Entry) : Type 0 where
  pub sound : IsSome (sorts out)
  pub at_home : AllHome base nodes out
  pub entry : (j : ℕ) (e : Entry) → slice_get entries j ≡ Some e → EntryKept base nodes out entries e
  pub apart : Apart entries

-- the reduced node t stands for the source's node k, where that is no map; a variable is the same one
pub record IsReduced (nodes out : List TermNode) (entries : List Entry) (k t : ℕ) : Type 0 where
  pub stands : (s : Scalar) → sort_at nodes k ≡ Some (ScalarSort s) → Stands nodes out entries s t (λ a. value a nodes k)
  pub variable : (n : ℕ) (s : Scalar) → slice_get nodes k ≡ Some (Variable n (ScalarSort s)) → sort_of_number n out ≡ Some (ScalarSort s)

abbrev pub AllReduced : List TermNode → List TermNode → List Entry → List ℕ → Type 0
AllReduced nodes out entries reds = (k : ℕ) → k < length reds → IsReduced nodes out entries k (slice_index reds k)

-- a node whose children are renamed by the list
abbrev pub renamed : List ℕ → TermNode → TermNode
renamed reds (Lit a) = Lit a
renamed reds (ZeroMap index elem) = ZeroMap index elem
renamed reds (Variable n sort) = Variable n sort
renamed reds (Unary op child) = Unary op (slice_index reds child)
renamed reds (Binary op left right) = Binary op (slice_index reds left) (slice_index reds right)
renamed reds (If test one other) = If (slice_index reds test) (slice_index reds one) (slice_index reds other)
renamed reds (Select map index) = Select map index
renamed reds (Store map index value) = Store map index value

-- the terms with a node that stands for a term
pub record Placed (base : ℕ) (nodes out : List TermNode) (es : List Entry) (out' : List TermNode) (es' : List Entry) (s : Scalar) (t : ℕ) (f : (ℕ → Value) → Value) : Type 0 where
  pub state : State base nodes out' es'
  pub later : Later out es out' es'
  pub stands : Stands nodes out' es' s t f

-- the terms with the reduced node of the node k
pub record Taken (base : ℕ) (nodes out : List TermNode) (es : List Entry) (out' : List TermNode) (es' : List Entry) (k t : ℕ) : Type 0 where
  pub state : State base nodes out' es'
  pub later : Later out es out' es'
  pub red : IsReduced nodes out' es' k t

-- a map variable and an index for it, with the node that stands for that
pub record IsAsked (base : ℕ) (nodes out : List TermNode) (es : List Entry) (m place index : ℕ) (elem : Scalar) : Type 0 where
  pub sort : Scalar
  pub under : m < base
  pub map : sort_of_number m nodes ≡ Some (MapSort sort elem)
  pub at : sort_at nodes place ≡ Some (ScalarSort sort)
  pub stands : Stands nodes out es sort index (λ a. value a nodes place)

-- ---- the entries of map nodes

-- the reduced node that stands under a map node and an index; 0 where there is none
abbrev pub row_at : List ((ℕ × ℕ) × ℕ) → ℕ → ℕ → ℕ
row_at rows j i = unwrap_or (found j i rows) 0

-- with the node's maps a reduced node stands at the index
abbrev pub MapsKnown : List ((ℕ × ℕ) × ℕ) → ℕ → TermNode → Type 0
MapsKnown rows i (Lit a) = Unit {0}
MapsKnown rows i (ZeroMap index elem) = Unit {0}
MapsKnown rows i (Variable n sort) = Unit {0}
MapsKnown rows i (Unary op child) = Unit {0}
MapsKnown rows i (Binary op left right) = Unit {0}
MapsKnown rows i (If test one other) = IsSome (found one i rows) × IsSome (found other i rows)
MapsKnown rows i (Select map index) = Unit {0}
MapsKnown rows i (Store map index value) = IsSome (found map i rows)

-- the node is made of the map j
abbrev pub is_map_of : ℕ → TermNode → Bool
is_map_of j (Lit a) = false
is_map_of j (ZeroMap index elem) = false
is_map_of j (Variable n sort) = false
is_map_of j (Unary op child) = false
is_map_of j (Binary op left right) = false
is_map_of j (If test one other) = nat_eq j one || nat_eq j other
is_map_of j (Select map index) = false
is_map_of j (Store map index value) = nat_eq j map

-- the node j is of the map node m's sort, and not behind it
pub record IsPart (nodes : List TermNode) (m j : ℕ) : Type 0 where
  pub within : j ≤ m
  pub sort : sort_at nodes j ≡ sort_at nodes m

abbrev pub AllParts : List TermNode → ℕ → List ℕ → Type 0
AllParts nodes m js = (k j : ℕ) → slice_get js k ≡ Some j → IsPart nodes m j

-- the node m is a map, and i an index of its index sort
pub record IsSelect (nodes : List TermNode) (m i : ℕ) : Type 0 where
  pub index : Scalar
  pub elem : Scalar
  pub map : sort_at nodes m ≡ Some (MapSort index elem)
  pub place : sort_at nodes i ≡ Some (ScalarSort index)

-- the node k is no map
pub record IsScalarAt (nodes : List TermNode) (k : ℕ) : Type 0 where
  pub scalar : Scalar
  pub is : sort_at nodes k ≡ Some (ScalarSort scalar)

-- the node k, which is no map, is reduced to the node r
pub record IsFirst (nodes : List TermNode) (reds : List ℕ) (r k : ℕ) : Type 0 where
  pub within : k < length reds
  pub red : slice_index reds k ≡ r
  pub scalar : IsScalarAt nodes k

-- what is found for a reduced node is reduced to it
abbrev pub AreFirsts : List TermNode → List ℕ → (ℕ → Option ℕ) → Type 0
AreFirsts nodes reds find = (r k : ℕ) → find r ≡ Some k → IsFirst nodes reds r k

-- the reduced node t stands for the entry of the map node j at the value of the node i
abbrev pub EntryStands : List TermNode → List TermNode → List Entry → ℕ → ℕ → ℕ → Type 0
EntryStands nodes out es i j t =
    (index elem : Scalar) → sort_at nodes j ≡ Some (MapSort index elem) → Stands nodes out es elem t (λ a. select_value (value a nodes j) (value a nodes i))

-- the rows' reduced nodes are such
abbrev pub RowsStand : List TermNode → List TermNode → List Entry → List ((ℕ × ℕ) × ℕ) → Type 0
RowsStand nodes out es rows = (j i t : ℕ) → found j i rows ≡ Some t → EntryStands nodes out es i j t

-- the terms with the node for the entry of the map node m at the value of the node i
pub record Read (base : ℕ) (nodes out : List TermNode) (es : List Entry) (out' : List TermNode) (es' : List Entry) (m i t : ℕ) : Type 0 where
  pub state : State base nodes out' es'
  pub later : Later out es out' es'
  pub entry : EntryStands nodes out' es' i m t

-- what such a node stands on: the select, the reduced nodes, and the rows
pub record IsRow (base : ℕ) (nodes out : List TermNode) (es : List Entry) (reds : List ℕ) (rows : List ((ℕ × ℕ) × ℕ)) (m i : ℕ) : Type 0 where
  pub state : State base nodes out es
  pub select : IsSelect nodes m i
  pub map_before : m < length reds
  pub place_before : i < length reds
  pub reduced : AllReduced nodes out es reds
  pub stands : RowsStand nodes out es rows

-- what a function gives below n, added up
abbrev pub sum_below : ℕ → (ℕ → ℕ) → ℕ
sum_below zero f = 0
sum_below (suc n) f = f n + sum_below n f

-- how many of n nodes have a reduced node at the index
abbrev pub known_at : ℕ → List ((ℕ × ℕ) × ℕ) → ℕ → ℕ
known_at n rows i = sum_below n (λ j. if is_some (found j i rows) then 1 else 0)

-- how many reduced nodes of n nodes at n indexes are known
abbrev pub known : ℕ → List ((ℕ × ℕ) × ℕ) → ℕ
known n rows = sum_below n (known_at n rows)

-- ---- congruence

-- where two entries are of one map, equal indexes have equal entries
abbrev pub pair_on : List Value → Entry → Entry → Bool
pair_on vs p q =
    if nat_eq p.map q.map then is_on (binary_value Implies (binary_value Eq (at vs p.index) (at vs q.index)) (binary_value Eq (at vs p.entry) (at vs q.entry))) else true

abbrev pub pairs_on : List Value → Entry → List Entry → Bool
pairs_on vs p [] = true
pairs_on vs p (q ∷ qs) = pair_on vs p q && pairs_on vs p qs

abbrev pub congruent : List Value → List Entry → Bool
congruent vs [] = true
congruent vs (p ∷ ps) = pairs_on vs p ps && congruent vs ps

-- l is the place of the first entry of the map variable m from the place a on; where there is none, no entry of it stands before l
pub record IsNext (es : List Entry) (m a l : ℕ) : Type 0 where
  pub after : a ≤ l
  pub skips : (k : ℕ) (x : Entry) → a ≤ k → k < l → slice_get es k ≡ Some x → nat_eq m x.map ≡ false
  pub at : (x : Entry) → slice_get es l ≡ Some x → x.map ≡ m

-- from the place i on, each entry has the next one of its map
pub record LinksFrom (es : List Entry) (ls : List ℕ) (i : ℕ) : Type 0 where
  pub count : length ls ≡ length es
  pub next : (k l : ℕ) (e : Entry) → i ≤ k → slice_get es k ≡ Some e → slice_get ls k ≡ Some l → IsNext es e.map (k + 1) l

-- the terms with a node that is true where another one is and the condition holds
pub record Conjoined (base : ℕ) (nodes out : List TermNode) (es : List Entry) (out' : List TermNode) (all t : ℕ) (condition : List Value → Bool) : Type 0 where
  pub state : State base nodes out' es
  pub later : Later out es out' es
  pub bool : sort_at out' t ≡ Some (ScalarSort BoolSort)
  pub is : (b : ℕ → Value) → is_on (value b out' t) ≡ (is_on (value b out all) && condition (values b out))

abbrev pub AllKept : ℕ → List TermNode → List TermNode → List Entry → List Entry → Type 0
AllKept base nodes out es others = (j : ℕ) (e : Entry) → slice_get others j ≡ Some e → EntryKept base nodes out es e

-- how many entries are of the same map
abbrev pub of_map : Entry → List Entry → ℕ
of_map p [] = 0
of_map p (q ∷ qs) = (if nat_eq p.map q.map then 1 else 0) + of_map p qs

-- how many pairs of entries are of one map
abbrev pub pairs : List Entry → ℕ
pairs [] = 0
pairs (p ∷ ps) = of_map p ps + pairs ps

-- the reduced nodes of all nodes
pub record AllTaken (base : ℕ) (nodes out : List TermNode) (es : List Entry) (reds : List ℕ) : Type 0 where
  pub state : State base nodes out es
  pub count : length reds ≡ length nodes
  pub each : AllReduced nodes out es reds
  pub few_nodes : length out ≤ 1 + length nodes + 2 * (length nodes * length nodes)
  pub few_entries : length es ≤ length nodes * length nodes

-- the whole reduction
pub record IsReduction (base : ℕ) (source reduced : Formula) (reds : List ℕ) (entries : List Entry) : Type 0 where
  pub formula : IsTrue (is_formula source)
  pub under : IsTrue (below base source.nodes)
  pub state : State base source.nodes reduced.nodes entries
  pub count : length reds ≡ length source.nodes
  pub each : AllReduced source.nodes reduced.nodes entries reds
  pub root : (b : ℕ → Value) → is_on (value b reduced.nodes reduced.root) ≡ (is_on (value b reduced.nodes (slice_index reds source.root)) && congruent (values b reduced.nodes) entries)

-- there is a base and a list of reduced nodes with which these entries are those of the reduction
pub record IsPlan (source reduced : Formula) (entries : List Entry) : Type 0 where
  pub base : ℕ
  pub reds : List ℕ
  pub is : IsReduction base source reduced reds entries

-- ---- the assignment of the source

-- the values and the sorts of atoms
abbrev pub atom_values : List Atom → List Value
atom_values atoms = map (λ (a : Atom). AtomValue a) atoms

abbrev pub atom_sorts : List Atom → List Sort
atom_sorts atoms = map (λ (a : Atom). ScalarSort (scalar_of a)) atoms

-- the assignment that atoms for these variables stand for
abbrev pub chosen_by : List TermVariable → List Atom → ℕ → Value
chosen_by vs atoms = of_list (numbers_of vs) (atom_values atoms)

-- the entries of the map variable n have its sorts
abbrev pub Fillable : (ℕ → Value) → List Value → ℕ → Scalar → Scalar → List Entry → Type 0
Fillable b vs n index elem es = (j : ℕ) (e : Entry) → slice_get es j ≡ Some e → e.map ≡ n → IsTrue (has_sort (at vs e.index) (ScalarSort index)) × IsTrue (has_sort (b e.number) (ScalarSort elem))

-- the map with the entries of the map variable n
abbrev pub filled : (ℕ → Value) → List Value → ℕ → Table → List Entry → Table
filled b vs n m [] = m
filled b vs n m (e ∷ es) = filled b vs n (if nat_eq e.map n then stored m (atom_of (at vs e.index)) (atom_of (b e.number)) else m) es

abbrev pub lifted_by : Option Sort → (ℕ → Value) → List Value → List Entry → ℕ → Value
lifted_by None b vs es n = b n
lifted_by (Some (ScalarSort s)) b vs es n = b n
lifted_by (Some (MapSort index elem)) b vs es n = MapValue (filled b vs n (record { index = index; elem = elem; pairs = [] }) es)

-- the source's assignment, from that of the reduced terms
abbrev pub lifted : List TermNode → List TermNode → List Entry → (ℕ → Value) → ℕ → Value
lifted nodes out es b n = lifted_by (sort_of_number n nodes) b (values b out) es n

-- the reduced terms' assignment, from that of the source
abbrev pub lowered : ℕ → List TermNode → (ℕ → Value) → ℕ → Value
lowered base nodes a n = if nat_lt n base then a n else select_value (a (n % base)) (value a nodes (n / base - 1))
