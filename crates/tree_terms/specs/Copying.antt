-- Copying the formulas of a tree's nodes: each a while, and then on with what it waits for.
use Rattle.std.specs.Prelude.{◌≡◌, ℕ, zero, suc, ◌+◌, ◌-◌, ◌<◌, ◌≤◌, List, length, slice_get, slice_index, Option, None, Some, IsSome, IsTrue, nat_lt, if◌then◌else◌}
use Rattle.hy_val.specs.declared.sort.Sort.{Sort}
use Rattle.hy_val.specs.declared.value.Value.{Value}
use Rattle.hy_val.specs.Values.{has_sort}
use Rattle.hy_term.specs.TermSorts.{sorts}
use Rattle.hy_term.specs.Meaning.{Grows, value, fits}
use Rattle.hy_term.specs.Variables.{below}
use Rattle.hy_term.specs.declared.node.TermNode.{TermNode}
use Rattle.hy_term.specs.declared.node.TermNode.TheVariants.{Lit, ZeroMap, Variable, Unary, Binary, If, Select, Store}
use Rattle.tree_terms.specs.Copies.{IsPart}
use Rattle.tree_terms.specs.declared.linked.Linked.{Linked}
use Rattle.tree_terms.specs.declared.linked.Source.{Source}
use Rattle.tree_terms.specs.declared.linked.Source.TheVariants.{Given, Up, Down, Fresh}
use Rattle.tree_terms.specs.Linked.{nodes_of, parent, source, IsVariable, IsLinked}
use Rattle.tree_terms.specs.Tables.{row, IsPushed}

-- the term in a variable's place is what its source says
abbrev pub PutIs : List (List ℕ) → (parent put : ℕ) → Source → Type 0
PutIs places parent put (Given t) = put ≡ t
PutIs places parent put (Up i) = (i < length (row places parent)) × (put ≡ slice_index (row places parent) i)
PutIs places parent put (Down c i) = (i < length (row places c)) × (put ≡ slice_index (row places c) i)
PutIs places parent put Fresh = Unit {0}

-- a new variable of a node's copy
pub record IsFree (q : Linked) (places : List (List ℕ)) (m j : ℕ) (sort : Sort) : Type 0 where
  pub tree : m < length q.tree
  pub copied : j < length (row places m)
  pub number : ℕ
  pub is : IsVariable q m j number sort
  pub fresh : source q m number ≡ Fresh

abbrev pub HaveSorts : Linked → List (List ℕ) → (ℕ → ℕ → Value) → Type 0
HaveSorts q places w = (m j : ℕ) (sort : Sort) → IsFree q places m j sort → IsTrue (has_sort (w m j) sort)

-- values of the old terms' variables, and of the new variables
pub record Assigns (q : Linked) (base into : List TermNode) (places : List (List ℕ)) (b : ℕ → Value) (w : ℕ → ℕ → Value) : Type 0 where
  pub a : ℕ → Value
  pub fits : IsTrue (fits a into)
  pub old : (t : ℕ) → t < length base → value a into t ≡ value b base t
  pub new : (m j : ℕ) (sort : Sort) → IsFree q places m j sort → value a into (slice_index (row places m) j) ≡ w m j

-- So much of each node's formula is copied as its list of places says. What stands in a variable's place is as its source says, and all values of the new
-- variables can be had.
pub record IsCopying (q : Linked) (base into : List TermNode) (places : List (List ℕ)) : Type 0 where
  pub grows : Grows base into
  pub base_sorted : IsSome (sorts base)
  pub sorted : IsSome (sorts into)
  pub low : IsTrue (below (length into) into)
  pub count : length places ≡ length q.tree
  pub parts : (m : ℕ) → m < length q.tree → IsPart (nodes_of q m) into (row places m)
  pub puts : (m j number : ℕ) (sort : Sort) → m < length q.tree → j < length (row places m) → IsVariable q m j number sort
      → PutIs places (parent q m) (slice_index (row places m) j) (source q m number)
  pub assigns : (b : ℕ → Value) (w : ℕ → ℕ → Value) → IsTrue (fits b base) → HaveSorts q places w → Assigns q base into places b w

-- what a node takes from its caller is there
abbrev pub IsReady : Linked → List (List ℕ) → ℕ → Type 0
IsReady q places m =
    (j number i : ℕ) (sort : Sort) → IsVariable q m j number sort → source q m number ≡ Up i → i < length (row places (parent q m))

abbrev pub waits_at : List (List ℕ) → Source → Option ℕ
waits_at places (Given t) = None
waits_at places (Up i) = None
waits_at places (Down c i) = if nat_lt i (length (row places c)) then None else Some c
waits_at places Fresh = None

abbrev pub waits_by : Linked → List (List ℕ) → ℕ → Option TermNode → Option ℕ
waits_by q places m None = None
waits_by q places m (Some (Lit a)) = None
waits_by q places m (Some (ZeroMap index elem)) = None
waits_by q places m (Some (Variable number sort)) = waits_at places (source q m number)
waits_by q places m (Some (Unary op child)) = None
waits_by q places m (Some (Binary op left right)) = None
waits_by q places m (Some (If test one other)) = None
waits_by q places m (Some (Select map index)) = None
waits_by q places m (Some (Store map index value)) = None

-- the node whose copy must go on before that of m can
abbrev pub waits : Linked → List (List ℕ) → ℕ → Option ℕ
waits q places m = waits_by q places m (slice_get (nodes_of q m) (length (row places m)))

-- the program's nodes are linked, over some terms
abbrev pub AreLinked : Linked → Type 0
AreLinked q = (base : List TermNode) × IsLinked q base

abbrev pub AreCopying : Linked → List TermNode → List (List ℕ) → Type 0
AreCopying q into places = (base : List TermNode) × IsLinked q base × IsCopying q base into places

-- the copy of a node may go on
pub record MayGo (q : Linked) (places : List (List ℕ)) (m : ℕ) : Type 0 where
  pub tree : m < length q.tree
  pub more : length (row places m) < length (nodes_of q m)
  pub ready : IsReady q places m

-- a term that may be the next one of a node's copy
abbrev pub IsNext : Linked → (old new : List TermNode) → List (List ℕ) → (m t : ℕ) → Type 0
IsNext q old new places m t =
    (base : List TermNode) (places2 : List (List ℕ)) → IsLinked q base → IsCopying q base old places → IsPushed places places2 m t → IsCopying q base new places2

-- one node's copy has gone on by one
pub record IsTurn (q : Linked) (old new : List TermNode) (places places2 : List (List ℕ)) (m : ℕ) : Type 0 where
  pub term : ℕ
  pub pushed : IsPushed places places2 m term
  pub keeps : (base : List TermNode) → IsLinked q base → IsCopying q base old places → IsCopying q base new places2

-- copies have gone on
pub record Keeps (q : Linked) (old new : List TermNode) (places places2 : List (List ℕ)) : Type 0 where
  pub keeps : (base : List TermNode) → IsLinked q base → IsCopying q base old places → IsCopying q base new places2
  pub longer : (x : ℕ) → length (row places x) ≤ length (row places2 x)

-- how many nodes of the formulas of the first nodes of the tree are not copied so far
abbrev pub left_of : Linked → List (List ℕ) → ℕ → ℕ
left_of q places zero = 0
left_of q places (suc n) = (length (nodes_of q n) - length (row places n)) + left_of q places n

-- the copies that are done before a node's turn
abbrev pub AreDone : Linked → List (List ℕ) → ℕ → Type 0
AreDone q places n = (m : ℕ) → m < n → m < length q.tree → length (nodes_of q m) ≤ length (row places m)

-- all formulas are copied
pub record AreCopied (q : Linked) (base into : List TermNode) (places : List (List ℕ)) : Type 0 where
  pub copying : IsCopying q base into places
  pub whole : (m : ℕ) → m < length q.tree → length (row places m) ≡ length (nodes_of q m)

-- a node is being made whole
pub record IsFinishing (q : Linked) (old new : List TermNode) (places places2 : List (List ℕ)) (at : ℕ) : Type 0 where
  pub kept : Keeps q old new places places2
  pub tree : at < length q.tree
  pub ready : IsReady q places2 at
