-- Run trees as lists of nodes (own): the facts that the types keep, and the tree that a list stands for.
use Rattle.std.specs.Prelude.{ℕ, ◌+◌, ◌-◌, nat_lt, Bool, true, false, ◌&&◌, List, [], ◌∷◌, length, slice_index_or}
use Rattle.std.specs.List.{list_all}
use Rattle.flat_prog.specs.Local.{Track}
use Rattle.flat_prog.specs.Trees.{Run, Below, node, none, inner, free}
use Rattle.flat_prog.specs.declared.run.Child.{Child}
use Rattle.flat_prog.specs.declared.run.Child.TheVariants.{Node, Free}
use Rattle.flat_prog.specs.declared.run.RunNode.{RunNode}

-- ---- the facts that the types keep

-- a child that is a node has a number in this range
abbrev pub is_child : (low high : ℕ) → Child → Bool
is_child low high (Node i) = nat_lt low i && nat_lt i high
is_child low high (Free ends values) = true

-- a child that is a node, and so not free
abbrev pub is_node_child : Child → Bool
is_node_child (Node i) = true
is_node_child (Free ends values) = false

-- the nodes, numbered from a number on, have children of greater numbers, below a bound
abbrev pub nodes_fit : ℕ → ℕ → List RunNode → Bool
nodes_fit number high [] = true
nodes_fit number high (n ∷ ns) = list_all (is_child number high) n.children && nodes_fit (number + 1) high ns

-- a list of nodes: there is one, the root, and each child's number is greater than its node's and names a node
abbrev pub are_nodes : List RunNode → Bool
are_nodes nodes = nat_lt 0 (length nodes) && nodes_fit 0 (length nodes) nodes

-- no child is free
abbrev pub are_whole_nodes : List RunNode → Bool
are_whole_nodes nodes = list_all (λ (n : RunNode). list_all is_node_child n.children) nodes

-- ---- the tree that they stand for

-- what a number that names no node would stand for; no list of nodes has one
abbrev pub stray : Run
stray = node (record { proc = 0; path = []; places = []; values = [] }) none

-- what a node says of its own run
abbrev pub track_at : RunNode → Track
track_at n = record { proc = n.proc; path = n.path; places = n.places; values = n.values }

-- what stands below a node, where the runs are those of the nodes from a number on
abbrev pub below_at : ℕ → List Run → List Child → Below
below_at first runs [] = none
below_at first runs (Node i ∷ children) = inner (slice_index_or runs (i - first) stray) (below_at first runs children)
below_at first runs (Free ends values ∷ children) = free ends values (below_at first runs children)

-- the run of a node, before those of the nodes behind it
abbrev pub run_onto : ℕ → RunNode → List Run → List Run
run_onto number n runs = node (track_at n) (below_at (number + 1) runs n.children) ∷ runs

-- the runs of the nodes, of which the first has this number
abbrev pub runs_of : ℕ → List RunNode → List Run
runs_of number [] = []
runs_of number (n ∷ nodes) = run_onto number n (runs_of (number + 1) nodes)

-- the tree that the nodes stand for: the run of node 0
abbrev pub run_of : List RunNode → Run
run_of nodes = slice_index_or (runs_of 0 nodes) 0 stray
