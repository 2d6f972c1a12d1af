-- The run that values of a question's terms stand for, as a list of nodes. Everything is a function of the list of the terms' values.
use Rattle.std.specs.Prelude.{ℕ, zero, suc, Bool, not, List, [], ◌∷◌, ◌++◌, map, length, filter, slice_get, slice_index, Option, None, Some, if◌then◌else◌}
use Rattle.hy_val.specs.declared.value.Value.{Value}
use Rattle.hy_val.specs.Values.{at, is_on}
use Rattle.flat_prog.specs.Program.{blocks_of}
use Rattle.flat_prog.specs.Local.{Track}
use Rattle.flat_prog.specs.Sites.{sites_passed}
use Rattle.flat_prog.specs.declared.proc.FlatProc.{FlatProc}
use Rattle.flat_prog.specs.declared.run.Child.{Child}
use Rattle.flat_prog.specs.declared.run.Child.TheVariants.{Node, Free}
use Rattle.flat_prog.specs.declared.run.RunNode.{RunNode}
use Rattle.tree_terms.specs.declared.linked.EdgeTerms.{EdgeTerms}
use Rattle.tree_terms.specs.declared.linked.TrackTerms.{TrackTerms}
use Rattle.tree_terms.specs.declared.linked.ValueTerms.{ValueTerms}
use Rattle.tree_terms.specs.declared.linked.Linked.{Linked}
use Rattle.tree_terms.specs.declared.linked.Template.{Template as Formula}
use Rattle.tree_terms.specs.Linked.{kid}
use Rattle.tree_terms.specs.Tables.{row}
use Rattle.tree_words.specs.View.{SiteView, NodeView}
use Rattle.tree_words.specs.Template.{view_by}
use Rattle.tree_words.specs.Linking.{formula}

-- ---- a node's own run

-- the edges that are passed, in the template's order
abbrev pub passed_edges : List Value → List EdgeTerms → List EdgeTerms
passed_edges vs edges = filter (λ (e : EdgeTerms). is_on (at vs e.node)) edges

-- the blocks on the way
abbrev pub path_by : List EdgeTerms → List ℕ
path_by passed = 0 ∷ map (λ (e : EdgeTerms). e.target) passed

-- the values that the run comes to and takes, in the template's order
abbrev pub values_taken : List Value → List ValueTerms → List Value
values_taken vs values = map (λ (v : ValueTerms). at vs v.node) (filter (λ (v : ValueTerms). is_on (at vs v.live)) values)

-- the run of the procedure that passes these edges
abbrev pub track_with : TrackTerms → List Value → List EdgeTerms → Track
track_with t vs passed = record {
  proc = t.proc;
  path = path_by passed;
  places = map (λ (e : EdgeTerms). e.place) passed;
  values = map (at vs) t.begin ++ values_taken vs t.values;
}

-- the run that the values of a formula's nodes say
abbrev pub track_by : Option Formula → List Value → Track
track_by None vs = record { proc = 0; path = []; places = []; values = [] }
track_by (Some t) vs = track_with t.track vs (passed_edges vs t.track.edges)

-- ---- children

-- the values of a free child: its outs and the globals that its procedure may change, none where it fails
abbrev pub free_by : List (List ℕ) → SiteView → List Value
free_by changes s = if s.fails then [] else s.outs ++ map (at s.globals) (row changes s.call.proc)

-- The child at a site: the node there, by its number in the list of nodes (slots has that of each node of the tree), or a free child.
abbrev pub child_by : List (List ℕ) → (slots : List ℕ) → Option ℕ → SiteView → Child
child_by changes slots None s = Free (not s.fails) (free_by changes s)
child_by changes slots (Some c) s = Node (slice_index slots c)

-- the children at the sites that are passed, of these
abbrev pub children_by : List (List ℕ) → List ℕ → Linked → ℕ → NodeView → List ℕ → List Child
children_by changes slots q m v sites = map (λ i. child_by changes slots (kid q m i) (v.site i)) (filter (λ i. (v.site i).on) sites)

-- ---- nodes

-- the values of the nodes of a node's formula
abbrev pub node_vals : List Value → List (List ℕ) → ℕ → List Value
node_vals vs places m = map (at vs) (row places m)

-- what the values of all terms say of a node of the tree
abbrev pub view_at : Linked → List (List ℕ) → List Value → ℕ → NodeView
view_at q places vs m = view_by (formula q track_by m) (node_vals vs places m)

-- the node of the run, where the node of the tree has this view, and these values stand before those of its own run
abbrev pub node_with : List FlatProc → List (List ℕ) → List ℕ → Linked → ℕ → NodeView → (front : List Value) → RunNode
node_with procs changes slots q m v front = record {
  proc = v.track.proc;
  path = v.track.path;
  places = v.track.places;
  values = front ++ v.track.values;
  children = children_by changes slots q m v (sites_passed (blocks_of (slice_get procs v.track.proc)) v.track.path);
}

-- the entry's run also takes the constants, the globals and the ins
abbrev pub front_at : Linked → List Value → ℕ → List Value
front_at q vs zero = map (at vs) q.consts ++ (map (at vs) q.globals ++ map (at vs) q.args)
front_at q vs (suc m) = []

-- the node of the run for a node of the tree, by the values of all terms
abbrev pub node_at : List FlatProc → List (List ℕ) → List ℕ → Linked → List (List ℕ) → List Value → ℕ → RunNode
node_at procs changes slots q places vs m = node_with procs changes slots q m (view_at q places vs m) (front_at q vs m)

-- ---- the nodes that are reached

-- a node is reached where its bool is true
abbrev pub reached : List ℕ → List Value → ℕ → Bool
reached reach vs m = is_on (at vs (slice_index reach m))

-- how many nodes before this one are reached: its number in the list, where it is
abbrev pub slot : (ℕ → Bool) → ℕ → ℕ
slot r zero = 0
slot r (suc m) = if r m then suc (slot r m) else slot r m

-- the numbers of the first nodes of the tree in the list
abbrev pub slots_to : (ℕ → Bool) → ℕ → List ℕ
slots_to r zero = []
slots_to r (suc n) = slots_to r n ++ slot r n ∷ []

-- the nodes that are reached, of the first ones of the tree
abbrev pub nodes_to : (ℕ → Bool) → (ℕ → RunNode) → ℕ → List RunNode
nodes_to r node zero = []
nodes_to r node (suc n) = if r n then nodes_to r node n ++ node n ∷ [] else nodes_to r node n

-- the nodes of the run: the nodes of the tree that are reached, in its order
abbrev pub nodes_read : List FlatProc → List (List ℕ) → Linked → List (List ℕ) → (reach : List ℕ) → List Value → List RunNode
nodes_read procs changes q places reach vs =
    nodes_to (reached reach vs) (node_at procs changes (slots_to (reached reach vs) (length q.tree)) q places vs) (length q.tree)
