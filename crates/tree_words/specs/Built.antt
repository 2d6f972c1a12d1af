-- The run that the views of a tree's nodes stand for, node by node.
use Rattle.std.specs.Prelude.{ℕ, zero, suc, Bool, not, List, [], ◌∷◌, ◌++◌, slice_get, if◌then◌else◌}
use Rattle.hy_val.specs.declared.value.Value.{Value}
use Rattle.flat_prog.specs.Program.{FlatProgram, blocks_of}
use Rattle.flat_prog.specs.Local.{Request}
use Rattle.flat_prog.specs.Trees.{Run, Below, node, none, inner, free}
use Rattle.flat_prog.specs.Nodes.{stray}
use Rattle.flat_prog.specs.Sites.{sites_passed}
use Rattle.tree_words.specs.View.{SiteView, NodeView}

-- the sites that are passed, of these
abbrev pub on_sites : NodeView → List ℕ → List ℕ
on_sites v [] = []
on_sites v (i ∷ is) = if (v.site i).on then i ∷ on_sites v is else on_sites v is

-- Below a node at the path p, at the sites of a list: where a node of the tree stands at the site its run, else a free child with what the view of the site
-- says.
abbrev pub below_built : (List ℕ → Run) → (List ℕ → Bool) → (SiteView → List Value) → NodeView → (p sites : List ℕ) → Below
below_built sub is_node free_values v p [] = none
below_built sub is_node free_values v p (i ∷ is) =
    if is_node (p ++ i ∷ []) then inner (sub (p ++ i ∷ [])) (below_built sub is_node free_values v p is)
    else free (not (v.site i).fails) (free_values (v.site i)) (below_built sub is_node free_values v p is)

-- the run of the node at a path, in a tree that has no more than so many levels there
abbrev pub built : ℕ → FlatProgram → (List ℕ → Bool) → (SiteView → List Value) → (List ℕ → NodeView) → List ℕ → Run
built zero flat is_node free_values view p = stray
built (suc deep) flat is_node free_values view p =
    node (view p).track (below_built (built deep flat is_node free_values view) is_node free_values (view p) p
    (on_sites (view p) (sites_passed (blocks_of (slice_get flat.procs (view p).track.proc)) (view p).track.path)))

-- the entry's run also takes the constants, the globals and the ins
abbrev pub root_run : List Value → Request → Run → Run
root_run consts call (node track below) = node (record { proc = track.proc; path = track.path; places = track.places; values = consts ++ (call.globals ++ (call.args ++ track.values)) }) below
