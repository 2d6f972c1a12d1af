-- What a node gives from its begin on.
use Rattle.std.proofs.Common.{◌≡◌, ℕ, zero, suc, ◌+◌, List, [], ◌∷◌, ◌++◌, map, take, drop, length, Some, slice_get, IsTrue, refl, sym, ap, ◌∙◌, arith}
use Rattle.std.proofs.lemmas.List.{append_assoc, drop-drop}
use Rattle.src_prog.specs.Program.{Program}
use Rattle.src_run.specs.declared.machine.Choice.{Choice}
use Rattle.src_run.specs.declared.machine.Choice.TheVariants.{Val}
use Rattle.flat_prog.specs.Caps.{kind_of}
use Rattle.flat_prog.specs.Nodes.{are_nodes, run_of, runs_of, track_at}
use Rattle.flat_prog.specs.Program.{FlatProgram}
use Rattle.flat_prog.specs.declared.proc.FlatKind.{FlatKind}
use Rattle.flat_prog.specs.declared.proc.FlatKind.TheVariants.{Source, Loop}
use Rattle.flat_prog.specs.declared.run.Child.{Child}
use Rattle.flat_prog.specs.declared.run.Child.TheVariants.{Node, Free}
use Rattle.flat_prog.specs.declared.run.RunNode.{RunNode}
use Rattle.extract_law.specs.Choices.{choices_below, lists_below, choices_of, before_count, node_choices, without_first, own_count, taken_count, way_choices}
use Rattle.flat_prog.specs.Laws.{below_of, run_at}
use Rattle.trace_build.specs.Spots as spots
use Rattle.trace_build.specs.Steps.{run_steps, below_steps, children_steps, spot_steps, left_at, path_steps}
use Rattle.trace_build.specs.declared.walk.Spot.{Spot}
use Rattle.flat_prog.proofs.NodeRuns.{nodes_are_runs}

-- where a walk begins in a node
abbrev pub first_spot : ℕ → ℕ → Spot
first_spot number value = record { node = number; block = 0; step = 0; cmd = 0; value = value; child = 0 }

lists_are : (prog : Program) (flat : FlatProgram) (nodes : List RunNode) (cs : List Child) → lists_below (below_of (runs_of 0 nodes) cs) prog flat ≡ map (spots.child_choices prog flat nodes) cs
lists_are prog flat nodes [] = refl
lists_are prog flat nodes (Node i ∷ cs) = ap (λ ls. choices_below (run_at nodes i) prog flat ∷ ls) (lists_are prog flat nodes cs)
lists_are prog flat nodes (Free ends values ∷ cs) = ap (λ ls. [] ∷ ls) (lists_are prog flat nodes cs)

steps_are : (flat : FlatProgram) (nodes : List RunNode) (cs : List Child) → below_steps (below_of (runs_of 0 nodes) cs) flat ≡ children_steps flat nodes cs
steps_are flat nodes [] = refl
steps_are flat nodes (Node i ∷ cs) = ap (λ m. run_steps (run_at nodes i) flat + m) (steps_are flat nodes cs)
steps_are flat nodes (Free ends values ∷ cs) = steps_are flat nodes cs ∙ (let z : children_steps flat nodes cs ≡ 0 + children_steps flat nodes cs = omega arith in z)

-- the choices below a call are what the node gives from its begin on
pub below_begins : (prog : Program) (flat : FlatProgram) (nodes : List RunNode) (i : ℕ) (n : RunNode) → IsTrue (are_nodes nodes) → slice_get nodes i ≡ Some n
    → choices_below (run_at nodes i) prog flat ≡ spots.begun_at prog flat nodes 0 (slice_get nodes i)
below_begins prog flat nodes i n fit e =
    ap (λ r. choices_below r prog flat) ((nodes_are_runs nodes fit).1 i n e)
    ∙ ap (node_choices prog flat (kind_of (slice_get flat.procs n.proc)) (track_at n)) (lists_are prog flat nodes n.children)
    ∙ ap (spots.begun_at prog flat nodes 0) (sym e)

-- so are those of the tree, behind the values of the entry
pub whole_begins : (prog : Program) (flat : FlatProgram) (entry : ℕ) (nodes : List RunNode) (n : RunNode) → IsTrue (are_nodes nodes) → slice_get nodes 0 ≡ Some n
    → choices_of prog flat entry (run_of nodes) ≡ map Val (take (before_count prog (slice_get prog.procs entry)) n.values) ++ spots.begun_at prog flat nodes (before_count prog (slice_get prog.procs entry)) (slice_get nodes 0)
whole_begins prog flat entry nodes n fit e =
    let before = before_count prog (slice_get prog.procs entry) in
    ap (choices_of prog flat entry) ((nodes_are_runs nodes fit).0 ∙ (nodes_are_runs nodes fit).1 0 n e)
    ∙ ap (λ ls. map Val (take before n.values) ++ node_choices prog flat (kind_of (slice_get flat.procs n.proc)) (without_first before (track_at n)) ls) (lists_are prog flat nodes n.children)
    ∙ ap (λ o. map Val (take before n.values) ++ spots.begun_at prog flat nodes before o) (sym e)

-- a begin takes as many steps as the run
pub begin_steps : (flat : FlatProgram) (nodes : List RunNode) (i value : ℕ) (n : RunNode) → IsTrue (are_nodes nodes) → slice_get nodes i ≡ Some n → spot_steps flat nodes (first_spot i value) ≡ run_steps (run_at nodes i) flat
begin_steps flat nodes i value n fit e =
    ap (left_at flat nodes (first_spot i value)) e
    ∙ sym (ap (λ r. run_steps r flat) ((nodes_are_runs nodes fit).1 i n e)
    ∙ ap (λ m. suc (length (spots.cmds_left flat n (first_spot i value)) + (path_steps (spots.blocks_at flat n) (drop 1 n.path) + m))) (steps_are flat nodes n.children))

begins_for : (prog : Program) (flat : FlatProgram) (nodes : List RunNode) (i before : ℕ) (n : RunNode) (kind : FlatKind) (values : ℕ) → values ≡ spots.count_for before (taken_count (slice_get flat.procs n.proc)) kind
    → node_choices prog flat kind (without_first before (track_at n)) (map (spots.child_choices prog flat nodes) n.children)
    ≡ spots.first_for prog before n.values kind ++ spots.rest_of prog flat nodes (first_spot i values) n
begins_for prog flat nodes i before n (Source p) values h =
    ap (λ vs. map Val (take (own_count (slice_get prog.procs p)) (drop before n.values)) ++ way_choices flat (spots.blocks_at flat n) (track_at n) vs (map (spots.child_choices prog flat nodes) n.children))
    (drop-drop (taken_count (slice_get flat.procs n.proc)) before n.values ∙ ap (λ m. drop m n.values) (sym h))
begins_for prog flat nodes i before n (Loop p head) values h =
    ap (λ m. way_choices flat (spots.blocks_at flat n) (track_at n) (drop m n.values) (map (spots.child_choices prog flat nodes) n.children)) (sym h)

-- the values of a begin, and then what the walk gives from the first spot on
pub begins : (prog : Program) (flat : FlatProgram) (nodes : List RunNode) (i before : ℕ) (n : RunNode) (value : ℕ) (out more : List Choice) → slice_get nodes i ≡ Some n → more ≡ out ++ spots.first_choices prog flat before n → value ≡ spots.first_count flat before n
    → out ++ spots.begun_at prog flat nodes before (slice_get nodes i) ≡ more ++ spots.spot_choices prog flat nodes (first_spot i value)
begins prog flat nodes i before n value out more e put is =
    let s = first_spot i value in
    ap (λ o. out ++ spots.begun_at prog flat nodes before o) e
    ∙ ap (λ zs. out ++ zs) (begins_for prog flat nodes i before n (kind_of (slice_get flat.procs n.proc)) value is)
    ∙ sym (append_assoc out (spots.first_choices prog flat before n) (spots.rest_of prog flat nodes s n))
    ∙ ap (λ zs. zs ++ spots.rest_of prog flat nodes s n) (sym put)
    ∙ ap (λ o. more ++ spots.rest_at prog flat nodes s o) (sym e)
