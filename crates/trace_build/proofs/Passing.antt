-- The steps of a walk, one by one.
use Rattle.std.proofs.Common.{◌≡◌, ℕ, zero, suc, ◌+◌, ◌<◌, ◌&&◌, Bool, true, false, if◌then◌else◌, List, [], ◌∷◌, ◌++◌, map, drop, take, length, nat_lt, None, Some, slice_get, IsTrue, IsSome, refl, sym, ap, ◌∙◌, subst, arith}
use Rattle.std.proofs.lemmas.Bool.{ltb-true}
use Rattle.std.proofs.lemmas.List.{append-nil}
use Rattle.std.specs.List.{list_all}
use Rattle.hy_val.specs.declared.value.Value.{Value}
use Rattle.src_prog.specs.Program.{Program}
use Rattle.src_run.specs.declared.machine.Choice.{Choice}
use Rattle.src_run.specs.declared.machine.Choice.TheVariants.{Val}
use Rattle.src_run.proofs.Takes.{drop_none, drop_some}
use Rattle.std.proofs.lemmas.List.{drop-drop}
use Rattle.hy_val.proofs.Booleans.{and-first, and-second}
use Rattle.flat_prog.specs.Nodes.{are_nodes, are_whole_nodes, is_child, nodes_fit, run_of}
use Rattle.flat_prog.specs.Program.{FlatProgram}
use Rattle.flat_prog.specs.declared.block.FlatCmd.{FlatCmd}
use Rattle.flat_prog.specs.declared.block.FlatCmd.TheVariants.{Assign, Havoc, Assume, Assert, Call}
use Rattle.flat_prog.specs.declared.run.Child.{Child}
use Rattle.flat_prog.specs.declared.run.Child.TheVariants.{Node, Free}
use Rattle.flat_prog.specs.declared.run.RunNode.{RunNode}
use Rattle.src_prog.specs.Shape.{is_program}
use Rattle.src_run.specs.Machine.{HasStatus}
use Rattle.src_run.specs.declared.machine.Status.TheVariants.{Failed}
use Rattle.flat_prog.specs.Runs.{FailsIn, IsFull}
use Rattle.flat_prog.specs.Shape.{IsFlat}
use Rattle.flat_prog.specs.Trees.{Run}
use Rattle.extract_def.specs.Extraction.{flat_of}
use Rattle.extract_law.specs.Laws.{FailingTreesHaveLists}
use Rattle.extract_law.specs.Choices.{asks_at, next_at, place_choice, own_choices, values_behind, lists_behind, choices_below, choices_of, before_count}
use Rattle.flat_prog.specs.Laws.{run_at}
use Rattle.trace_build.specs.Spots.{IsCallAt, IsHavocAt, IsPlainAt, begun_at, blocks_at, child_choices, cmds_left, rest_at, is_plain, spot_choices, stack_choices}
use Rattle.trace_build.specs.Steps.{child_steps, children_steps, left_at, run_steps, spot_steps, stack_steps}
use Rattle.trace_build.specs.Walking.{Passes}
use Rattle.trace_build.specs.declared.walk.Spot.{Spot}
use Rattle.trace_build.proofs.Begins.{below_begins, whole_begins}
use Rattle.trace_build.proofs.Moves.{behind, front, front_steps, goes_in, goes_off, goes_on, onward, turn_steps, turns, stack_end, steps_end}

-- ---- commands that take no choice

plain_own : (c : FlatCmd) (values : List Value) (lists : List (List Choice)) → IsTrue (is_plain c) → own_choices c values lists ≡ []
plain_own (Assign pairs) values lists h = refl
plain_own (Havoc xs) values lists h = absurd cc
plain_own (Assume expr) values lists h = refl
plain_own (Assert proc number expr) values lists h = refl
plain_own (Call proc args outs) values lists h = absurd cc

plain_values : (c : FlatCmd) (values : List Value) → IsTrue (is_plain c) → values_behind c values ≡ values
plain_values (Assign pairs) values h = refl
plain_values (Havoc xs) values h = absurd cc
plain_values (Assume expr) values h = refl
plain_values (Assert proc number expr) values h = refl
plain_values (Call proc args outs) values h = refl

plain_lists : (c : FlatCmd) (lists : List (List Choice)) → IsTrue (is_plain c) → lists_behind c lists ≡ lists
plain_lists (Assign pairs) lists h = refl
plain_lists (Havoc xs) lists h = refl
plain_lists (Assume expr) lists h = refl
plain_lists (Assert proc number expr) lists h = refl
plain_lists (Call proc args outs) lists h = absurd cc

pub passes_plain : (prog : Program) (flat : FlatProgram) (nodes : List RunNode) (s : Spot) (n : RunNode) (cmd : ℕ) (out : List Choice) (stack rest : List Spot) → slice_get nodes s.node ≡ Some n → IsPlainAt (slice_get (cmds_left flat n s) s.cmd) → cmd ≡ s.cmd + 1
    → rest ≡ stack ++ behind s cmd s.value s.child ∷ [] → Passes prog flat nodes s out stack out rest
passes_plain prog flat nodes s n cmd out stack rest e (c, there, plain) is left =
    let lists = map (child_choices prog flat nodes) (drop s.child n.children) in
    let h = front_steps flat nodes s n c cmd s.value s.child e there is in
    goes_on prog flat nodes s (behind s cmd s.value s.child) [] out out stack rest
    (front prog flat nodes s n c cmd s.value s.child e there is (plain_values c (drop s.value n.values) plain) (plain_lists c lists plain)
    ∙ ap (λ zs. zs ++ spot_choices prog flat nodes (behind s cmd s.value s.child)) (plain_own c (drop s.value n.values) lists plain))
    (omega (arith, h)) (sym (append-nil out)) left

pub passes_havoc : (prog : Program) (flat : FlatProgram) (nodes : List RunNode) (s : Spot) (n : RunNode) (count cmd value : ℕ) (out more : List Choice) (stack rest : List Spot) → slice_get nodes s.node ≡ Some n → IsHavocAt (slice_get (cmds_left flat n s) s.cmd) count
    → cmd ≡ s.cmd + 1 → value ≡ s.value + count → more ≡ out ++ map Val (take count (drop s.value n.values)) → rest ≡ stack ++ behind s cmd value s.child ∷ [] → Passes prog flat nodes s out stack more rest
passes_havoc prog flat nodes s n count cmd value out more stack rest e (xs, there, many) is past put left =
    let h = front_steps flat nodes s n (Havoc xs) cmd value s.child e there is in
    goes_on prog flat nodes s (behind s cmd value s.child) (map Val (take count (drop s.value n.values))) out more stack rest
    (front prog flat nodes s n (Havoc xs) cmd value s.child e there is
    (ap (λ k. drop k (drop s.value n.values)) many ∙ drop-drop count s.value n.values ∙ ap (λ k. drop k n.values) (sym past)) refl
    ∙ ap (λ k. map Val (take k (drop s.value n.values)) ++ spot_choices prog flat nodes (behind s cmd value s.child)) many)
    (omega (arith, h)) put left

-- ---- calls

pub passes_last : (prog : Program) (flat : FlatProgram) (nodes : List RunNode) (s : Spot) (n : RunNode) (cmd : ℕ) (out : List Choice) (stack rest : List Spot) → slice_get nodes s.node ≡ Some n → IsCallAt (slice_get (cmds_left flat n s) s.cmd) → cmd ≡ s.cmd + 1
    → slice_get n.children s.child ≡ None → rest ≡ stack ++ behind s cmd s.value s.child ∷ [] → Passes prog flat nodes s out stack out rest
passes_last prog flat nodes s n cmd out stack rest e (proc, args, outs, there) is never left =
    let f = child_choices prog flat nodes in
    let c = Call proc args outs in
    let empty = drop_none s.child n.children never in
    let h = front_steps flat nodes s n c cmd s.value s.child e there is in
    goes_on prog flat nodes s (behind s cmd s.value s.child) [] out out stack rest
    (front prog flat nodes s n c cmd s.value s.child e there is refl (ap (λ cs. lists_behind c (map f cs)) empty ∙ ap (λ cs. map f cs) (sym empty))
    ∙ ap (λ cs. own_choices c (drop s.value n.values) (map f cs) ++ spot_choices prog flat nodes (behind s cmd s.value s.child)) empty)
    (omega (arith, h)) (sym (append-nil out)) left

-- a call's child, and what it gives
next_child : (prog : Program) (flat : FlatProgram) (nodes : List RunNode) (s : Spot) (n : RunNode) (cmd child : ℕ) (d : Child) → slice_get nodes s.node ≡ Some n → IsCallAt (slice_get (cmds_left flat n s) s.cmd) → cmd ≡ s.cmd + 1 → slice_get n.children s.child ≡ Some d
    → child ≡ s.child + 1 → spot_choices prog flat nodes s ≡ child_choices prog flat nodes d ++ spot_choices prog flat nodes (behind s cmd s.value child)
next_child prog flat nodes s n cmd child d e (proc, args, outs, there) is at_child past =
    let f = child_choices prog flat nodes in
    let c = Call proc args outs in
    let first = drop_some s.child n.children d at_child in
    front prog flat nodes s n c cmd s.value child e there is refl (ap (λ cs. lists_behind c (map f cs)) first ∙ ap (λ k. map f (drop k n.children)) (sym past))
    ∙ ap (λ cs. own_choices c (drop s.value n.values) (map f cs) ++ spot_choices prog flat nodes (behind s cmd s.value child)) first

child_less : (flat : FlatProgram) (nodes : List RunNode) (s : Spot) (n : RunNode) (cmd child : ℕ) (d : Child) → slice_get nodes s.node ≡ Some n → IsCallAt (slice_get (cmds_left flat n s) s.cmd) → cmd ≡ s.cmd + 1 → slice_get n.children s.child ≡ Some d → child ≡ s.child + 1
    → child_steps flat nodes d + spot_steps flat nodes (behind s cmd s.value child) < spot_steps flat nodes s
child_less flat nodes s n cmd child d e (proc, args, outs, there) is at_child past =
    let h = front_steps flat nodes s n (Call proc args outs) cmd s.value child e there is in
    let first : children_steps flat nodes (drop s.child n.children) ≡ child_steps flat nodes d + children_steps flat nodes (drop child n.children) = ap (children_steps flat nodes) (drop_some s.child n.children d at_child) ∙ ap (λ k. child_steps flat nodes d + children_steps flat nodes (drop k n.children)) (sym past) in
    omega (arith, h, first)

pub passes_free : (prog : Program) (flat : FlatProgram) (nodes : List RunNode) (s : Spot) (n : RunNode) (cmd child : ℕ) (ends : Bool) (values : List Value) (out : List Choice) (stack rest : List Spot) → slice_get nodes s.node ≡ Some n
    → IsCallAt (slice_get (cmds_left flat n s) s.cmd) → cmd ≡ s.cmd + 1 → slice_get n.children s.child ≡ Some (Free ends values) → child ≡ s.child + 1 → rest ≡ stack ++ behind s cmd s.value child ∷ [] → Passes prog flat nodes s out stack out rest
passes_free prog flat nodes s n cmd child ends values out stack rest e call is at_child past left =
    let h = child_less flat nodes s n cmd child (Free ends values) e call is at_child past in
    goes_on prog flat nodes s (behind s cmd s.value child) [] out out stack rest (next_child prog flat nodes s n cmd child (Free ends values) e call is at_child past) (omega (arith, h)) (sym (append-nil out)) left

pub passes_node : (prog : Program) (flat : FlatProgram) (nodes : List RunNode) (s : Spot) (n : RunNode) (cmd child number : ℕ) (m : RunNode) (b : Spot) (out more : List Choice) (stack rest : List Spot) → IsTrue (are_nodes nodes) → slice_get nodes s.node ≡ Some n
    → IsCallAt (slice_get (cmds_left flat n s) s.cmd) → cmd ≡ s.cmd + 1 → slice_get n.children s.child ≡ Some (Node number) → child ≡ s.child + 1 → slice_get nodes number ≡ Some m
    → out ++ begun_at prog flat nodes 0 (slice_get nodes number) ≡ more ++ spot_choices prog flat nodes b → spot_steps flat nodes b ≡ run_steps (run_at nodes number) flat
    → rest ≡ stack ++ behind s cmd s.value child ∷ [] ++ b ∷ [] → Passes prog flat nodes s out stack more rest
passes_node prog flat nodes s n cmd child number m b out more stack rest fit e call is at_child past at_node gives steps left =
    let h = child_less flat nodes s n cmd child (Node number) e call is at_child past in
    goes_in prog flat nodes s (behind s cmd s.value child) b (choices_below (run_at nodes number) prog flat) out more stack rest (next_child prog flat nodes s n cmd child (Node number) e call is at_child past) (omega (arith, h, steps))
    (ap (λ zs. out ++ zs) (below_begins prog flat nodes number m fit at_node) ∙ gives) left

-- ---- the ends of blocks

pub passes_block : (prog : Program) (flat : FlatProgram) (nodes : List RunNode) (s : Spot) (n : RunNode) (step place block : ℕ) (out more : List Choice) (stack rest : List Spot) → slice_get nodes s.node ≡ Some n → slice_get (cmds_left flat n s) s.cmd ≡ None
    → step ≡ s.step + 1 → slice_get n.places s.step ≡ Some place → slice_get n.path step ≡ Some block
    → more ≡ out ++ (if asks_at flat (slice_get (blocks_at flat n) s.block) then place_choice (next_at (slice_get (blocks_at flat n) s.block)) place else [])
    → rest ≡ stack ++ onward s block step ∷ [] → Passes prog flat nodes s out stack more rest
passes_block prog flat nodes s n step place block out more stack rest e none is at_place at_path put left =
    goes_on prog flat nodes s (onward s block step) (if asks_at flat (slice_get (blocks_at flat n) s.block) then place_choice (next_at (slice_get (blocks_at flat n) s.block)) place else []) out more stack rest
    (turns prog flat nodes s n step place block e none is at_place at_path) (turn_steps flat nodes s n step block e is at_path) put left

pub passes_out : (prog : Program) (flat : FlatProgram) (nodes : List RunNode) (s : Spot) (out : List Choice) (stack : List Spot) → slice_get nodes s.node ≡ None → Passes prog flat nodes s out stack out stack
passes_out prog flat nodes s out stack e =
    let one : spot_steps flat nodes s ≡ 1 = ap (left_at flat nodes s) e in
    goes_off prog flat nodes s out stack (ap (rest_at prog flat nodes s) e) (omega (arith, one))

-- ---- children are nodes

fit_at : (low high : ℕ) (ns : List RunNode) (k : ℕ) (n : RunNode) → nodes_fit low high ns ≡ true → slice_get ns k ≡ Some n → (l : ℕ) × (list_all (is_child l high) n.children ≡ true)
fit_at low high [] k n h e = absurd cc
fit_at low high (x ∷ ns) zero n h e =
    let same : x ≡ n = cc in
    (low, subst (λ (y : RunNode). list_all (is_child low high) y.children ≡ true) same (and-first (list_all (is_child low high) x.children) (nodes_fit (low + 1) high ns) h))
fit_at low high (x ∷ ns) (suc k) n h e = fit_at (low + 1) high ns k n (and-second (list_all (is_child low high) x.children) (nodes_fit (low + 1) high ns) h) e

child_at : (low high : ℕ) (cs : List Child) (k number : ℕ) → list_all (is_child low high) cs ≡ true → slice_get cs k ≡ Some (Node number) → number < high
child_at low high [] k number h e = absurd cc
child_at low high (c ∷ cs) zero number h e =
    let same : c ≡ Node number = cc in
    let fits : is_child low high (Node number) ≡ true = subst (λ d. is_child low high d ≡ true) same (and-first (is_child low high c) (list_all (is_child low high) cs) h) in
    ltb-true number high (and-second (nat_lt low number) (nat_lt number high) fits)
child_at low high (c ∷ cs) (suc k) number h e = child_at low high cs k number (and-second (is_child low high c) (list_all (is_child low high) cs) h) e

pub child_within : (nodes : List RunNode) (i k number : ℕ) (n : RunNode) → IsTrue (are_nodes nodes) → slice_get nodes i ≡ Some n → slice_get n.children k ≡ Some (Node number) → number < length nodes
child_within nodes i k number n fit e at_child =
    let f = fit_at 0 (length nodes) nodes i n (and-second (nat_lt 0 (length nodes)) (nodes_fit 0 (length nodes) nodes) fit) e in
    child_at f.0 (length nodes) n.children k number f.1 at_child

pub nodes_only : (nodes : List RunNode) → IsTrue (are_nodes nodes && are_whole_nodes nodes) → IsTrue (are_nodes nodes)
nodes_only nodes fit = and-first (are_nodes nodes) (are_whole_nodes nodes) fit

pub first_within : (nodes : List RunNode) → IsTrue (are_nodes nodes) → 0 < length nodes
first_within nodes fit = ltb-true 0 (length nodes) (and-first (nat_lt 0 (length nodes)) (nodes_fit 0 (length nodes) nodes) fit)

pub node_there : (nodes : List RunNode) (i : ℕ) → i < length nodes → (n : RunNode) × (slice_get nodes i ≡ Some n)
node_there [] i lt = absurd (omega (arith, lt))
node_there (n ∷ nodes) zero lt = (n, refl)
node_there (n ∷ nodes) (suc i) lt = node_there nodes i (omega (arith, lt))

-- ---- the whole walk

pub walk_more : (prog : Program) (flat : FlatProgram) (nodes : List RunNode) (s : Spot) (whole out more : List Choice) (stack left rest : List Spot) → whole ≡ out ++ stack_choices prog flat nodes stack → stack ≡ left ++ s ∷ []
    → Passes prog flat nodes s out left more rest → whole ≡ more ++ stack_choices prog flat nodes rest
walk_more prog flat nodes s whole out more stack left rest h is passes =
    h ∙ ap (λ zs. out ++ zs) (ap (stack_choices prog flat nodes) is ∙ stack_end prog flat nodes left s) ∙ passes.same

pub walk_less : (prog : Program) (flat : FlatProgram) (nodes : List RunNode) (s : Spot) (out more : List Choice) (stack left rest : List Spot) → stack ≡ left ++ s ∷ [] → Passes prog flat nodes s out left more rest
    → stack_steps flat nodes rest < stack_steps flat nodes stack
walk_less prog flat nodes s out more stack left rest is passes =
    let h = ap (stack_steps flat nodes) is ∙ steps_end flat nodes left s in
    let less = passes.fewer in
    omega (arith, h, less)

pub whole_given : (prog : Program) (flat : FlatProgram) (entry : ℕ) (nodes : List RunNode) (n : RunNode) (before : ℕ) (first : Spot) (empty given more out : List Choice) (stack : List Spot) → IsTrue (are_nodes nodes) → slice_get nodes 0 ≡ Some n
    → before ≡ before_count prog (slice_get prog.procs entry) → empty ≡ [] → given ≡ empty ++ map Val (take before (drop 0 n.values))
    → given ++ begun_at prog flat nodes before (slice_get nodes 0) ≡ more ++ spot_choices prog flat nodes first → stack ≡ first ∷ [] → out ≡ more ++ stack_choices prog flat nodes stack → out ≡ choices_of prog flat entry (run_of nodes)
whole_given prog flat entry nodes n before first empty given more out stack fit e count none put begun one end =
    end ∙ ap (λ ss. more ++ stack_choices prog flat nodes ss) one ∙ sym begun ∙ ap (λ zs. zs ++ begun_at prog flat nodes before (slice_get nodes 0)) (put ∙ ap (λ zs. zs ++ map Val (take before (drop 0 n.values))) none)
    ∙ ap (λ k. map Val (take k n.values) ++ begun_at prog flat nodes k (slice_get nodes 0)) count ∙ sym (whole_begins prog flat entry nodes n fit e)

-- ---- the law

pub fails_on : FailingTreesHaveLists → (prog : Program) (flat : FlatProgram) (entry : ℕ) (run : Run) (out : List Choice) → flat ≡ flat_of prog → IsTrue (is_program prog) → IsFlat flat → IsSome (slice_get prog.procs entry) → out ≡ choices_of prog flat entry run
    → (bound proc number : ℕ) → IsFull flat entry bound run → FailsIn flat entry run proc number → HasStatus prog entry bound out (Failed proc number)
fails_on law prog flat entry run out is program fits some value bound proc number full fails =
    subst (λ cs. HasStatus prog entry bound cs (Failed proc number)) (sym (value ∙ ap (λ f. choices_of prog f entry run) is))
    (law prog program (subst IsFlat is fits) entry bound some run proc number (subst (λ f. IsFull f entry bound run) is full) (subst (λ f. FailsIn f entry run proc number) is fails))
