-- The values that a run takes of the blocks that it comes to, and their terms.
use Rattle.std.specs.Prelude.{◌≡◌, ℕ, ◌<◌, Bool, List, [], ◌∷◌, ◌++◌, length, take, slice_get, Option, None, Some, if◌then◌else◌}
use Rattle.hy_val.specs.Values.{is_on}
use Rattle.hy_val.specs.declared.value.Value.{Value}
use Rattle.hy_term.specs.TermSorts.{sort_at}
use Rattle.hy_term.specs.Meaning.{value}
use Rattle.hy_term.specs.declared.node.TermNode.{TermNode}
use Rattle.flat_prog.specs.declared.block.FlatCmd.{FlatCmd}
use Rattle.flat_prog.specs.declared.block.FlatCmd.TheVariants.{Assign, Havoc, Assume, Assert, Call}
use Rattle.flat_prog.specs.declared.proc.FlatProc.{FlatProc}
use Rattle.passive_form.specs.Limited.{Limited}
use Rattle.passive_form.specs.Local.{State, alone, pass, cmds_of}
use Rattle.passive_form.specs.declared.Item.{Item}
use Rattle.passive_form.specs.declared.Item.TheVariants.{Let, Zero, Free, Need, Check, Site}
use Rattle.vc_gen.specs.Fold.{Seen}
use Rattle.vc_gen.specs.Items.{bool_sort, on_after}
use Rattle.vc_gen.specs.declared.parts.ValueTerm.{ValueTerm}

-- ---- terms

-- the values of those whose bits are true
abbrev pub true_values : (ℕ → Value) → List TermNode → List ValueTerm → List Value
true_values a nodes [] = []
true_values a nodes (v ∷ vs) = if is_on (value a nodes v.live) then value a nodes v.node ∷ true_values a nodes vs else true_values a nodes vs

-- each has its bit and its variable among the nodes
abbrev pub ValuesThere : List TermNode → List ValueTerm → Type 0
ValuesThere nodes [] = Unit {0}
ValuesThere nodes (v ∷ vs) = ((sort_at nodes v.live ≡ Some bool_sort) × (v.node < length nodes)) × ValuesThere nodes vs

-- ---- items

-- what an item takes where the run comes to it
abbrev pub free_by : (ℕ → Value) → Bool → Item → List Value
free_by vals on (Let v e) = []
free_by vals on (Zero v s) = []
free_by vals on (Free v s) = if on then vals v ∷ [] else []
free_by vals on (Need e) = []
free_by vals on (Check p e) = []
free_by vals on (Site p f args before outs changes after) = []

-- the same of items in order, each where the run is then
abbrev pub frees_in : List Value → (ℕ → Value) → Bool → List Item → List Value
frees_in consts vals on [] = []
frees_in consts vals on (i ∷ items) = free_by vals on i ++ frees_in consts vals (on_after consts vals on i) items

-- ---- commands

-- what a command takes of the values that are left: a havoc one for each of its variables
abbrev pub taken_at : FlatCmd → State → List Value
taken_at (Assign pairs) s = []
taken_at (Havoc xs) s = take (length xs) s.values
taken_at (Assume e) s = []
taken_at (Assert p n e) s = []
taken_at (Call p args outs) s = []

-- what is taken behind a command that holds; behind one that doesn't nothing is
abbrev pub taken_behind : (State → List Value) → Option State → List Value
taken_behind f None = []
taken_behind f (Some m) = f m

-- what commands take, up to the one that stops the run
abbrev pub values_on : Limited → FlatProc → List FlatCmd → State → List Value
values_on flat q [] s = []
values_on flat q (c ∷ cs) s = taken_at c s ++ taken_behind (values_on flat q cs) (pass flat q c s)

-- ---- blocks

-- what a block takes where the run comes to it
abbrev pub values_seen : Limited → FlatProc → Seen → List Value
values_seen flat q x = if x.on then values_on flat q (cmds_of (slice_get q.blocks x.given.number)) (alone x.env x.given.values x.given.results []) else []

-- of all blocks that the run comes to, in the order in which they are gone through
abbrev pub all_values : Limited → FlatProc → List Seen → List Value
all_values flat q [] = []
all_values flat q (x ∷ xs) = values_seen flat q x ++ all_values flat q xs
