-- The choices that a run tree of the flat program stands for, in the order in which the machine asks for them.
use Rattle.std.specs.Prelude.{ℕ, ◌+◌, Bool, not, if◌then◌else◌, List, [], ◌∷◌, ◌++◌, map, length, take, drop, slice_get, Option, None, Some}
use Rattle.std.specs.List.{list_any}
use Rattle.hy_val.specs.declared.value.Value.{Value}
use Rattle.src_prog.specs.Program.{Program}
use Rattle.src_prog.specs.Scope.{sorts_of}
use Rattle.src_prog.specs.declared.proc.SrcProc.{SrcProc}
use Rattle.src_run.specs.declared.machine.Choice.{Choice}
use Rattle.src_run.specs.declared.machine.Choice.TheVariants.{Go, Val}
use Rattle.flat_prog.specs.Program.{FlatProgram, blocks_of}
use Rattle.flat_prog.specs.Shape.{is_loop_kind}
use Rattle.flat_prog.specs.Caps.{kind_of}
use Rattle.flat_prog.specs.Local.{Track}
use Rattle.flat_prog.specs.Sites.{calls_of}
use Rattle.flat_prog.specs.Trees.{Run, Below, node, none, inner, free}
use Rattle.flat_prog.specs.declared.block.FlatBlock.{FlatBlock}
use Rattle.flat_prog.specs.declared.block.FlatCmd.{FlatCmd}
use Rattle.flat_prog.specs.declared.block.FlatCmd.TheVariants.{Assign, Havoc, Assume, Assert, Call}
use Rattle.flat_prog.specs.declared.block.FlatNext.{FlatNext}
use Rattle.flat_prog.specs.declared.block.FlatNext.TheVariants.{Goto, Return}
use Rattle.flat_prog.specs.declared.proc.FlatKind.{FlatKind}
use Rattle.flat_prog.specs.declared.proc.FlatKind.TheVariants.{Source, Loop}
use Rattle.flat_prog.specs.declared.proc.FlatProc.{FlatProc}

-- the first of some lists, and those behind it
abbrev pub first_list : List (List Choice) → List Choice
first_list [] = []
first_list (xs ∷ lists) = xs

abbrev pub other_lists : List (List Choice) → List (List Choice)
other_lists [] = []
other_lists (xs ∷ lists) = lists

-- ---- commands

-- a havoc takes a value for each name, and a call has the choices of the run below it
abbrev pub own_choices : FlatCmd → List Value → List (List Choice) → List Choice
own_choices (Assign pairs) values lists = []
own_choices (Havoc xs) values lists = map Val (take (length xs) values)
own_choices (Assume expr) values lists = []
own_choices (Assert proc number expr) values lists = []
own_choices (Call proc args outs) values lists = first_list lists

-- the values that are left behind a command, and the lists of the calls behind it
abbrev pub values_behind : FlatCmd → List Value → List Value
values_behind (Assign pairs) values = values
values_behind (Havoc xs) values = drop (length xs) values
values_behind (Assume expr) values = values
values_behind (Assert proc number expr) values = values
values_behind (Call proc args outs) values = values

abbrev pub lists_behind : FlatCmd → List (List Choice) → List (List Choice)
lists_behind (Assign pairs) lists = lists
lists_behind (Havoc xs) lists = lists
lists_behind (Assume expr) lists = lists
lists_behind (Assert proc number expr) lists = lists
lists_behind (Call proc args outs) lists = other_lists lists

-- the choices of commands that are passed, in order; what is left behind all of them
abbrev pub cmds_choices : List FlatCmd → List Value → List (List Choice) → List Choice
cmds_choices [] values lists = []
cmds_choices (c ∷ cmds) values lists = own_choices c values lists ++ cmds_choices cmds (values_behind c values) (lists_behind c lists)

abbrev pub values_after : List FlatCmd → List Value → List Value
values_after [] values = values
values_after (c ∷ cmds) values = values_after cmds (values_behind c values)

abbrev pub lists_after : List FlatCmd → List (List Choice) → List (List Choice)
lists_after [] lists = lists
lists_after (c ∷ cmds) lists = lists_after cmds (lists_behind c lists)

-- ---- paths

-- a goto with one target takes no choice
abbrev pub place_choice : FlatNext → ℕ → List Choice
place_choice Return place = []
place_choice (Goto []) place = []
place_choice (Goto (to ∷ [])) place = []
place_choice (Goto (to ∷ other ∷ targets)) place = Go place ∷ []

-- the procedure of this number is that of a loop
abbrev pub is_loop_at : FlatProgram → ℕ → Bool
is_loop_at flat p = is_loop_kind (kind_of (slice_get flat.procs p))

-- the commands of a block, and how it ends
abbrev pub cmds_at : Option FlatBlock → List FlatCmd
cmds_at None = []
cmds_at (Some b) = b.cmds

abbrev pub next_at : Option FlatBlock → FlatNext
next_at None = Return
next_at (Some b) = b.next

-- a block that calls a loop procedure asks for no target: the machine has left the loop by the exit that follows
abbrev pub asks_at : FlatProgram → Option FlatBlock → Bool
asks_at flat o = not (list_any (is_loop_at flat) (calls_of (cmds_at o)))

-- from the commands that are left in a block on
abbrev pub path_choices : FlatProgram → List FlatBlock → (asks : Bool) → (path places : List ℕ) → List FlatCmd → FlatNext → List Value → List (List Choice) → List Choice
path_choices flat blocks asks [] places cmds next values lists = cmds_choices cmds values lists
path_choices flat blocks asks (b ∷ path) [] cmds next values lists = cmds_choices cmds values lists
path_choices flat blocks asks (b ∷ path) (place ∷ places) cmds next values lists =
    cmds_choices cmds values lists
    ++ ((if asks then place_choice next place else [])
    ++ path_choices flat blocks (asks_at flat (slice_get blocks b)) path places (cmds_at (slice_get blocks b)) (next_at (slice_get blocks b)) (values_after cmds values) (lists_after cmds lists))

-- a run from block 0, where these values are left
abbrev pub way_choices : FlatProgram → List FlatBlock → Track → List Value → List (List Choice) → List Choice
way_choices flat blocks track values lists =
    path_choices flat blocks (asks_at flat (slice_get blocks 0)) (drop 1 track.path) track.places (cmds_at (slice_get blocks 0)) (next_at (slice_get blocks 0)) values lists

-- ---- runs

-- how many outs and locals a source procedure has
abbrev pub own_count : Option SrcProc → ℕ
own_count None = 0
own_count (Some q) = length (sorts_of q.outs ++ sorts_of q.locals)

-- how many outs and locals a flat procedure has
abbrev pub taken_count : Option FlatProc → ℕ
taken_count None = 0
taken_count (Some q) = length (q.outs ++ q.locals)

-- a source node takes a value for each out and local, and one for the exit number that the machine does not ask for; a loop node takes none
abbrev pub node_choices : Program → FlatProgram → FlatKind → Track → List (List Choice) → List Choice
node_choices prog flat (Source p) track lists =
    map Val (take (own_count (slice_get prog.procs p)) track.values)
    ++ way_choices flat (blocks_of (slice_get flat.procs track.proc)) track (drop (taken_count (slice_get flat.procs track.proc)) track.values) lists
node_choices prog flat (Loop p head) track lists = way_choices flat (blocks_of (slice_get flat.procs track.proc)) track track.values lists

-- the choices of a run below a call, and those of the runs below a node, one list a call
abbrev mutual
  pub choices_below : Run → Program → FlatProgram → List Choice
  choices_below (node track below) prog flat = node_choices prog flat (kind_of (slice_get flat.procs track.proc)) track (lists_below below prog flat)

  pub lists_below : Below → Program → FlatProgram → List (List Choice)
  lists_below none prog flat = []
  lists_below (inner run below) prog flat = choices_below run prog flat ∷ lists_below below prog flat
  lists_below (free ends values below) prog flat = [] ∷ lists_below below prog flat

-- the entry takes a value for each constant, global and in before those
abbrev pub before_count : Program → Option SrcProc → ℕ
before_count prog None = 0
before_count prog (Some q) = length prog.consts + (length prog.globals + length q.ins)

-- the same run, where so many values are taken before
abbrev pub without_first : ℕ → Track → Track
without_first n track = record track { values = drop n track.values }

-- the choices that a run tree of the entry stands for, in the order in which the machine asks for them
abbrev pub choices_of : Program → FlatProgram → (entry : ℕ) → Run → List Choice
choices_of prog flat entry (node track below) =
    map Val (take (before_count prog (slice_get prog.procs entry)) track.values)
    ++ node_choices prog flat (kind_of (slice_get flat.procs track.proc)) (without_first (before_count prog (slice_get prog.procs entry)) track) (lists_below below prog flat)
