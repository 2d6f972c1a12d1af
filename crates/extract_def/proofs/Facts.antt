-- What the proof needs of extraction: where the blocks of a scope stand in its flat procedure, and in which scope an edge arrives.
use Rattle.std.proofs.Common.{◌≡◌, ℕ, zero, suc, ◌<◌, ◌^◌, true, List, [], ◌∷◌}
use Rattle.std.specs.Prelude.{Option, None, Some, slice_get}
use Rattle.std.specs.Option.{option_map}
use Rattle.src_prog.specs.Loops.{holds_block}
use Rattle.src_prog.specs.Program.{Program}
use Rattle.src_prog.specs.declared.block.Next.{Next}
use Rattle.src_prog.specs.declared.block.Next.TheVariants.{Goto as SrcGoto, Return as SrcReturn}
use Rattle.src_prog.specs.declared.block.SrcBlock.{SrcBlock}
use Rattle.src_prog.specs.declared.proc.SrcLoop.{SrcLoop}
use Rattle.src_prog.specs.declared.proc.SrcProc.{SrcProc}
use Rattle.src_run.specs.Machine.{Enter, Stay}
use Rattle.flat_prog.specs.Sites.{numbers_from}
use Rattle.flat_prog.specs.declared.block.FlatNext.TheVariants.{Return}
use Rattle.extract_def.specs.Exits.{Dest, Back, At, leaves, exits_of}
use Rattle.extract_def.specs.Extraction.{flat_of, number_of, proc_of, own_block, head_block, again_block, dest_from}
use Rattle.extract_def.specs.Places.{loop_in, exit_of, kept_place, pass_count, pass_place, leave_place, again_place, exit_local}
use Rattle.extract_def.specs.Renaming.{assume_exit, set_exit}
use Rattle.extract_def.specs.Scopes.{Scope, Whole, In, is_in, reached_blocks, scope_of, scope_around, way_from}

-- where the edge from a place of a block's end leads
abbrev pub dest_of : Next → ℕ → Option Dest
dest_of SrcReturn zero = Some Back
dest_of SrcReturn (suc place) = None
dest_of (SrcGoto targets) place = option_map At (slice_get targets place)

-- the list has it
abbrev pub Among : {X : Type 0} → List X → X → Type 0
Among xs x = (k : ℕ) × (slice_get xs k ≡ Some x)

-- ---- regions

-- a reached block of the scope that is in no loop inside it
pub record Inside (proc : SrcProc) (scope : Scope) (b : ℕ) : Type 0 where
  pub reached : is_in b (reached_blocks proc) ≡ true
  pub is : scope_of proc.loops b ≡ scope

-- a loop, whose head is reached, directly inside the scope
pub record Around (proc : SrcProc) (head exit : ℕ) (scope : Scope) : Type 0 where
  pub reached : is_in head (reached_blocks proc) ≡ true
  pub among : Among proc.loops (loop_in head exit)
  pub is : scope_around proc.loops head ≡ scope

-- the scope holds the block
abbrev pub Holds : SrcProc → Scope → ℕ → Type 0
Holds proc Whole b = Unit {0}
Holds proc (In head exit) b = Among proc.loops (loop_in head exit) × (holds_block (loop_in head exit) b ≡ true)

-- the loop is inside the scope, and isn't its own
abbrev pub IsInside : Scope → SrcLoop → Type 0
IsInside Whole l = Unit {0}
IsInside (In head exit) l = (head < l.head) × (l.exit < exit)

-- an edge that starts in a reached block of the scope, and leaves each loop inside the scope that holds the block
pub record Seen (proc : SrcProc) (scope : Scope) (b : ℕ) (dest : Dest) : Type 0 where
  pub reached : is_in b (reached_blocks proc) ≡ true
  pub held : Holds proc scope b
  pub outward : (l : SrcLoop) → Among proc.loops l → holds_block l b ≡ true → IsInside scope l → leaves l dest ≡ true

-- the edge leaves the loop of a head
abbrev pub Leaves : (head exit : ℕ) → Dest → Type 0
Leaves head exit dest = leaves (loop_in head exit) dest ≡ true

-- the edge of a block of a procedure
pub record IsEdge (proc : SrcProc) (b place : ℕ) (dest : Dest) : Type 0 where
  pub block : SrcBlock
  pub block_is : slice_get proc.blocks b ≡ Some block
  pub dest_is : dest_of block.next place ≡ Some dest

-- ---- facts

pub record Facts (prog : Program) : Type 0 where
  -- procedures
  pub whole_there : (p : ℕ) (proc : SrcProc) → slice_get prog.procs p ≡ Some proc → slice_get (flat_of prog).procs p ≡ Some (proc_of prog p proc Whole)
  pub loop_there : (p : ℕ) (proc : SrcProc) (head exit : ℕ) → slice_get prog.procs p ≡ Some proc → Inside proc (In head exit) head → slice_get (flat_of prog).procs (number_of prog p (In head exit)) ≡ Some (proc_of prog p proc (In head exit))
  pub apart : (p : ℕ) (proc : SrcProc) (head exit : ℕ) (scope : Scope) → slice_get prog.procs p ≡ Some proc → Around proc head exit scope → number_of prog p scope ≡ number_of prog p (In head exit) → ⊥
  -- blocks
  pub own_there : (p : ℕ) (proc : SrcProc) (scope : Scope) (b : ℕ) (block : SrcBlock) → slice_get prog.procs p ≡ Some proc → Inside proc scope b → slice_get proc.blocks b ≡ Some block →
      slice_get (proc_of prog p proc scope).blocks (kept_place proc scope b) ≡ Some (own_block prog p proc scope b block)
  pub head_there : (p : ℕ) (proc : SrcProc) (scope : Scope) (head exit : ℕ) → slice_get prog.procs p ≡ Some proc → Around proc head exit scope →
      slice_get (proc_of prog p proc scope).blocks (kept_place proc scope head) ≡ Some (head_block prog p proc scope (loop_in head exit))
  pub pass_listed : (p : ℕ) (proc : SrcProc) (scope : Scope) (head exit b place : ℕ) (dest : Dest) → slice_get prog.procs p ≡ Some proc → Around proc head exit scope → Seen proc (In head exit) b dest → IsEdge proc b place dest → Leaves head exit dest →
      slice_get (numbers_from (pass_place proc scope head 0) (pass_count (exits_of proc (loop_in head exit)))) (exit_of proc (In head exit) b place) ≡ Some (pass_place proc scope head (exit_of proc (In head exit) b place))
  pub pass_there : (p : ℕ) (proc : SrcProc) (scope : Scope) (head exit b place : ℕ) (dest : Dest) → slice_get prog.procs p ≡ Some proc → Around proc head exit scope → Seen proc (In head exit) b dest → IsEdge proc b place dest → Leaves head exit dest →
      slice_get (proc_of prog p proc scope).blocks (pass_place proc scope head (exit_of proc (In head exit) b place))
      ≡ Some (record { cmds = assume_exit (exit_local proc scope) (exit_of proc (In head exit) b place) ∷ []; next = dest_from proc scope b place dest })
  pub leave_there : (p : ℕ) (proc : SrcProc) (head exit b place : ℕ) (dest : Dest) → slice_get prog.procs p ≡ Some proc → Seen proc (In head exit) b dest → IsEdge proc b place dest → Leaves head exit dest →
      slice_get (proc_of prog p proc (In head exit)).blocks (leave_place proc (In head exit) (exit_of proc (In head exit) b place))
      ≡ Some (record { cmds = set_exit (exit_local proc (In head exit)) (exit_of proc (In head exit) b place) ∷ []; next = Return })
  pub again_there : (p : ℕ) (proc : SrcProc) (head exit : ℕ) → slice_get prog.procs p ≡ Some proc → slice_get (proc_of prog p proc (In head exit)).blocks (again_place proc (In head exit)) ≡ Some (again_block prog p proc (In head exit))
  pub first_whole : (p : ℕ) (proc : SrcProc) → slice_get prog.procs p ≡ Some proc → kept_place proc Whole 0 ≡ 0
  pub first_loop : (p : ℕ) (proc : SrcProc) (head exit : ℕ) → slice_get prog.procs p ≡ Some proc → Inside proc (In head exit) head → kept_place proc (In head exit) head ≡ 0
  pub few_exits : (p : ℕ) (proc : SrcProc) (head exit b place : ℕ) (dest : Dest) → slice_get prog.procs p ≡ Some proc → Inside proc (In head exit) head → Seen proc (In head exit) b dest → IsEdge proc b place dest → Leaves head exit dest → exit_of proc (In head exit) b place < 2 ^ 32
  -- where edges arrive
  pub inside_first : (p : ℕ) (proc : SrcProc) → slice_get prog.procs p ≡ Some proc → Inside proc Whole 0
  pub seen_own : (p : ℕ) (proc : SrcProc) (scope : Scope) (b place : ℕ) (dest : Dest) → slice_get prog.procs p ≡ Some proc → Inside proc scope b → IsEdge proc b place dest → Seen proc scope b dest
  pub seen_out : (p : ℕ) (proc : SrcProc) (scope : Scope) (head exit b : ℕ) (dest : Dest) → slice_get prog.procs p ≡ Some proc → Around proc head exit scope → Seen proc (In head exit) b dest → Leaves head exit dest → Seen proc scope b dest
  pub inside_stay : (p : ℕ) (proc : SrcProc) (scope : Scope) (b place to : ℕ) → slice_get prog.procs p ≡ Some proc → Seen proc scope b (At to) → IsEdge proc b place (At to) → way_from proc.loops scope to ≡ Stay → Inside proc scope to
  pub inside_enter : (p : ℕ) (proc : SrcProc) (scope : Scope) (b place to exit : ℕ) → slice_get prog.procs p ≡ Some proc → Seen proc scope b (At to) → IsEdge proc b place (At to) → way_from proc.loops scope to ≡ Enter exit →
      Inside proc (In to exit) to × Around proc to exit scope
  pub inside_again : (p : ℕ) (proc : SrcProc) (head exit b : ℕ) (dest : Dest) → slice_get prog.procs p ≡ Some proc → Seen proc (In head exit) b dest → Inside proc (In head exit) head
