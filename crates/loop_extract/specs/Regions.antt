-- The blocks of a scope's flat procedure, from what is kept of the scope.
use Rattle.std.specs.Prelude.{ℕ, ◌+◌, nat_eq, nat_lt, ◌&&◌, List, [], ◌∷◌, ◌++◌, map, slice_get, Option, None, Some, if◌then◌else◌, flat_map}
use Rattle.src_prog.specs.Program.{Program}
use Rattle.src_prog.specs.Scope.{locals_of}
use Rattle.src_prog.specs.declared.block.Next.{Next}
use Rattle.src_prog.specs.declared.block.Next.TheVariants.{Goto as SrcGoto, Return as SrcReturn}
use Rattle.src_prog.specs.declared.block.SrcBlock.{SrcBlock}
use Rattle.src_prog.specs.declared.proc.SrcLoop.{SrcLoop}
use Rattle.src_prog.specs.declared.proc.SrcProc.{SrcProc}
use Rattle.flat_prog.specs.Sites.{numbers_from}
use Rattle.flat_prog.specs.declared.block.FlatBlock.{FlatBlock}
use Rattle.flat_prog.specs.declared.block.FlatNext.{FlatNext}
use Rattle.flat_prog.specs.declared.block.FlatNext.TheVariants.{Goto, Return}
use Rattle.extract_def.specs.Exits.{exits_of, place_of_edge}
use Rattle.extract_def.specs.Extraction.{number_of, no_block}
use Rattle.extract_def.specs.Places.{index_of, exits_in, pass_count, pass_place, leave_place, again_place, moved_by, exit_local}
use Rattle.extract_def.specs.Renaming.{moved_cmd, call_of_loop, assume_exit, set_exit, assume_false}
use Rattle.extract_def.specs.Scopes.{loops_inside, kept_blocks}
use Rattle.extract_def.specs.declared.edge.Dest.{Dest}
use Rattle.extract_def.specs.declared.edge.Dest.TheVariants.{Back, At}
use Rattle.extract_def.specs.declared.edge.Edge.{Edge}
use Rattle.extract_def.specs.declared.scope.Scope.{Scope}
use Rattle.extract_def.specs.declared.scope.Scope.TheVariants.{Whole, In}
use Rattle.loop_extract.specs.declared.inner.Inner.{Inner}
use Rattle.loop_extract.specs.declared.region.Region.{Region}

-- ---- what is kept of a scope

-- a loop directly inside a scope
abbrev pub inner_of : Program → (p : ℕ) → SrcProc → Scope → SrcLoop → Inner
inner_of prog p proc scope l = record { span = l; number = number_of prog p (In l.head l.exit); first = pass_place proc scope l.head 0; exits = exits_of proc l }

-- all that is kept of a scope
abbrev pub region_of : Program → (p : ℕ) → SrcProc → Scope → Region
region_of prog p proc scope =
    record {
      proc = p;
      number = number_of prog p scope;
      scope = scope;
      by = moved_by proc scope;
      local = exit_local proc scope;
      sorts = locals_of proc;
      kept = kept_blocks proc scope;
      inside = map (inner_of prog p proc scope) (loops_inside proc scope);
      exits = exits_in proc scope;
      leave = leave_place proc scope 0;
      again = again_place proc scope;
    }

-- ---- where edges lead

-- the block for an exit of the scope's loop
abbrev pub leave_at : Region → (block place : ℕ) → ℕ
leave_at r block place = r.leave + place_of_edge block place r.exits

-- the block to which an edge from a place of a block leads
abbrev pub target_at : Region → Scope → (block place to : ℕ) → ℕ
target_at r Whole block place to = index_of to r.kept
target_at r (In head exit) block place to = if nat_eq head to then r.again else (if nat_lt head to && nat_lt to exit then index_of to r.kept else leave_at r block place)

-- those of a goto, from a place on
abbrev pub targets_at : Region → (block place : ℕ) → List ℕ → List ℕ
targets_at r block place [] = []
targets_at r block place (t ∷ ts) = target_at r r.scope block place t ∷ targets_at r block (place + 1) ts

-- where a Return leads
abbrev pub return_at : Region → Scope → (block : ℕ) → FlatNext
return_at r Whole block = Return
return_at r (In head exit) block = Goto (leave_at r block 0 ∷ [])

-- how a block ends
abbrev pub next_at : Region → (block : ℕ) → Next → FlatNext
next_at r block SrcReturn = return_at r r.scope block
next_at r block (SrcGoto targets) = Goto (targets_at r block 0 targets)

-- where an edge leads
abbrev pub dest_at : Region → Edge → Dest → FlatNext
dest_at r e Back = return_at r r.scope e.block
dest_at r e (At to) = Goto (target_at r r.scope e.block e.place to ∷ [])

-- ---- blocks

-- the call of a loop directly inside
abbrev pub enter_block : Region → Inner → FlatBlock
enter_block r i = record { cmds = call_of_loop i.number r.by r.sorts ∷ []; next = Goto (numbers_from i.first (pass_count i.exits)) }

-- a block of the source procedure
abbrev pub plain_block : Region → ℕ → SrcBlock → FlatBlock
plain_block r number block = record { cmds = map (moved_cmd r.proc r.by) block.cmds; next = next_at r number block.next }

abbrev pub plain_block_at : Region → ℕ → Option SrcBlock → FlatBlock
plain_block_at r number None = no_block
plain_block_at r number (Some block) = plain_block r number block

-- the head of one of these loops calls it; another block keeps what it has
abbrev pub block_at : Region → List SrcBlock → List Inner → ℕ → FlatBlock
block_at r blocks [] number = plain_block_at r number (slice_get blocks number)
block_at r blocks (i ∷ is) number = if nat_eq i.span.head number then enter_block r i else block_at r blocks is number

-- the blocks for exits, from a number on
abbrev pub pass_from : Region → ℕ → List Edge → List FlatBlock
pass_from r x [] = []
pass_from r x (e ∷ es) = record { cmds = assume_exit r.local x ∷ []; next = dest_at r e e.dest } ∷ pass_from r (x + 1) es

-- the blocks for the exits of a loop directly inside
abbrev pub pass_all : Region → List Edge → List FlatBlock
pass_all r [] = record { cmds = assume_false ∷ []; next = Return } ∷ []
pass_all r (e ∷ es) = pass_from r 0 (e ∷ es)

-- the blocks for the exits of the scope's loop, from a number on
abbrev pub leave_from : Region → ℕ → List Edge → List FlatBlock
leave_from r x [] = []
leave_from r x (e ∷ es) = record { cmds = set_exit r.local x ∷ []; next = Return } ∷ leave_from r (x + 1) es

-- a further turn
abbrev pub again_at : Region → FlatBlock
again_at r = record { cmds = call_of_loop r.number r.by r.sorts ∷ []; next = Return }

-- the blocks behind the others
abbrev pub ends_at : Region → Scope → List FlatBlock
ends_at r Whole = []
ends_at r (In head exit) = leave_from r 0 r.exits ++ again_at r ∷ []

-- all blocks, in order
abbrev pub blocks_at : Region → List SrcBlock → List FlatBlock
blocks_at r blocks = map (block_at r blocks r.inside) r.kept ++ (flat_map (λ i. pass_all r i.exits) r.inside ++ ends_at r r.scope)
