-- The exits of a loop: the edges that leave it, by block and place, a Return counting as one.
use Rattle.std.specs.Prelude.{ℕ, ◌+◌, nat_eq, Bool, true, not, ◌&&◌, List, [], ◌∷◌, filter, Option, None, Some, if◌then◌else◌, slice_get, flat_map}
use Rattle.src_prog.specs.Loops.{holds_block}
use Rattle.src_prog.specs.declared.block.Next.{Next}
use Rattle.src_prog.specs.declared.block.Next.TheVariants.{Goto, Return}
use Rattle.src_prog.specs.declared.block.SrcBlock.{SrcBlock}
use Rattle.src_prog.specs.declared.proc.SrcLoop.{SrcLoop}
use Rattle.src_prog.specs.declared.proc.SrcProc.{SrcProc}
use Rattle.extract_def.specs.Scopes.{reached_blocks}
pub use Rattle.extract_def.specs.declared.edge.Dest.{Dest}
pub use Rattle.extract_def.specs.declared.edge.Dest.TheVariants.{Back, At}
pub use Rattle.extract_def.specs.declared.edge.Edge.{Edge}

-- the edges of a goto, from a place on
abbrev pub edges_to : ℕ → ℕ → List ℕ → List Edge
edges_to block place [] = []
edges_to block place (t ∷ ts) = record { block = block; place = place; dest = At t } ∷ edges_to block (place + 1) ts

-- the edges of a block that ends so
abbrev pub edges_of : ℕ → Next → List Edge
edges_of block Return = record { block = block; place = 0; dest = Back } ∷ []
edges_of block (Goto targets) = edges_to block 0 targets

-- those of a block of this number; none where it is not there
abbrev pub edges_at : ℕ → Option SrcBlock → List Edge
edges_at block None = []
edges_at block (Some b) = edges_of block b.next

-- the edge leaves the loop
abbrev pub leaves : SrcLoop → Dest → Bool
leaves l Back = true
leaves l (At to) = not (holds_block l to)

-- the edges that leave the loop from its reached blocks, by block and then by place
abbrev pub exits_of : SrcProc → SrcLoop → List Edge
exits_of proc l = filter (λ e. leaves l e.dest) (flat_map (λ b. edges_at b (slice_get proc.blocks b)) (filter (holds_block l) (reached_blocks proc)))

-- the place in the list of the edge from that place of that block
abbrev pub place_of_edge : ℕ → ℕ → List Edge → ℕ
place_of_edge block place [] = 0
place_of_edge block place (e ∷ es) = if nat_eq e.block block && nat_eq e.place place then 0 else place_of_edge block place es + 1
