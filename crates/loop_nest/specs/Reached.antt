-- The blocks of a procedure that a run may come to, if only its gotos are looked at.
use Rattle.std.specs.Prelude.{ℕ, List, [], Option, Some, None, slice_get, Contains}
use Rattle.src_prog.specs.declared.block.Next.{Next}
use Rattle.src_prog.specs.declared.block.Next.TheVariants.{Goto, Return}
use Rattle.src_prog.specs.declared.block.SrcBlock.{SrcBlock}

abbrev pub targets_of : Next → List ℕ
targets_of (Goto targets) = targets
targets_of Return = []

abbrev pub targets_from : Option SrcBlock → List ℕ
targets_from None = []
targets_from (Some block) = targets_of block.next

-- the blocks to which edges lead from a block: the targets of its goto
abbrev pub targets : List SrcBlock → ℕ → List ℕ
targets blocks block = targets_from (slice_get blocks block)

-- a path of edges leads from block 0 to the block
pub data Reached (blocks : List SrcBlock) : ℕ → Type 0 where
  entry : Reached blocks 0
  edge : {from to : ℕ} → Reached blocks from → Contains (targets blocks from) to → Reached blocks to
