-- How the walk over the blocks of a procedure stands: which blocks are found, and which of these are passed.
use Rattle.std.specs.Prelude.{◌≡◌, ◌⊎◌, ◌↔◌, ◌<◌, ℕ, Bool, true, false, List, ◌++◌, length, take, All, Contains, count_by, slice_index_or}
use Rattle.src_prog.specs.declared.block.SrcBlock.{SrcBlock}
use Rattle.loop_nest.specs.Reached.{targets, Reached}

-- the flag of the block is up
abbrev pub HasFlag : List Bool → ℕ → Type 0
HasFlag flags block = slice_index_or flags block false ≡ true

-- edges lead to blocks
abbrev pub IsClosed : List SrcBlock → Type 0
IsClosed blocks = (from to : ℕ) → Contains (targets blocks from) to → to < length blocks

-- there is a flag for each block, and it is up exactly where the block is reached
pub record AreReachedFlags (blocks : List SrcBlock) (flags : List Bool) : Type 0 where
  pub size : length flags ≡ length blocks
  pub exact : (block : ℕ) → HasFlag flags block ↔ Reached blocks block

-- the flags of the blocks that are found, each once
pub record AreFound (found : List ℕ) (seen : List Bool) : Type 0 where
  pub flagged : All (HasFlag seen) found
  pub listed : (block : ℕ) → HasFlag seen block → Contains found block
  pub counted : count_by (λ flag. flag) seen ≡ length found

-- all of some blocks are found now, and no others more
pub record Finds (wanted found new : List ℕ) (seen new_seen : List Bool) : Type 0 where
  pub fits : AreFound new new_seen
  pub size : length new_seen ≡ length seen
  pub more : List ℕ
  pub grown : new ≡ found ++ more
  pub kept : (block : ℕ) → HasFlag seen block → HasFlag new_seen block
  pub all : All (HasFlag new_seen) wanted
  pub only : (block : ℕ) → HasFlag new_seen block → HasFlag seen block ⊎ Contains wanted block

-- what is found is reached; and where the first so many of the found blocks lead, all is found
pub record Walking (blocks : List SrcBlock) (passed : ℕ) (found : List ℕ) (seen : List Bool) : Type 0 where
  pub fits : AreFound found seen
  pub size : length seen ≡ length blocks
  pub sound : (block : ℕ) → HasFlag seen block → Reached blocks block
  pub start : HasFlag seen 0
  pub followed : All (λ block. All (HasFlag seen) (targets blocks block)) (take passed found)
