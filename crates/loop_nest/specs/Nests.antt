-- The loops of a procedure.
use Rattle.std.specs.Prelude.{◌≡◌, ◌≢◌, ◌⊎◌, ◌↔◌, ◌<◌, ℕ, List, [], length, map, Option, Some, None, slice_get, All, Contains, IsTrue}
use Rattle.std.specs.List.Sorted.{IsStrictlyIncreasing}
use Rattle.src_prog.specs.Loops.{holds_block}
use Rattle.src_prog.specs.declared.proc.SrcLoop.{SrcLoop}
use Rattle.src_prog.specs.declared.proc.SrcProc.{SrcProc}
use Rattle.loop_nest.specs.declared.types.Loop.{Loop}
use Rattle.loop_nest.specs.Reached.{Reached}

-- A loop: a `while` whose head is reached. Its blocks are the reached ones numbered from the head on, below the exit; they ascend.
pub record IsLoop (proc : SrcProc) (m : Loop) : Type 0 where
  pub stands : SrcLoop
  pub among : Contains proc.loops stands
  pub head : m.head ≡ stands.head
  pub reached : Reached proc.blocks m.head
  pub holds : (block : ℕ) → Contains m.blocks block ↔ (Reached proc.blocks block × IsTrue (holds_block stands block))
  pub ascend : IsStrictlyIncreasing m.blocks

abbrev pub heads : List Loop → List ℕ
heads loops = map (λ m. m.head) loops

abbrev pub blocks_from : Option Loop → List ℕ
blocks_from None = []
blocks_from (Some m) = m.blocks

-- the blocks of the loop at a place
abbrev pub blocks_at : List Loop → ℕ → List ℕ
blocks_at loops place = blocks_from (slice_get loops place)

-- the loop at the place `outer` is another one than that at the place `inner`, and holds all of its blocks
pub record IsAround (loops : List Loop) (inner outer : ℕ) : Type 0 where
  pub within : outer < length loops
  pub other : outer ≢ inner
  pub holds : (block : ℕ) → Contains (blocks_at loops inner) block → Contains (blocks_at loops outer) block

-- the place of the innermost loop around that at a place: each other one around it is around that one too
abbrev pub IsInnermost : List Loop → ℕ → Option ℕ → Type 0
IsInnermost loops inner None = (other : ℕ) → IsAround loops inner other → ⊥
IsInnermost loops inner (Some outer) = IsAround loops inner outer × ((other : ℕ) → IsAround loops inner other → (other ≡ outer) ⊎ IsAround loops outer other)

-- exactly the loops of the procedure, by head, each with the place of the innermost loop around it
pub record IsNest (proc : SrcProc) (loops : List Loop) : Type 0 where
  pub each : All (IsLoop proc) loops
  pub every : (l : SrcLoop) → Contains proc.loops l → Reached proc.blocks l.head → Contains (heads loops) l.head
  pub ascend : IsStrictlyIncreasing (heads loops)
  pub outers : (place : ℕ) (m : Loop) → slice_get loops place ≡ Some m → IsInnermost loops place m.outer

abbrev pub IsNestFrom : Option SrcProc → List Loop → Type 0
IsNestFrom None loops = ⊥
IsNestFrom (Some proc) loops = IsNest proc loops
