-- Laws of the loops of a procedure, for each procedure of a program.
use Rattle.std.specs.Prelude.{◌≡◌, ◌≢◌, ◌⊎◌, ◌<◌, ℕ, List, Some, slice_get, All, AllPairs, Any, Contains, IsTrue}
use Rattle.src_prog.specs.Program.{Program}
use Rattle.src_prog.specs.Shape.{is_program}
use Rattle.src_prog.specs.declared.block.SrcBlock.{SrcBlock}
use Rattle.src_prog.specs.declared.proc.SrcProc.{SrcProc}
use Rattle.loop_nest.specs.declared.types.Loop.{Loop}
use Rattle.loop_nest.specs.Nests.{IsNest}
use Rattle.loop_nest.specs.Reached.{targets, Reached}

-- the procedure is one of a program, and these are its loops
pub record HasNest (proc : SrcProc) (loops : List Loop) : Type 0 where
  pub prog : Program
  pub is_prog : IsTrue (is_program prog)
  pub number : ℕ
  pub is_proc : slice_get prog.procs number ≡ Some proc
  pub nest : IsNest proc loops

-- The definition has one answer.
abbrev pub NestsAreUnique : Type 0
NestsAreUnique = (proc : SrcProc) (one other : List Loop) → HasNest proc one → IsNest proc other → one ≡ other

-- The head of a loop is the first of its blocks.
abbrev pub HeadsComeFirst : Type 0
HeadsComeFirst = (proc : SrcProc) (loops : List Loop) → HasNest proc loops → All (λ m. slice_get m.blocks 0 ≡ Some m.head) loops

-- a path of edges leads from block 0 to the block, and does not pass another one
pub data ReachedWithout (blocks : List SrcBlock) (avoided : ℕ) : ℕ → Type 0 where
  entry : 0 ≢ avoided → ReachedWithout blocks avoided 0
  edge : {from to : ℕ} → ReachedWithout blocks avoided from → Contains (targets blocks from) to → to ≢ avoided → ReachedWithout blocks avoided to

-- A loop is entered at its head alone: an edge into it from a block that it does not hold leads to its head, and each path from block 0 to a
-- block of it passes its head.
pub record LoopsAreEnteredAtHeads : Type 0 where
  pub edges : (proc : SrcProc) (loops : List Loop) → HasNest proc loops → (from to : ℕ) → Reached proc.blocks from → Contains (targets proc.blocks from) to
      → All (λ m. (Contains m.blocks from → ⊥) → Contains m.blocks to → to ≡ m.head) loops
  pub paths : (proc : SrcProc) (loops : List Loop) → HasNest proc loops → All (λ m. (block : ℕ) → Contains m.blocks block → ReachedWithout proc.blocks m.head block → ⊥) loops

-- an edge from a block of a loop to its head
abbrev pub IsBackEdge : List Loop → ℕ → ℕ → Type 0
IsBackEdge loops from to = Any (λ m. Contains m.blocks from × (m.head ≡ to)) loops

-- Each edge from a reached block that is no back edge leads to a greater block.
abbrev pub OtherEdgesLeadOn : Type 0
OtherEdgesLeadOn = (proc : SrcProc) (loops : List Loop) → HasNest proc loops → (from to : ℕ) → Reached proc.blocks from → Contains (targets proc.blocks from) to → (from < to) ⊎ IsBackEdge loops from to

-- they share no block
abbrev pub AreDisjoint : Loop → Loop → Type 0
AreDisjoint m n = (block : ℕ) → Contains m.blocks block → Contains n.blocks block → ⊥

-- the first holds all blocks of the second
abbrev pub Holds : Loop → Loop → Type 0
Holds m n = (block : ℕ) → Contains n.blocks block → Contains m.blocks block

-- Of two loops, the one with the lesser head first, the first holds the second, or they share no block.
abbrev pub LoopsAreNested : Type 0
LoopsAreNested = (proc : SrcProc) (loops : List Loop) → HasNest proc loops → AllPairs (λ m n. AreDisjoint m n ⊎ Holds m n) loops
