-- Why a run stands where it does. What fails, blocks or cuts a run changes its status alone, so the cause can be seen in the configuration.
use Rattle.std.specs.Prelude.{◌≡◌, ◌⊎◌, ◌≤◌, ℕ, false, List, [], ◌∷◌, length, slice_get, Option, None, Some, IsSome, IsTrue}
use Rattle.hy_val.specs.declared.expr.ExprNode.{ExprNode}
use Rattle.hy_val.specs.declared.expr.Var.{Var}
use Rattle.src_prog.specs.Program.{Program}
use Rattle.src_prog.specs.Shape.{is_program}
use Rattle.src_prog.specs.declared.block.Cmd.{Cmd}
use Rattle.src_prog.specs.declared.block.Cmd.TheVariants.{Assume, Assert, Call}
use Rattle.src_prog.specs.declared.block.Next.TheVariants.{Goto}
use Rattle.src_prog.specs.declared.block.SrcBlock.{SrcBlock}
use Rattle.src_prog.specs.declared.proc.SrcProc.{SrcProc}
use Rattle.src_run.specs.declared.machine.Choice.{Choice}
use Rattle.src_run.specs.declared.machine.Status.TheVariants.{Ended, Failed, Blocked, Cut}
use Rattle.src_run.specs.Machine.{Config, Frame, Lap, env_of, open_count, are_allowed, HasStatus}
use Rattle.hy_val.specs.Stores.{holds}

-- where the innermost frame is: its procedure, the block, and the next command, none at the block's end
pub record Place (prog : Program) (c : Config) : Type 0 where
  pub frame : Frame
  pub callers : List Frame
  pub are : c.frames ≡ frame ∷ callers
  pub proc : SrcProc
  pub is_proc : slice_get prog.procs frame.proc ≡ Some proc
  pub block : SrcBlock
  pub is_block : slice_get proc.blocks frame.block ≡ Some block
  pub next : Option Cmd
  pub is_next : slice_get block.cmds frame.at ≡ next

-- each constant has its value, and the values are not allowed
pub record HasConstsNotAllowed (prog : Program) (c : Config) : Type 0 where
  pub each : length c.consts ≡ length prog.consts
  pub not_allowed : are_allowed prog c.consts ≡ false

-- the next command assumes what is false
pub record IsAtFalseAssume (prog : Program) (c : Config) : Type 0 where
  pub place : Place prog c
  pub expr : List ExprNode
  pub is_assume : place.next ≡ Some (Assume expr)
  pub is_false : holds (env_of c place.frame) expr ≡ false

-- the next command is this assert of this procedure, of what is false
pub record IsAtFalseAssert (prog : Program) (c : Config) (proc number : ℕ) : Type 0 where
  pub place : Place prog c
  pub in_proc : place.frame.proc ≡ proc
  pub expr : List ExprNode
  pub is_assert : place.next ≡ Some (Assert number expr)
  pub is_false : holds (env_of c place.frame) expr ≡ false

-- the next command calls a procedure of which the bound allows no further frame
pub record IsAtFullCall (prog : Program) (bound : ℕ) (c : Config) : Type 0 where
  pub place : Place prog c
  pub number : ℕ
  pub args : List (List ExprNode)
  pub outs : List Var
  pub is_call : place.next ≡ Some (Call number args outs)
  pub is_full : bound ≤ open_count number c.frames

-- the block's end has an edge back to the head of an open loop whose count is the bound
pub record IsAtFullLoop (prog : Program) (bound : ℕ) (c : Config) : Type 0 where
  pub place : Place prog c
  pub is_end : place.next ≡ None
  pub targets : List ℕ
  pub is_goto : place.block.next ≡ Goto targets
  pub lap : Lap
  pub edge : ℕ
  pub leads_back : slice_get targets edge ≡ Some lap.head
  pub depth : ℕ
  pub is_open : slice_get place.frame.laps depth ≡ Some lap
  pub is_full : lap.count ≡ bound

-- What is seen in the configuration at the end of a run of a program, whatever the entry, the bound and the choices.
pub record StatusesHaveCauses : Type 0 where
  -- A run that ended has left all its frames.
  pub ended : (prog : Program) → IsTrue (is_program prog) → (entry bound : ℕ) (choices : List Choice)
      → (run : HasStatus prog entry bound choices Ended) → run.last.frames ≡ []
  -- One that failed is at the assert that the status names.
  pub failed : (prog : Program) → IsTrue (is_program prog) → (entry bound : ℕ) (choices : List Choice) (proc assert : ℕ)
      → (run : HasStatus prog entry bound choices (Failed proc assert)) → IsAtFalseAssert prog run.last proc assert
  -- One that was blocked is so by what it assumes alone: never for want of a procedure, a block, a target or a frame, unless the entry is not there.
  pub blocked : (prog : Program) → IsTrue (is_program prog) → (entry : ℕ) → IsSome (slice_get prog.procs entry) → (bound : ℕ) (choices : List Choice)
      → (run : HasStatus prog entry bound choices Blocked) → HasConstsNotAllowed prog run.last ⊎ IsAtFalseAssume prog run.last
  -- One that was cut has reached the bound.
  pub cut : (prog : Program) → IsTrue (is_program prog) → (entry bound : ℕ) (choices : List Choice)
      → (run : HasStatus prog entry bound choices Cut) → IsAtFullCall prog bound run.last ⊎ IsAtFullLoop prog bound run.last
