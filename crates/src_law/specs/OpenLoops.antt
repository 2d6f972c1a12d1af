-- The open loops of the frames of a run, wherever it is: before and behind each step and each choice.
use Rattle.std.specs.Prelude.{◌≡◌, ◌≤◌, ℕ, zero, suc, nat_eq, List, map, filter, reverse, slice_get, Some, IsTrue}
use Rattle.std.specs.List.{All, IsDistinct}
use Rattle.src_prog.specs.Loops.{holds_block}
use Rattle.src_prog.specs.Program.{Program}
use Rattle.src_prog.specs.Shape.{is_program}
use Rattle.src_prog.specs.declared.proc.SrcLoop.{SrcLoop}
use Rattle.src_prog.specs.declared.proc.SrcProc.{SrcProc}
use Rattle.src_run.specs.declared.machine.Choice.{Choice}
use Rattle.src_run.specs.declared.machine.Status.{Status}
use Rattle.src_run.specs.Machine.{Config, Frame, Lap, Turn, Stands, GoesOn, turn, begin, HasStatus}

-- where a run is after so many turns
abbrev pub turned : ℕ → Program → (bound : ℕ) → Turn → Turn
turned zero prog bound t = t
turned (suc turns) prog bound (Stands c) = Stands c
turned (suc turns) prog bound (GoesOn index c choices) = turned turns prog bound (turn prog bound index c c.status choices)

abbrev pub config_of : Turn → Config
config_of (Stands c) = c
config_of (GoesOn index c choices) = c

-- the loop that is open
abbrev pub loop_of : Lap → SrcLoop
loop_of lap = record { head = lap.head; exit = lap.exit }

-- those of the loops that hold a block, innermost first
abbrev pub loops_around : List SrcLoop → (block : ℕ) → List SrcLoop
loops_around loops block = reverse (filter (λ l. holds_block l block) loops)

-- The frame is one of a procedure; its open loops are all those around its block, no two of which have one head, and none was come back to more
-- often than the bound allows.
pub record CountsItsLoops (prog : Program) (bound : ℕ) (f : Frame) : Type 0 where
  pub proc : SrcProc
  pub is_proc : slice_get prog.procs f.proc ≡ Some proc
  pub are : map loop_of f.laps ≡ loops_around proc.loops f.block
  pub once : IsDistinct nat_eq (map (λ lap. lap.head) f.laps)
  pub within : All (λ lap. lap.count ≤ bound) f.laps

-- So it is of each open frame of a run of a program, after any number of turns and where the run stands.
pub record OpenLoopsAreCountedOnce : Type 0 where
  pub anywhere : (prog : Program) → IsTrue (is_program prog) → (entry bound turns : ℕ) (choices : List Choice) → All (CountsItsLoops prog bound) (config_of (turned turns prog bound (GoesOn 0 (begin prog entry) choices))).frames
  pub standing : (prog : Program) → IsTrue (is_program prog) → (entry bound : ℕ) (choices : List Choice) (status : Status) → (run : HasStatus prog entry bound choices status) → All (CountsItsLoops prog bound) run.last.frames
