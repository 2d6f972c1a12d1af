-- How many frames of a procedure are open in a run, wherever it is: before and behind each step and each choice.
use Rattle.std.specs.Prelude.{◌≤◌, ◌&&◌, ℕ, nat_eq, List, if◌then◌else◌}
use Rattle.src_prog.specs.Program.{Program}
use Rattle.src_run.specs.declared.machine.Choice.{Choice}
use Rattle.src_run.specs.declared.machine.Status.{Status}
use Rattle.src_run.specs.Machine.{GoesOn, open_count, begin, HasStatus}
use Rattle.src_law.specs.OpenLoops.{config_of, turned}

-- as many as the bound, but one of the entry where the bound is 0
abbrev pub frames_allowed : (entry bound number : ℕ) → ℕ
frames_allowed entry bound number = if nat_eq bound 0 && nat_eq number entry then 1 else bound

-- No more are open of any procedure, after any number of turns and where the run stands.
pub record OpenFramesAreBounded : Type 0 where
  pub anywhere : (prog : Program) (entry bound turns : ℕ) (choices : List Choice) (number : ℕ) → open_count number (config_of (turned turns prog bound (GoesOn 0 (begin prog entry) choices))).frames ≤ frames_allowed entry bound number
  pub standing : (prog : Program) (entry bound : ℕ) (choices : List Choice) (status : Status) → (run : HasStatus prog entry bound choices status) → (number : ℕ) → open_count number run.last.frames ≤ frames_allowed entry bound number
