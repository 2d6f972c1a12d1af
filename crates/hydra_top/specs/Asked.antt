-- What the task that was read asks.
use Rattle.std.specs.Prelude.{◌≤◌, ⊤}
use Rattle.hydra_top.specs.declared.words.Job.{Job as JobRead}
use Rattle.hydra_top.specs.declared.words.Job.TheVariants.{Solo, Replay, Show}
use Rattle.hydra_top.specs.declared.words.Task.{Task as TaskRead}
use Rattle.hydra_top.specs.Words.{Job, solo, replay, show, Task}

abbrev pub asked_job : JobRead → Job
asked_job (Solo entry bound) = solo entry.now bound
asked_job (Replay entry bound trace) = replay entry.now bound trace.now
asked_job Show = show

abbrev pub asked : TaskRead → Task
asked t = record { file = t.file.now; job = asked_job t.job }

-- the bound is 1 to 1000
abbrev pub HasBound : JobRead → Type 0
HasBound (Solo entry bound) = (1 ≤ bound) × (bound ≤ 1000)
HasBound (Replay entry bound trace) = (1 ≤ bound) × (bound ≤ 1000)
HasBound Show = ⊤
