use Rattle.std.proofs.Common.{◌≡◌, ℕ, List, length}
use Rattle.src_run.specs.Machine.{Config, Frame, arrive}
use Rattle.src_run.specs.State.{laps_of}
use Rattle.src_run.proofs.edges.close_left.Given as goal

abbrev pub invariant-loop-lap : goal.invariant-loop-lap
invariant-loop-lap l =
    (bound : ℕ) (c : Config) (f : Frame) (rest : List Frame) → arrive l.loops bound c f rest l.to (laps_of l.laps) ≡ arrive l.loops bound c f rest l.to (laps_of l.initial.laps)

abbrev pub decreases-loop-lap : goal.decreases-loop-lap
decreases-loop-lap l = length l.laps
