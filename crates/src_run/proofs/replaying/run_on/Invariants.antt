use Rattle.std.proofs.Common.{◌≤◌, drop, length}
use Rattle.src_run.specs.declared.machine.Status.{Status}
use Rattle.src_run.specs.Machine.{Comes}
use Rattle.src_run.specs.Sorted.{AreSorted}
use Rattle.src_run.specs.State.{config_of}
use Rattle.src_run.proofs.Measured.{Suffices, enough, turns_left}
use Rattle.src_run.proofs.replaying.run_on.Given as goal

abbrev pub invariant-loop-state : goal.invariant-loop-state
invariant-loop-state l = record {
  sorted : AreSorted l.prog (config_of l.state);
  within : l.index ≤ length l.choices;
  reaches : (status : Status) → Comes l.prog l.bound l.index (config_of l.state) (drop l.index l.choices) status → Comes l.prog l.bound 0 (config_of l.initial.state) l.choices status;
  suffices : Suffices (enough l.prog l.initial.state.place.proc l.bound l.choices) l.prog l.bound l.index (config_of l.state) (drop l.index l.choices);
}

abbrev pub decreases-loop-state : goal.decreases-loop-state
decreases-loop-state l = turns_left (enough l.prog l.initial.state.place.proc l.bound l.choices) l.prog l.bound l.index (config_of l.state) (drop l.index l.choices)
