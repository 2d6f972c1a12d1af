-- The configuration that a state of the code stands for. No public clause cites it.
use Rattle.std.specs.Prelude.{◌≡◌, List, [], ◌∷◌, map, drop}
use Rattle.hy_val.specs.declared.value.Value.{Value}
use Rattle.src_run.specs.declared.machine.Status.{Status}
use Rattle.src_run.specs.declared.machine.Status.TheVariants.{Going, Ended, Failed, Blocked, Cut, BadChoice}
use Rattle.src_run.specs.declared.state.Asked.{Asked}
use Rattle.src_run.specs.declared.state.Asked.TheVariants.{Const, Global, Local, Variable, Target}
use Rattle.src_run.specs.declared.state.Caller.{Caller}
use Rattle.src_run.specs.declared.state.OpenLoop.{OpenLoop}
use Rattle.src_run.specs.declared.state.Place.{Place}
use Rattle.src_run.specs.declared.state.State.{State}
use Rattle.src_run.specs.declared.state.Step.{Step}
use Rattle.src_run.specs.declared.state.Step.TheVariants.{On, Over}
use Rattle.src_run.specs.Machine.{Config, Frame, Lap, Want, AConst, AGlobal, ALocal, AVariable, ATarget}

abbrev pub want_of : Asked → Want
want_of (Const sort) = AConst sort
want_of (Global sort) = AGlobal sort
want_of (Local sort) = ALocal sort
want_of (Variable x sort) = AVariable x sort
want_of (Target targets) = ATarget targets

abbrev pub lap_of : OpenLoop → Lap
lap_of l = record { head = l.head; exit = l.exit; count = l.count }

-- loops that stand innermost last, in front of others
abbrev pub laps_onto : List OpenLoop → List Lap → List Lap
laps_onto [] outer = outer
laps_onto (l ∷ ls) outer = laps_onto ls (lap_of l ∷ outer)

abbrev pub laps_of : List OpenLoop → List Lap
laps_of ls = laps_onto ls []

abbrev pub frame_of : Place → List Value → Frame
frame_of p locals = record { proc = p.proc; block = p.block; at = p.at; locals = locals; laps = laps_of p.laps; outs = p.outs }

-- callers that stand innermost last, in front of others
abbrev pub frames_onto : List Caller → List Frame → List Frame
frames_onto [] outer = outer
frames_onto (c ∷ cs) outer = frames_onto cs (frame_of c.place c.locals ∷ outer)

-- the frames that have called the innermost one, innermost first
abbrev pub callers_of : State → List Frame
callers_of s = frames_onto s.callers []

-- the innermost frame
abbrev pub top_of : State → Frame
top_of s = frame_of s.place s.env.locals

abbrev pub config_of : State → Config
config_of s =
    record {
      status = Going;
      consts = s.env.consts;
      globals = s.env.globals;
      wants = map want_of (drop s.given s.wants);
      frames = top_of s ∷ callers_of s;
    }

-- a run with this status takes no more choices
abbrev pub IsOver : Status → Type 0
IsOver Going = ⊥
IsOver Ended = Unit {0}
IsOver (Failed proc number) = Unit {0}
IsOver Blocked = Unit {0}
IsOver Cut = Unit {0}
IsOver (BadChoice index) = Unit {0}

-- a step led to this configuration: the state stands for it, or it stands with the status
abbrev pub StepsTo : Step → State → Config → Type 0
StepsTo On s c = config_of s ≡ c
StepsTo (Over status) s c = (c.status ≡ status) × IsOver status
