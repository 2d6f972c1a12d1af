-- What an edge does to the loops that are open. No public clause cites it.
use Rattle.std.specs.Prelude.{◌≡◌, ℕ, nat_eq, nat_lt, Bool, true, false, if◌then◌else◌, List, [], Option, None, Some}
use Rattle.src_prog.specs.declared.proc.SrcLoop.{SrcLoop}
use Rattle.src_run.specs.declared.edges.Landing.{Landing}
use Rattle.src_run.specs.declared.edges.Landing.TheVariants.{Outside, Again, Entering, Within}
use Rattle.src_run.specs.declared.state.OpenLoop.{OpenLoop}
use Rattle.src_run.specs.Machine.{Config, Frame, Lap, Way, Enter, Stay, Out, entry_of, way, land, land_outside, land_inside, arrive, with_status}
use Rattle.src_run.specs.declared.machine.Status.TheVariants.{Cut}
use Rattle.src_run.specs.Machine as machine
use Rattle.src_run.specs.State.{lap_of, laps_of}

abbrev pub way_in : Option ℕ → Way
way_in None = Stay
way_in (Some exit) = Enter exit

abbrev pub entry_is : List SrcLoop → ℕ → Option ℕ → Type 0
entry_is loops to found = entry_of loops to ≡ way_in found

-- a loop that is there has its head below the block
abbrev pub is_below : ℕ → Option SrcLoop → Bool
is_below to None = false
is_below to (Some l) = nat_lt l.head to

-- the loop is entered where its head is the block
abbrev pub entry_at : ℕ → Option SrcLoop → Way
entry_at to None = Stay
entry_at to (Some l) = if nat_eq l.head to then Enter l.exit else Stay

-- the way of an edge from a loop
abbrev pub WayIs : Way → OpenLoop → Option Landing → Type 0
WayIs w l None = w ≡ Out
WayIs w l (Some Outside) = ⊥
WayIs w l (Some (Again m)) = (w ≡ machine.Again) × (m ≡ l)
WayIs w l (Some (Entering m exit)) = (w ≡ Enter exit) × (m ≡ l)
WayIs w l (Some (Within m)) = (w ≡ Stay) × (m ≡ l)

abbrev pub LandsBy : List SrcLoop → OpenLoop → ℕ → Option Landing → Type 0
LandsBy loops l to found = WayIs (way loops (lap_of l) to) l found

-- where an edge leads, seen from where it lands among these loops
abbrev pub landed : List SrcLoop → ℕ → Config → Frame → List Frame → ℕ → List Lap → Landing → Config
landed loops bound c f rest to laps Outside = land_outside c f rest to (entry_of loops to)
landed loops bound c f rest to laps (Again l) = land_inside bound c f rest to (lap_of l) laps machine.Again c
landed loops bound c f rest to laps (Entering l exit) = land_inside bound c f rest to (lap_of l) laps (Enter exit) c
landed loops bound c f rest to laps (Within l) = land_inside bound c f rest to (lap_of l) laps Stay c

-- no loop is open any more where none stays open
abbrev pub HasNone : List OpenLoop → Landing → Type 0
HasNone laps Outside = laps ≡ []
HasNone laps (Again l) = Unit {0}
HasNone laps (Entering l exit) = Unit {0}
HasNone laps (Within l) = Unit {0}

-- an edge lands so among the loops that were open before it, of which these are left
abbrev pub ClosesTo : List SrcLoop → ℕ → List OpenLoop → List OpenLoop → Landing → Type 0
ClosesTo loops to old new l =
    ((bound : ℕ) (c : Config) (f : Frame) (rest : List Frame) → arrive loops bound c f rest to (laps_of old) ≡ landed loops bound c f rest to (laps_of new) l) × HasNone new l

-- these loops are open behind it, or the run is cut
abbrev pub Reopens : List SrcLoop → ℕ → ℕ → Landing → List OpenLoop → List OpenLoop → Bool → Type 0
Reopens loops bound to l old new true = HasNone old l → (c : Config) (f : Frame) (rest : List Frame) → landed loops bound c f rest to (laps_of old) l ≡ land c f rest to (laps_of new)
Reopens loops bound to l old new false = (c : Config) (f : Frame) (rest : List Frame) → (landed loops bound c f rest to (laps_of old) l).status ≡ (with_status c Cut).status
