-- A whole run: its status and its names.
use Rattle.std.specs.Prelude.{◌≡◌, ℕ, List}
use Rattle.src_prog.specs.Program.{Program}
use Rattle.src_run.specs.declared.asking.Run.{Run}
use Rattle.src_run.specs.declared.machine.Choice.{Choice}
use Rattle.src_run.specs.declared.machine.Status.{Status}
use Rattle.src_run.specs.Machine.{Config, Comes, HasStatus}
use Rattle.src_run.specs.Names.{HasNames, NamesCome}

-- the run from a configuration on
abbrev pub IsRunFrom : Program → (bound : ℕ) → Config → List Choice → Run → Type 0
IsRunFrom prog bound c choices run = Comes prog bound 0 c choices run.status × NamesCome prog bound 0 c choices run.names

-- the entry's run, which has no other status
abbrev pub IsRun : Program → (entry bound : ℕ) → List Choice → Run → Type 0
IsRun prog entry bound choices run =
    HasStatus prog entry bound choices run.status × HasNames prog entry bound choices run.names × ((other : Status) → HasStatus prog entry bound choices other → other ≡ run.status)
