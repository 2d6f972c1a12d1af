-- What holds of each replay.
use Rattle.std.specs.Prelude.{◌≡◌, ℕ, ◌<◌, ◌^◌, List, IsTrue}
use Rattle.std.specs.List.{All}
use Rattle.src_prog.specs.Program.{Program}
use Rattle.src_prog.specs.Shape.{is_program}
use Rattle.src_prog.specs.declared.proc.Named.{Named}
use Rattle.src_prog.specs.declared.proc.SrcProc.{SrcProc}
use Rattle.src_run.specs.Machine.{HasStatus}
use Rattle.src_run.specs.declared.machine.Choice.{Choice}
use Rattle.src_run.specs.declared.machine.Choice.TheVariants.{Go, Val}
use Rattle.src_run.specs.declared.machine.Status.TheVariants.{Failed}
use Rattle.trace_text.specs.Printing.{IsPrinted}
use Rattle.trace_text.specs.Words.{is_identifier}
use Rattle.replay_text.specs.Replayed.{IsReplayed}
use Rattle.replay_text.specs.declared.replaying.Replayed.{Replayed}
use Rattle.replay_text.specs.declared.replaying.Replayed.TheVariants.{Done}

-- the replay of a text has one answer at most
abbrev pub ReplaysAreDetermined : Type 0
ReplaysAreDetermined = (prog : Program) (entry bound : ℕ) (text : List ℕ) (one other : Replayed) → IsReplayed prog entry bound text one → IsReplayed prog entry bound text other → one ≡ other

-- ---- names

abbrev pub AreIdentifiers : List Named → Type 0
AreIdentifiers names = All (λ (n : Named). IsTrue (is_identifier n.name)) names

pub record HasIdentifiersWithin (proc : SrcProc) : Type 0 where
  pub name : IsTrue (is_identifier proc.name)
  pub ins : AreIdentifiers proc.ins
  pub outs : AreIdentifiers proc.outs
  pub locals : AreIdentifiers proc.locals

-- each name that the program declares is an identifier
pub record HasIdentifiers (prog : Program) : Type 0 where
  pub consts : AreIdentifiers prog.consts
  pub globals : AreIdentifiers prog.globals
  pub procs : All HasIdentifiersWithin prog.procs

-- ---- printed traces

-- 32 bits hold the place of a target
abbrev pub IsPlaced : Choice → Type 0
IsPlaced (Go place) = place < 2 ^ 32
IsPlaced (Val value) = Unit {0}

-- The text that is printed of a failing run is replayed as it, and as nothing else.
abbrev pub PrintedTracesAreReplayed : Type 0
PrintedTracesAreReplayed =
    (prog : Program) → IsTrue (is_program prog) → HasIdentifiers prog → (entry bound : ℕ) (choices : List Choice) (proc assert : ℕ)
    → All IsPlaced choices → assert < 2 ^ 32 → HasStatus prog entry bound choices (Failed proc assert)
    → (text : List ℕ) → IsPrinted prog entry bound choices text
    → IsReplayed prog entry bound text (Done proc assert) × ((replayed : Replayed) → IsReplayed prog entry bound text replayed → replayed ≡ Done proc assert)
