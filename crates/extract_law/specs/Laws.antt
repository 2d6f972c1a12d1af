-- Extraction keeps the failing runs.
use Rattle.std.specs.Prelude.{◌≤◌, ℕ, List, IsTrue, IsSome, slice_get}
use Rattle.src_prog.specs.Program.{Program}
use Rattle.src_prog.specs.Shape.{is_program}
use Rattle.src_run.specs.declared.machine.Choice.{Choice}
use Rattle.src_run.specs.declared.machine.Status.TheVariants.{Failed}
use Rattle.src_run.specs.Machine.{HasStatus}
use Rattle.flat_prog.specs.Runs.{FailsIn, IsFull}
use Rattle.flat_prog.specs.Shape.{IsFlat}
use Rattle.flat_prog.specs.Trees.{Run}
use Rattle.extract_law.specs.Choices.{choices_of}
use Rattle.extract_def.specs.Extraction.{flat_of}

-- Where the machine fails on some choices, some run tree in the full inlining of the flat program fails in the same assert of the same procedure.
abbrev pub FailingListsHaveTrees : Type 0
FailingListsHaveTrees =
    (prog : Program) → IsTrue (is_program prog) → IsFlat (flat_of prog) → (entry bound : ℕ) → 1 ≤ bound → (choices : List Choice) (proc number : ℕ)
    → HasStatus prog entry bound choices (Failed proc number) → (run : Run) × IsFull (flat_of prog) entry bound run × FailsIn (flat_of prog) entry run proc number

-- Where a run tree in the full inlining fails, the machine fails in the same assert of the same procedure on the choices that the tree stands for.
abbrev pub FailingTreesHaveLists : Type 0
FailingTreesHaveLists =
    (prog : Program) → IsTrue (is_program prog) → IsFlat (flat_of prog) → (entry bound : ℕ) → IsSome (slice_get prog.procs entry) → (run : Run) (proc number : ℕ)
    → IsFull (flat_of prog) entry bound run → FailsIn (flat_of prog) entry run proc number → HasStatus prog entry bound (choices_of prog (flat_of prog) entry run) (Failed proc number)
