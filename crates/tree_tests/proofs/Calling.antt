-- The run of the tests is a run tree.
use Rattle.std.proofs.Common.{◌≡◌, ℕ, [], ◌∷◌, refl}
use Rattle.flat_prog.specs.Local.{State, Request, Ended}
use Rattle.flat_prog.specs.Nodes.{run_of}
use Rattle.flat_prog.specs.declared.proc.FlatKind.TheVariants.{Source}
use Rattle.call_tree.specs.Descent.{IsRunTree}
use Rattle.tree_tests.specs.Programs.{proc_of, block_of, wide}
use Rattle.tree_tests.specs.Runs.{calling_nodes}

abbrev begin : State
begin = record { store = record { globals = []; locals = [] }; values = []; results = []; calls = [] }

abbrev asked : Request
asked = record { proc = 3; globals = []; args = [] }

pub calling_is : (first second : ℕ) → IsRunTree (wide first second) (run_of calling_nodes)
calling_is first second = record {
  proc = proc_of (Source 2) [] [] 9 (3 ∷ []);
  consts = [];
  begin = begin;
  result = Ended [] [];
  proc_is = refl;
  means = (
    Ended [] [] ∷ [],
    asked ∷ [],
    (
      [],
      block_of 9 (3 ∷ []),
      refl,
      refl,
      record { over = record begin { calls = asked ∷ [] }; passes = refl; returns = refl; values = refl; results = refl; calls_are = refl; outs_are = refl; globals_are = refl },
    ),
    (
      (
        proc_of (Source 3) [] [] 9 [],
        begin,
        record { same = refl; proc = refl; globals = refl; args = refl; begin_is = refl },
        (
          [],
          [],
          ([], block_of 9 [], refl, refl, record { over = begin; passes = refl; returns = refl; values = refl; results = refl; calls_are = refl; outs_are = refl; globals_are = refl }),
          tt,
        ),
      ),
      tt,
    ),
  );
}
