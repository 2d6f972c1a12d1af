-- The failing run tree of row 5, with four nodes of the loop, and its choices.
use Rattle.std.proofs.Common.{◌≡◌, ℕ, true, false, [], ◌∷◌, refl}
use Rattle.hy_val.specs.declared.atom.AtomKind.TheVariants.{Bv as BvAtom}
use Rattle.hy_val.specs.declared.value.Value.{Value}
use Rattle.hy_val.specs.declared.value.Value.TheVariants.{Atom as AtomValue}
use Rattle.src_run.specs.declared.machine.Choice.TheVariants.{Go, Val}
use Rattle.src_run.specs.declared.machine.Status.TheVariants.{Failed, Cut}
use Rattle.src_run.specs.Machine.{HasStatus}
use Rattle.std.specs.List.{list_all}
use Rattle.flat_prog.specs.Caps.{within}
use Rattle.hy_val.specs.declared.expr.Var.TheVariants.{Local}
use Rattle.flat_prog.specs.Local.{Result, Ended, State, exit_value}
use Rattle.flat_prog.specs.Shape.{exit_sort}
use Rattle.flat_prog.specs.declared.block.FlatCmd.TheVariants.{Assign, Assume, Call}
use Rattle.flat_prog.specs.declared.block.FlatNext.TheVariants.{Goto, Return}
use Rattle.flat_prog.specs.declared.proc.FlatKind.TheVariants.{Loop}
use Rattle.flat_prog.specs.Runs.{FailsIn}
use Rattle.flat_prog.specs.Sites.{paths_of}
use Rattle.flat_prog.specs.Trees.{Run, node, none, inner, Means, Never}
use Rattle.flat_prog.specs.declared.proc.FlatProc.{FlatProc}
use Rattle.extract_def.proofs.Rows.{row5, bv8, is_not, next_of, exit_becomes, var}
use Rattle.extract_law.specs.Choices.{choices_of}
use Rattle.extract_def.specs.Extraction.{flat_of}

abbrev byte : ℕ → Value
byte n = AtomValue (BvAtom (record { width = 8; bits = n }))

-- a last turn, and one before it
abbrev last_turn : Run
last_turn = node (record { proc = 1; path = 0 ∷ 2 ∷ []; places = 1 ∷ []; values = [] }) none

abbrev turn_before : Run → Run
turn_before run = node (record { proc = 1; path = 0 ∷ 1 ∷ 3 ∷ []; places = 0 ∷ 0 ∷ []; values = [] }) (inner run none)

abbrev tree : Run
tree = node (record { proc = 0; path = 0 ∷ 1 ∷ 3 ∷ 2 ∷ []; places = 0 ∷ 0 ∷ 0 ∷ []; values = byte 9 ∷ exit_value 5 ∷ [] }) (inner (turn_before (turn_before (turn_before last_turn))) none)

tree_choices : choices_of row5 (flat_of row5) 0 tree ≡ Val (byte 9) ∷ Go 0 ∷ Go 0 ∷ Go 0 ∷ Go 1 ∷ []
tree_choices = refl

-- the machine fails on them within bound 3, and is cut within bound 2
pub list_fails : HasStatus row5 0 3 (choices_of row5 (flat_of row5) 0 tree) (Failed 0 1)
list_fails = record { turns = 60; last = _; runs = refl; is = refl }

list_cut : HasStatus row5 0 2 (Val (byte 9) ∷ Go 0 ∷ Go 0 ∷ Go 0 ∷ []) Cut
list_cut = record { turns = 60; last = _; runs = refl; is = refl }

-- the tree is within the caps of bound 3, and not of bound 2
within_three : list_all (within (flat_of row5) 0 3) (paths_of tree (flat_of row5) []) ≡ true
within_three = refl

past_two : list_all (within (flat_of row5) 0 2) (paths_of tree (flat_of row5) []) ≡ false
past_two = refl

-- it fails: each turn begins on i, and ends with 3 and the exit number 0
abbrev loop_proc : FlatProc
loop_proc = record {
  kind = Loop 0 1;
  ins = bv8 ∷ [];
  outs = bv8 ∷ exit_sort ∷ [];
  locals = [];
  blocks =
      record { cmds = []; next = Goto (1 ∷ 2 ∷ []) }
      ∷ record { cmds = Assume (is_not 1 3) ∷ Assign ((Local 1, next_of 1) ∷ []) ∷ []; next = Goto (3 ∷ []) }
      ∷ record { cmds = exit_becomes 2 0 ∷ []; next = Return }
      ∷ record { cmds = Call 1 (var 1 ∷ []) (Local 1 ∷ Local 2 ∷ []) ∷ []; next = Return } ∷ [];
}

abbrev turn_begin : ℕ → State
turn_begin i = record { store = record { globals = []; locals = byte i ∷ byte i ∷ exit_value 0 ∷ [] }; values = []; results = []; calls = [] }

abbrev done : Result
done = Ended (byte 3 ∷ exit_value 0 ∷ []) []

last_means : Means last_turn (flat_of row5) Never [] loop_proc (turn_begin 3) done
last_means = ([], [], (2 ∷ [], _, refl, refl, (_, _, refl, refl, refl, record { over = _; passes = refl; returns = refl; values = refl; results = refl; calls_are = refl; outs_are = refl; globals_are = refl })), tt)

third_means : Means (turn_before last_turn) (flat_of row5) Never [] loop_proc (turn_begin 2) done
third_means = (
  done ∷ [],
  record { proc = 1; globals = []; args = byte 3 ∷ [] } ∷ [],
  (1 ∷ 3 ∷ [], _, refl, refl, (_, _, refl, refl, refl, (_, _, refl, refl, refl, record { over = _; passes = refl; returns = refl; values = refl; results = refl; calls_are = refl; outs_are = refl; globals_are = refl }))),
  ((loop_proc, turn_begin 3, record { same = refl; proc = refl; globals = refl; args = refl; begin_is = refl }, last_means), tt),
)

second_means : Means (turn_before (turn_before last_turn)) (flat_of row5) Never [] loop_proc (turn_begin 1) done
second_means = (
  done ∷ [],
  record { proc = 1; globals = []; args = byte 2 ∷ [] } ∷ [],
  (1 ∷ 3 ∷ [], _, refl, refl, (_, _, refl, refl, refl, (_, _, refl, refl, refl, record { over = _; passes = refl; returns = refl; values = refl; results = refl; calls_are = refl; outs_are = refl; globals_are = refl }))),
  ((loop_proc, turn_begin 2, record { same = refl; proc = refl; globals = refl; args = refl; begin_is = refl }, third_means), tt),
)

first_means : Means (turn_before (turn_before (turn_before last_turn))) (flat_of row5) Never [] loop_proc (turn_begin 0) done
first_means = (
  done ∷ [],
  record { proc = 1; globals = []; args = byte 1 ∷ [] } ∷ [],
  (1 ∷ 3 ∷ [], _, refl, refl, (_, _, refl, refl, refl, (_, _, refl, refl, refl, record { over = _; passes = refl; returns = refl; values = refl; results = refl; calls_are = refl; outs_are = refl; globals_are = refl }))),
  ((loop_proc, turn_begin 1, record { same = refl; proc = refl; globals = refl; args = refl; begin_is = refl }, second_means), tt),
)

tree_fails : FailsIn (flat_of row5) 0 tree 0 1
tree_fails = record {
  proc = _;
  consts = [];
  globals = [];
  args = [];
  rest = byte 9 ∷ exit_value 5 ∷ [];
  begin = _;
  same = refl;
  proc_is = refl;
  values = refl;
  consts_fit = refl;
  globals_fit = refl;
  args_fit = refl;
  allowed = refl;
  begin_is = refl;
  means = (
    done ∷ [],
    record { proc = 1; globals = []; args = byte 0 ∷ [] } ∷ [],
    (
      1 ∷ 3 ∷ 2 ∷ [],
      _,
      refl,
      refl,
      (
        _,
        _,
        refl,
        refl,
        refl,
        (
          _,
          _,
          refl,
          refl,
          refl,
          (
            _,
            _,
            refl,
            refl,
            refl,
            record { before = _ ∷ []; at = _; behind = []; over = _; splits = refl; passes = refl; fails = refl; values = refl },
          ),
        ),
      ),
    ),
    ((loop_proc, turn_begin 0, record { same = refl; proc = refl; globals = refl; args = refl; begin_is = refl }, first_means), tt),
  );
}
