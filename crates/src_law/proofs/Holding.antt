-- The values that a run holds have their sorts, and none is missing where no first value is asked for.
use Rattle.std.proofs.Common.{◌≡◌, ℕ, zero, suc, true, List, [], ◌∷◌, slice_get, Option, None, Some, ◌∙◌, refl, subst}
use Rattle.std.specs.List.{All}
use Rattle.std.proofs.lemmas.List.{length-map}
use Rattle.std.proofs.lemmas.List.Elements.{All-nil, All-cons}
use Rattle.hy_val.specs.declared.expr.Var.{Var}
use Rattle.hy_val.specs.declared.sort.Sort.{Sort}
use Rattle.hy_val.specs.declared.value.Value.{Value}
use Rattle.src_prog.specs.Program.{Program}
use Rattle.src_prog.specs.Scope.{sorts_of, locals_of}
use Rattle.src_prog.specs.Shape.{is_program}
use Rattle.src_prog.specs.declared.proc.Named.{Named}
use Rattle.src_prog.specs.declared.proc.SrcProc.{SrcProc}
use Rattle.src_run.proofs.Sorted.{have_length, complete}
use Rattle.src_run.proofs.Sorting.{const_next, global_next, local_next, variable_next, IsSortedTurn, begin_sorted, turn_sorted}
use Rattle.src_run.specs.declared.machine.Choice.{Choice}
use Rattle.src_run.specs.declared.machine.Status.{Status}
use Rattle.src_run.specs.declared.machine.Status.TheVariants.{Going, Ended, Failed, Blocked, Cut, BadChoice}
use Rattle.src_run.specs.Machine.{Config, Frame, Want, AConst, AGlobal, ALocal, AVariable, ATarget, Turn, Stands, GoesOn, begin, begin_in, turn, over, HasStatus}
use Rattle.src_run.specs.Sorted.{HaveSorts, AreCallers, AreFrames, AreSorted, AreComplete}
use Rattle.src_law.specs.HeldValues.{AsksNext, HaveTheirSorts, HoldsItsLocals, HoldsItsValues, HoldsAllLocals, HoldsAllValues, ValuesHaveTheirSorts}
use Rattle.src_law.specs.OpenLoops.{config_of, turned}
use Rattle.src_law.proofs.Counting.{turned_stands}

have_each : (vs : List Value) (sorts missing : List Sort) → HaveSorts vs sorts missing → HaveTheirSorts vs sorts
have_each [] sorts missing h n v e = cc
have_each (w ∷ vs) [] missing h n v e = absurd h
have_each (w ∷ vs) (s ∷ ss) missing h zero v e = let same : w ≡ v = cc in (s, refl, rw (← same) h.0)
have_each (w ∷ vs) (s ∷ ss) missing h (suc n) v e = have_each vs ss missing h.1 n v e

-- ---- what is sorted

module _ (prog : Program) where
  callers_hold : (callee : SrcProc) (outs : List Var) (frames : List Frame) → AreCallers prog callee outs frames → All (HoldsItsLocals prog) frames
  callers_hold callee outs [] h = All-nil (HoldsItsLocals prog)
  callers_hold callee outs (f ∷ rest) (proc, frame, fit, below) =
      All-cons (HoldsItsLocals prog) f rest (record { proc = proc; is_proc = frame.0; locals = have_each f.locals (locals_of proc) [] frame.1 }) (callers_hold proc f.outs rest below)

  frames_hold : (frames : List Frame) (missing : List Sort) → AreFrames prog frames missing → All (HoldsItsLocals prog) frames
  frames_hold [] missing h = All-nil (HoldsItsLocals prog)
  frames_hold (f ∷ rest) missing (proc, frame, callers) =
      All-cons (HoldsItsLocals prog) f rest (record { proc = proc; is_proc = frame.0; locals = have_each f.locals (locals_of proc) missing frame.1 }) (callers_hold proc f.outs rest callers)

  all_locals : (f : Frame) (proc : SrcProc) → slice_get prog.procs f.proc ≡ Some proc → HaveSorts f.locals (locals_of proc) [] → HoldsAllLocals prog f
  all_locals f proc is have = record { proc = proc; is_proc = is; each = have_length f.locals (locals_of proc) have }

  callers_whole : (callee : SrcProc) (outs : List Var) (frames : List Frame) → AreCallers prog callee outs frames → All (HoldsAllLocals prog) frames
  callers_whole callee outs [] h = All-nil (HoldsAllLocals prog)
  callers_whole callee outs (f ∷ rest) (proc, frame, fit, below) = All-cons (HoldsAllLocals prog) f rest (all_locals f proc frame.0 frame.1) (callers_whole proc f.outs rest below)

  frames_whole : (frames : List Frame) → AreFrames prog frames [] → All (HoldsAllLocals prog) frames
  frames_whole [] h = All-nil (HoldsAllLocals prog)
  frames_whole (f ∷ rest) (proc, frame, callers) = All-cons (HoldsAllLocals prog) f rest (all_locals f proc frame.0 frame.1) (callers_whole proc f.outs rest callers)

  complete_whole : (c : Config) → AreComplete prog c → HoldsAllValues prog c
  complete_whole c h = record {
    consts = have_length c.consts (sorts_of prog.consts) h.consts ∙ length-map prog.consts (λ (n : Named). n.sort);
    globals = have_length c.globals (sorts_of prog.globals) h.globals ∙ length-map prog.globals (λ (n : Named). n.sort);
    frames = frames_whole c.frames h.frames;
  }

  pub sorted_asks : (c : Config) → AreSorted prog c → (ws : List Want) → c.wants ≡ ws → AsksNext prog c ws
  sorted_asks c h [] asks = tt
  sorted_asks c h (AConst s ∷ ws) asks = const_next prog c h ws s asks
  sorted_asks c h (AGlobal s ∷ ws) asks = global_next prog c h ws s asks
  sorted_asks c h (ALocal s ∷ ws) asks =
      let (f, rest, proc, are, is, next) = local_next prog c h ws s asks in
      (f, proc, record { callers = rest; are = are; is_proc = is }, next)
  sorted_asks c h (AVariable x o ∷ ws) asks =
      let (f, rest, proc, are, is, sort) = variable_next prog c h ws x o asks in
      (f, proc, record { callers = rest; are = are; is_proc = is }, sort)
  sorted_asks c h (ATarget ts ∷ ws) asks = tt

  sorted_holds : (entry : ℕ) (c : Config) → AreSorted prog c → HoldsItsValues prog entry c
  sorted_holds entry c h = record {
    consts = have_each c.consts (sorts_of prog.consts) h.missing_consts h.consts;
    globals = have_each c.globals (sorts_of prog.globals) h.missing_globals h.globals;
    frames = frames_hold c.frames h.missing_locals h.frames;
    asks = sorted_asks c h c.wants refl;
    complete = λ there asks. complete_whole c (complete prog c h asks);
  }

-- ---- an entry that is not there

-- the run is over, holds nothing and asks for nothing
record HoldsNothing (c : Config) : Type 0 where
  consts : c.consts ≡ []
  globals : c.globals ≡ []
  frames : c.frames ≡ []
  wants : c.wants ≡ []
  is_over : c.status ≡ Going → ⊥

over_nothing : (index : ℕ) (c : Config) (choices : List Choice) → HoldsNothing c → HoldsNothing (config_of (over index c choices))
over_nothing index c [] h = h
over_nothing index c (x ∷ xs) h = record { consts = h.consts; globals = h.globals; frames = h.frames; wants = h.wants; is_over = λ e. cc }

nothing_holds : (prog : Program) (entry : ℕ) (c : Config) → slice_get prog.procs entry ≡ None → HoldsNothing c → HoldsItsValues prog entry c
nothing_holds prog entry c e h = record {
  consts = rw h.consts (λ n v k. cc);
  globals = rw h.globals (λ n v k. cc);
  frames = rw h.frames (All-nil (HoldsItsLocals prog));
  asks = asks_none c.wants h.wants;
  complete = λ there asks. let no = rw e at there in cc;
}
  where
    asks_none : (ws : List Want) → ws ≡ [] → AsksNext prog c ws
    asks_none [] k = tt
    asks_none (w ∷ ws) k = cc

-- ---- the whole run

module _ (prog : Program) (h : is_program prog ≡ true) (bound : ℕ) where
  turned_sorted : (turns : ℕ) (t : Turn) → IsSortedTurn prog t → IsSortedTurn prog (turned turns prog bound t)
  turned_sorted zero t k = k
  turned_sorted (suc turns) (Stands c) k = k
  turned_sorted (suc turns) (GoesOn index c choices) k = turned_sorted turns (turn prog bound index c c.status choices) (turn_sorted prog h bound index c c.status choices k)

  turned_nothing : (turns : ℕ) (t : Turn) → HoldsNothing (config_of t) → HoldsNothing (config_of (turned turns prog bound t))
  turned_nothing zero t k = k
  turned_nothing (suc turns) (Stands c) k = k
  turned_nothing (suc turns) (GoesOn index c choices) k = turned_nothing turns (turn prog bound index c c.status choices) (at c.status refl)
    where
      at : (s : Status) → c.status ≡ s → HoldsNothing (config_of (turn prog bound index c s choices))
      at Going e = absurd (k.is_over e)
      at Ended e = over_nothing index c choices k
      at (Failed p n) e = over_nothing index c choices k
      at Blocked e = over_nothing index c choices k
      at Cut e = over_nothing index c choices k
      at (BadChoice i) e = k

  sorted_at : (t : Turn) → IsSortedTurn prog t → AreSorted prog (config_of t)
  sorted_at (Stands c) k = k
  sorted_at (GoesOn index c choices) k = k

  abbrev place : (entry turns : ℕ) → List Choice → Config
  place entry turns choices = config_of (turned turns prog bound (GoesOn 0 (begin prog entry) choices))

  entry_sorted : (entry turns : ℕ) (choices : List Choice) (proc : SrcProc) → slice_get prog.procs entry ≡ Some proc → AreSorted prog (place entry turns choices)
  entry_sorted entry turns choices proc e = sorted_at (turned turns prog bound (GoesOn 0 (begin prog entry) choices)) (turned_sorted turns (GoesOn 0 (begin prog entry) choices) (begin_sorted prog entry proc e))

  values_anywhere : (entry turns : ℕ) (choices : List Choice) → HoldsItsValues prog entry (place entry turns choices)
  values_anywhere entry turns choices = at (slice_get prog.procs entry) refl
    where
      none : (o : Option SrcProc) → o ≡ None → HoldsNothing (begin_in prog entry o)
      none None e = record { consts = refl; globals = refl; frames = refl; wants = refl; is_over = λ k. cc }
      none (Some proc) e = cc

      at : (o : Option SrcProc) → slice_get prog.procs entry ≡ o → HoldsItsValues prog entry (place entry turns choices)
      at None e = nothing_holds prog entry (place entry turns choices) e (turned_nothing turns (GoesOn 0 (begin prog entry) choices) (none (slice_get prog.procs entry) e))
      at (Some proc) e = sorted_holds prog entry (place entry turns choices) (entry_sorted entry turns choices proc e)

  values_standing : (entry : ℕ) (choices : List Choice) (status : Status) → (run : HasStatus prog entry bound choices status) → HoldsItsValues prog entry run.last
  values_standing entry choices status run =
      let is = turned_stands prog bound run.turns 0 (begin prog entry) choices run.last run.runs in
      subst (λ (t : Turn). HoldsItsValues prog entry (config_of t)) is (values_anywhere entry run.turns choices)

pub values_have_their_sorts : ValuesHaveTheirSorts
values_have_their_sorts = record {
  anywhere = λ prog h entry bound turns choices. values_anywhere prog h bound entry turns choices;
  standing = λ prog h entry bound choices status run. values_standing prog h bound entry choices status run;
}
