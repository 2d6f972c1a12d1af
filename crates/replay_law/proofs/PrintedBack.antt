-- Printed traces are replayed.
use Rattle.std.proofs.Common.{◌≡◌, inl, inr, ℕ, zero, suc, List, [], ◌∷◌, ◌++◌, map, slice_get, Option, None, Some, IsTrue, All, refl, sym, ◌∙◌, ap, subst}
use Rattle.std.specs.Prelude.{Result, Ok}
use Rattle.std.specs.Option.{option_map_or}
use Rattle.std.proofs.lemmas.List.Elements.{All-nil, All-cons, All-head, All-tail, All-append}
use Rattle.src_prog.specs.Program.{Program}
use Rattle.src_prog.specs.declared.proc.Named.{Named}
use Rattle.src_prog.specs.declared.proc.SrcProc.{SrcProc}
use Rattle.src_run.specs.Names.{Name, local_names}
use Rattle.src_run.specs.declared.machine.Choice.{Choice}
use Rattle.src_run.specs.declared.machine.Choice.TheVariants.{Go, Val}
use Rattle.src_run.specs.declared.machine.Status.TheVariants.{Failed}
use Rattle.src_law.specs.AskedNames.{AreTakenBy, Declares, IsTakenBy, NamesAreOfChoices}
use Rattle.src_law.specs.Causes.{StatusesHaveCauses}
use Rattle.src_law.specs.Statuses.{StatusesAreUnique}
use Rattle.trace_text.specs.Printing.{items_of, proc_name, trace_with}
use Rattle.trace_text.specs.Reading.{trace_of}
use Rattle.trace_text.specs.ReadingBack.{CanBeRead, IsReadable, TracesAreReadBack}
use Rattle.trace_text.specs.Traces.{text_of_trace}
use Rattle.trace_text.specs.Words.{is_identifier}
use Rattle.trace_text.specs.declared.trace.Trace.{Trace}
use Rattle.trace_text.specs.declared.trace.TraceFault.{TraceFault}
use Rattle.trace_text.specs.declared.trace.TraceItem.{TraceItem}
use Rattle.replay_law.specs.Laws.{AreIdentifiers, HasIdentifiers, HasIdentifiersWithin, IsPlaced, PrintedTracesAreReplayed, ReplaysAreDetermined}
use Rattle.replay_text.specs.Replayed.{IsJudged, IsReplayed, IsReplayedAs, choices_of}
use Rattle.replay_text.specs.declared.replaying.Replayed.TheVariants.{Done}
use Rattle.replay_law.proofs.Determined.{same_assert, same_proc}

-- ---- names

-- what all items have, each has
at_place : {A : Type 0} → (P : A → Type 0) (xs : List A) (n : ℕ) (x : A) → All P xs → slice_get xs n ≡ Some x → P x
at_place P [] n x h e = cc
at_place P (y ∷ ys) zero x h e = let same : y ≡ x = cc in subst P same (All-head P y ys h)
at_place P (y ∷ ys) (suc n) x h e = at_place P ys n x (All-tail P y ys h) e

locals_are : (proc : Option SrcProc) → ((p : SrcProc) → proc ≡ Some p → HasIdentifiersWithin p) → AreIdentifiers (local_names proc)
locals_are None h = All-nil (λ (n : Named). IsTrue (is_identifier n.name))
locals_are (Some p) h =
    let within = h p refl in
    All-append (λ (n : Named). IsTrue (is_identifier n.name)) p.ins (p.outs ++ p.locals) within.ins (All-append (λ (n : Named). IsTrue (is_identifier n.name)) p.outs p.locals within.outs within.locals)

-- a variable that the program declares
declared_is : (prog : Program) → HasIdentifiers prog → (variable : Named) → Declares prog variable → IsTrue (is_identifier variable.name)
declared_is prog has variable declares =
    elim declares [
      | inl const ↦ at_place (λ (n : Named). IsTrue (is_identifier n.name)) prog.consts const.0 variable has.consts const.1
      | inr more ↦ elim more [
        | inl global ↦ at_place (λ (n : Named). IsTrue (is_identifier n.name)) prog.globals global.0 variable has.globals global.1
        | inr local ↦ at_place (λ (n : Named). IsTrue (is_identifier n.name)) (local_names (slice_get prog.procs local.0)) local.1 variable (locals_are (slice_get prog.procs local.0) (λ p e. at_place HasIdentifiersWithin prog.procs local.0 p has.procs e)) local.2
      ]
    ]

proc_is : (prog : Program) → HasIdentifiers prog → (number : ℕ) (proc : SrcProc) → slice_get prog.procs number ≡ Some proc → IsTrue (is_identifier (proc_name prog number))
proc_is prog has number proc e =
    let within = at_place HasIdentifiersWithin prog.procs number proc has.procs e in
    subst (λ (p : Option SrcProc). IsTrue (is_identifier (option_map_or (λ (q : SrcProc). q.name) p []))) (sym e) within.name

-- ---- items

item_can : (prog : Program) → HasIdentifiers prog → (name : Name) (choice : Choice) → IsPlaced choice → IsTakenBy prog choice name → CanBeRead name choice
item_can prog has None (Go place) short taken = short
item_can prog has (Some name) (Go place) short taken = absurd taken
item_can prog has None (Val value) short taken = absurd taken
item_can prog has (Some name) (Val value) short taken =
    let variable = taken.0 in
    (subst (λ n. IsTrue (is_identifier n)) taken.2 (declared_is prog has variable taken.1), variable.sort, taken.3, taken.4)

items_can : (prog : Program) → HasIdentifiers prog → (names : List Name) (choices : List Choice) → All IsPlaced choices → AreTakenBy prog choices names → All (λ (item : TraceItem). CanBeRead item.name item.choice) (items_of names choices)
items_can prog has [] [] short taken = All-nil (λ (item : TraceItem). CanBeRead item.name item.choice)
items_can prog has [] (choice ∷ choices) short taken = absurd taken
items_can prog has (name ∷ names) [] short taken = absurd taken
items_can prog has (name ∷ names) (choice ∷ choices) short taken =
    All-cons (λ (item : TraceItem). CanBeRead item.name item.choice) (record { name = name; choice = choice }) (items_of names choices)
    (item_can prog has name choice (All-head IsPlaced choice choices short) taken.0)
    (items_can prog has names choices (All-tail IsPlaced choice choices short) taken.1)

-- each choice has an item
choices_are : (prog : Program) (names : List Name) (choices : List Choice) → AreTakenBy prog choices names → map (λ (item : TraceItem). item.choice) (items_of names choices) ≡ choices
choices_are prog [] [] taken = refl
choices_are prog [] (choice ∷ choices) taken = absurd taken
choices_are prog (name ∷ names) [] taken = absurd taken
choices_are prog (name ∷ names) (choice ∷ choices) taken = ap (λ cs. choice ∷ cs) (choices_are prog names choices taken.1)

-- ---- the replay

done_as : (prog : Program) (entry bound : ℕ) (text : List ℕ) (read : Result Trace TraceFault) (trace : Trace) (proc assert : ℕ) → read ≡ Ok trace → IsJudged prog entry bound text (choices_of trace) (Done proc assert) → IsReplayedAs prog entry bound text read (Done proc assert)
done_as prog entry bound text read trace proc assert is h = subst (λ r. IsReplayedAs prog entry bound text r (Done proc assert)) (sym is) h

pub printed_back : ReplaysAreDetermined → StatusesAreUnique → NamesAreOfChoices → StatusesHaveCauses → TracesAreReadBack → PrintedTracesAreReplayed
printed_back determined statuses named causes back prog typed has entry bound choices proc assert short few fails text printed =
    let is = printed.1 in
    let taken = named prog typed entry bound choices (Failed proc assert) is.names tt fails is.are in
    let status = statuses prog entry bound choices (Failed is.proc is.assert) (Failed proc assert) is.fails fails in
    let trace : Trace = trace_with prog choices is.names proc assert in
    let same : printed.0 ≡ trace =
    is.is ∙ ap (λ p. trace_with prog choices is.names p is.assert) (same_proc is.proc is.assert proc assert status) ∙ ap (λ a. trace_with prog choices is.names proc a) (same_assert is.proc is.assert proc assert status) in
    let place = (causes.failed prog typed entry bound choices proc assert fails).place in
    let in_proc = (causes.failed prog typed entry bound choices proc assert fails).in_proc in
    let there : slice_get prog.procs proc ≡ Some place.proc = subst (λ n. slice_get prog.procs n ≡ Some place.proc) in_proc place.is_proc in
    let readable : IsReadable trace = record { items = items_can prog has is.names choices short taken; proc = proc_is prog has proc place.proc there; assert = few } in
    let read : trace_of text ≡ Ok trace = ap trace_of (printed.2 ∙ ap text_of_trace same) ∙ back trace readable in
    let chosen : choices_of trace ≡ choices = choices_are prog is.names choices taken in
    let judged : IsJudged prog entry bound text (choices_of trace) (Done proc assert) = subst (λ cs. IsJudged prog entry bound text cs (Done proc assert)) (sym chosen) (fails, printed) in
    let done : IsReplayed prog entry bound text (Done proc assert) = done_as prog entry bound text (trace_of text) trace proc assert read judged in
    (done, λ replayed other. determined prog entry bound text replayed (Done proc assert) other done)
