-- What follows of an outcome that was told.
use Rattle.std.proofs.Common.{◌≡◌, ◌≢◌, inl, inr, ℕ, List, Bool, true, false, sym, refl, subst, length}
use Rattle.std.specs.Prelude.{nat_le, codes, Option, Result, Ok, Err, IfOk}
use Rattle.bpl_ast.specs.declared.decl.Ast.{Ast}
use Rattle.hy_text.specs.declared.refusal.Or.TheVariants as ors
use Rattle.replay_text.specs.declared.replaying.Replayed.{Replayed}
use Rattle.replay_text.specs.declared.replaying.Replayed.TheVariants as replays
use Rattle.src_prog.specs.Program.{Program}
use Rattle.src_run.specs.Plain.{is_plain}
use Rattle.trace_text.specs.Traces.{line}
use Rattle.hydra_top.specs.declared.answer.Answer.{Answer}
use Rattle.hydra_top.specs.declared.entry.Entered.{Entered}
use Rattle.hydra_top.specs.declared.outcome.Outcome.{Outcome}
use Rattle.hydra_top.specs.declared.outcome.Outcome.TheVariants.{Safe, Bug, Done, Refused, ReadFault, WriteFault, NoMemory}
use Rattle.hydra_top.specs.declared.outcome.Refusal.{Refusal}
use Rattle.hydra_top.specs.declared.reading.Source.{Source}
use Rattle.hydra_top.specs.Entry.{IsEntryOf, entered_in}
use Rattle.hydra_top.specs.Reading.{ReadsFile, IsSource, limit}
use Rattle.hydra_top.specs.Top.{IsAtEntry, IsDone, IsRead, IsRefused, IsReplayOf, IsRight, IsRun, IsSearched, IsShown, IsTold, IsTraced, IsUnread, MayTell, PrintsFront, Tells, TellsReplay}
use Rattle.hydra_top.specs.Trees.{IsReadAs}
use Rattle.hydra_top.specs.Words.{Job, solo, replay, show, Task}
use Rattle.hydra_top.specs.Writing.{AppendsFront}

-- ---- a file that was judged gives a verdict, a refusal, or what was done

abbrev Decides : Outcome → Type 0
Decides outcome = (outcome ≢ ReadFault) × (outcome ≢ WriteFault) × (outcome ≢ NoMemory)

refused_decides : (refusal : Refusal) (outcome : Outcome) (text : List ℕ) → IsRefused refusal outcome text → Decides outcome
refused_decides refusal outcome text h = let is = h.0 in (λ e. cc, λ e. cc, λ e. cc)

done_decides : (outcome : Outcome) → outcome ≡ Done → Decides outcome
done_decides outcome is = (λ e. cc, λ e. cc, λ e. cc)

searched_decides : (prog : Program) (entry bound : ℕ) (plain : Bool) (outcome : Outcome) (text : List ℕ) → IsSearched prog entry bound plain outcome text → Decides outcome
searched_decides prog entry bound false outcome text h = let is = h.0 in (λ e. cc, λ e. cc, λ e. cc)
searched_decides prog entry bound true Safe text h = (λ e. cc, λ e. cc, λ e. cc)
searched_decides prog entry bound true (Bug choices p a) text h = (λ e. cc, λ e. cc, λ e. cc)
searched_decides prog entry bound true Done text h = absurd h
searched_decides prog entry bound true (Refused refusal) text h = absurd h
searched_decides prog entry bound true ReadFault text h = absurd h
searched_decides prog entry bound true WriteFault text h = absurd h
searched_decides prog entry bound true NoMemory text h = absurd h

replay_decides : (prog : Program) (replayed : Replayed) (outcome : Outcome) (text : List ℕ) → TellsReplay prog replayed outcome text → Decides outcome
replay_decides prog (replays.Unread fault) outcome text h = let is = h.0 in (λ e. cc, λ e. cc, λ e. cc)
replay_decides prog (replays.NotFailed status index) outcome text h = let is = h.0 in (λ e. cc, λ e. cc, λ e. cc)
replay_decides prog (replays.Differs number) outcome text h = let is = h.0 in (λ e. cc, λ e. cc, λ e. cc)
replay_decides prog (replays.Done proc assert) outcome text h = done_decides outcome h.0

traced_decides : (prog : Program) (entry bound : ℕ) (bytes : List ℕ) (fits : Bool) (outcome : Outcome) (text : List ℕ) → IsReplayOf prog entry bound bytes fits outcome text → Decides outcome
traced_decides prog entry bound bytes true outcome text h = replay_decides prog h.0 outcome text h.2
traced_decides prog entry bound bytes false outcome text h = let is = h.0 in (λ e. cc, λ e. cc, λ e. cc)

run_decides : (files : Option (List (List ℕ × List ℕ))) (job : Job) (e : Entered) (outcome : Outcome) (text : List ℕ) → IsRun files job e outcome text → Decides outcome
run_decides files (solo name bound) e outcome text h = searched_decides e.prog e.entry bound (is_plain e.prog e.entry) outcome text h
run_decides files (replay name bound trace) e outcome text h = traced_decides e.prog e.entry bound h.0 (nat_le (length h.0) limit) outcome text h.2
run_decides files show e outcome text h = absurd h

entry_decides : (files : Option (List (List ℕ × List ℕ))) (job : Job) (found : Result Entered Refusal) (outcome : Outcome) (text : List ℕ) → IsAtEntry files job found outcome text → Decides outcome
entry_decides files job (Err refusal) outcome text h = refused_decides refusal outcome text h
entry_decides files job (Ok e) outcome text h = run_decides files job e outcome text h

shown_decides : (read : Result Ast Refusal) (outcome : Outcome) (text : List ℕ) → IsShown read outcome text → Decides outcome
shown_decides (Err refusal) outcome text h = refused_decides refusal outcome text h
shown_decides (Ok tree) outcome text h = done_decides outcome h.0

read_decides : (files : Option (List (List ℕ × List ℕ))) (job : Job) (read : Result Ast Refusal) (outcome : Outcome) (text : List ℕ) → IsRead files job read outcome text → Decides outcome
read_decides files (solo name bound) read outcome text h = entry_decides files (solo name bound) (entered_in name read) outcome text h
read_decides files (replay name bound trace) read outcome text h = entry_decides files (replay name bound trace) (entered_in name read) outcome text h
read_decides files show read outcome text h = shown_decides read outcome text h

-- ---- what is told

told_right : (before now : ℕ) (files : Option (List (List ℕ × List ℕ))) (task : Result Task Refusal) (outcome : Outcome) (text : List ℕ) → now ≡ before → Decides outcome → IsRight files task outcome text → IsTold before now files task outcome text
told_right before now files task Safe text stays not right = record { may = right; causes = stays }
told_right before now files task (Bug choices proc assert) text stays not right = record { may = right; causes = stays }
told_right before now files task Done text stays not right = record { may = right; causes = stays }
told_right before now files task (Refused refusal) text stays not right = record { may = right; causes = stays }
told_right before now files task ReadFault text stays not right = absurd (not.0 refl)
told_right before now files task WriteFault text stays not right = absurd (not.1 refl)
told_right before now files task NoMemory text stays not right = absurd (not.2 refl)

told_unread : (before now : ℕ) (files : Option (List (List ℕ × List ℕ))) (task : Task) (outcome : Outcome) (text : List ℕ) → IsUnread before now outcome text → IsTold before now files (Ok task) outcome text
told_unread before now files task outcome text h = subst (λ o. IsTold before now files (Ok task) o text) (sym h.0) (record { may = (refl, h.1); causes = h.2 })

told_file : (before now : ℕ) (files : Option (List (List ℕ × List ℕ))) (task : Task) (left : Option (List ℕ)) (source : Source) (outcome : Outcome) (text : List ℕ) → (reads : ReadsFile files task.file left source)
    → Tells before now (IsDone files task.job reads.bytes outcome text) outcome text → IsTold before now files (Ok task) outcome text
told_file before now files task left source outcome text reads (inl done) =
    told_right before now files (Ok task) outcome text done.1 (read_decides files task.job done.0.read outcome text done.0.judged) (reads.bytes, reads.opens, done.0)
told_file before now files task left source outcome text reads (inr unread) = told_unread before now files task outcome text unread

-- the first file was read, which changed neither the count nor the files
pub told_done : {E : Type 0} → (before middle now : ℕ) (files same : Option (List (List ℕ × List ℕ))) (task : Task) (left : Option (List ℕ)) (source : Source) (result : Result Answer E) → middle ≡ before → same ≡ files → ReadsFile files task.file left source
    → ((bytes : List ℕ) → IsSource bytes source → IfOk result (λ a. Tells middle now (IsDone same task.job bytes a.outcome a.text) a.outcome a.text)) → IfOk result (λ a. IsTold before now files (Ok task) a.outcome a.text)
told_done before middle now files same task left source (Ok a) stays kept reads tells =
    let told = tells reads.bytes reads.is in
    let counted = subst (λ m. Tells m now (IsDone same task.job reads.bytes a.outcome a.text) a.outcome a.text) stays told in
    told_file before now files task left source a.outcome a.text reads (subst (λ f. Tells before now (IsDone f task.job reads.bytes a.outcome a.text) a.outcome a.text) kept counted)
told_done before middle now files same task left source (Err e) stays kept reads tells = tt

-- ---- jobs on what was read

-- no second file is read
pub tells_pure : {E : Type 0} → (count : ℕ) (files : Option (List (List ℕ × List ℕ))) (job : Job) (bytes : List ℕ) (result : Result Answer E) → IfOk result (λ a. IsDone files job bytes a.outcome a.text)
    → IfOk result (λ a. Tells count count (IsDone files job bytes a.outcome a.text) a.outcome a.text)
tells_pure count files job bytes (Ok a) h = inl (h, refl)
tells_pure count files job bytes (Err e) h = tt

pub shown_refused : {E : Type 0} → (files : Option (List (List ℕ × List ℕ))) (bytes : List ℕ) (refusal : Refusal) (result : Result Answer E) → IsReadAs bytes (Err refusal)
    → IfOk result (λ a. IsRefused refusal a.outcome a.text) → IfOk result (λ a. IsDone files show bytes a.outcome a.text)
shown_refused files bytes refusal (Ok a) reads h = record { read = Err refusal; reads = reads; judged = h }
shown_refused files bytes refusal (Err e) reads h = tt

pub solo_done : {E : Type 0} → (files : Option (List (List ℕ × List ℕ))) (name bytes : List ℕ) (bound : ℕ) (found : Entered) (result : Result Answer E) → IsEntryOf name bytes (Ok found)
    → IfOk result (λ a. IsSearched found.prog found.entry bound (is_plain found.prog found.entry) a.outcome a.text) → IfOk result (λ a. IsDone files (solo name bound) bytes a.outcome a.text)
solo_done files name bytes bound found (Ok a) entry h =
    record { read = entry.read; reads = entry.reads; judged = subst (λ r. IsAtEntry files (solo name bound) r a.outcome a.text) (sym entry.gives) h }
solo_done files name bytes bound found (Err e) entry h = tt

pub solo_refused : {E : Type 0} → (files : Option (List (List ℕ × List ℕ))) (name bytes : List ℕ) (bound : ℕ) (refusal : Refusal) (result : Result Answer E) → IsEntryOf name bytes (Err (ors.Fault refusal))
    → IfOk result (λ a. IsRefused refusal a.outcome a.text) → IfOk result (λ a. IsDone files (solo name bound) bytes a.outcome a.text)
solo_refused files name bytes bound refusal (Ok a) entry h =
    record { read = entry.read; reads = entry.reads; judged = subst (λ r. IsAtEntry files (solo name bound) r a.outcome a.text) (sym entry.gives) h }
solo_refused files name bytes bound refusal (Err e) entry h = tt

replay_at : (before now : ℕ) (files : Option (List (List ℕ × List ℕ))) (name trace bytes : List ℕ) (bound : ℕ) (found : Entered) (outcome : Outcome) (text : List ℕ) → IsEntryOf name bytes (Ok found)
    → Tells before now (IsTraced files trace found.prog found.entry bound outcome text) outcome text → Tells before now (IsDone files (replay name bound trace) bytes outcome text) outcome text
replay_at before now files name trace bytes bound found outcome text entry (inl h) =
    inl (record { read = entry.read; reads = entry.reads; judged = subst (λ r. IsAtEntry files (replay name bound trace) r outcome text) (sym entry.gives) h.0 }, h.1)
replay_at before now files name trace bytes bound found outcome text entry (inr h) = inr h

pub replay_done : {E : Type 0} → (before now : ℕ) (files : Option (List (List ℕ × List ℕ))) (name trace bytes : List ℕ) (bound : ℕ) (found : Entered) (result : Result Answer E) → IsEntryOf name bytes (Ok found)
    → IfOk result (λ a. Tells before now (IsTraced files trace found.prog found.entry bound a.outcome a.text) a.outcome a.text) → IfOk result (λ a. Tells before now (IsDone files (replay name bound trace) bytes a.outcome a.text) a.outcome a.text)
replay_done before now files name trace bytes bound found (Ok a) entry h = replay_at before now files name trace bytes bound found a.outcome a.text entry h
replay_done before now files name trace bytes bound found (Err e) entry h = tt

pub replay_refused : {E : Type 0} → (count : ℕ) (files : Option (List (List ℕ × List ℕ))) (name trace bytes : List ℕ) (bound : ℕ) (refusal : Refusal) (result : Result Answer E) → IsEntryOf name bytes (Err (ors.Fault refusal))
    → IfOk result (λ a. IsRefused refusal a.outcome a.text) → IfOk result (λ a. Tells count count (IsDone files (replay name bound trace) bytes a.outcome a.text) a.outcome a.text)
replay_refused count files name trace bytes bound refusal (Ok a) entry h =
    inl (record { read = entry.read; reads = entry.reads; judged = subst (λ r. IsAtEntry files (replay name bound trace) r a.outcome a.text) (sym entry.gives) h }, refl)
replay_refused count files name trace bytes bound refusal (Err e) entry h = tt

-- ---- the trace

traced_at : (before middle : ℕ) (files : Option (List (List ℕ × List ℕ))) (name : List ℕ) (left : Option (List ℕ)) (source : Source) (prog : Program) (entry bound : ℕ) (outcome : Outcome) (text : List ℕ) → middle ≡ before → (reads : ReadsFile files name left source)
    → IsReplayOf prog entry bound reads.bytes (nat_le (length reads.bytes) limit) outcome text → Tells before middle (IsTraced files name prog entry bound outcome text) outcome text
traced_at before middle files name left source prog entry bound outcome text stays reads h = inl ((reads.bytes, reads.opens, h), stays)

pub traced_done : {E : Type 0} → (before now : ℕ) (files : Option (List (List ℕ × List ℕ))) (name : List ℕ) (left : Option (List ℕ)) (source : Source) (prog : Program) (entry bound : ℕ) (result : Result Answer E) → now ≡ before → ReadsFile files name left source
    → ((bytes : List ℕ) → IsSource bytes source → IfOk result (λ a. IsReplayOf prog entry bound bytes (nat_le (length bytes) limit) a.outcome a.text)) → IfOk result (λ a. Tells before now (IsTraced files name prog entry bound a.outcome a.text) a.outcome a.text)
traced_done before now files name left source prog entry bound (Ok a) stays reads h = traced_at before now files name left source prog entry bound a.outcome a.text stays reads (h reads.bytes reads.is)
traced_done before now files name left source prog entry bound (Err e) stays reads h = tt

-- ---- want of memory

pub may_starve : (files : Option (List (List ℕ × List ℕ))) (task : Result Task Refusal) (reported : Outcome) → reported ≡ NoMemory → (text : List ℕ) × MayTell files task reported text
may_starve files task reported is = (line (codes "no memory"), subst (λ o. MayTell files task o (line (codes "no memory"))) (sym is) refl)

pub starved_front : (before now : ℕ) (files : Option (List (List ℕ × List ℕ))) (words : List (List ℕ)) (held grown : Option (List ℕ)) → AppendsFront held grown (line (codes "no memory")) → PrintsFront before now files words held grown
starved_front before now files words held grown appends = record { begun = NoMemory; text = line (codes "no memory"); told = record { may = refl; causes = tt }; appends = appends }
