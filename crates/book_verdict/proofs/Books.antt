-- From the verdict of a sound book to the runs of the program.
use Rattle.std.proofs.Common.{◌≡◌, ℕ, ◌<◌, Bool, true, false, List, [], ◌∷◌, length, slice_get, zero, suc, arith, not-suc-le-zero, refl, sym, ap, ◌∙◌, subst, Some}
use Rattle.std.specs.Prelude.{Option, None, IsSome}
use Rattle.extract_def.specs.Extraction.{flat_of}
use Rattle.extract_law.specs.Choices.{choices_of}
use Rattle.extract_law.specs.Laws.{FailingListsHaveTrees, FailingTreesHaveLists}
use Rattle.flat_prog.specs.Nodes.{run_of}
use Rattle.flat_prog.specs.Program.{FlatProgram}
use Rattle.flat_prog.specs.Runs.{FailsIn, IsFull}
use Rattle.flat_prog.specs.Shape.{IsFlat}
use Rattle.flat_prog.specs.Trees.{Run}
use Rattle.flat_prog.specs.declared.run.RunNode.{RunNode}
use Rattle.call_tree.specs.Laws.{OverLaw, UnderLaw}
use Rattle.piece_core.specs.Book.{IsFoundFirst, all_closed, first_found, verdict_with}
use Rattle.piece_core.specs.Evidence.{Evidence, IsFine, kind_of, shape_of, shapes_of}
use Rattle.piece_core.specs.Shapes.{Shape}
use Rattle.piece_core.specs.declared.leaves.Status2.{Status2}
use Rattle.piece_core.specs.declared.leaves.Status2.TheVariants.{Live, Closed, Found, Split}
use Rattle.piece_core.specs.declared.leaves.StatusKind.TheVariants.{Found as FoundKind}
use Rattle.piece_core.specs.declared.tasks.Task.{Task}
use Rattle.piece_core.specs.declared.verdicts.Verdict2.TheVariants as verdicts
use Rattle.piece_core.proofs.Shaping.{map_got}
use Rattle.piece_core.proofs.Verdict.{RefutedLaw, safe_of}
use Rattle.piece_core.proofs.Well.{all_at}
use Rattle.src_prog.specs.Program.{Program}
use Rattle.src_run.specs.Machine.{HasStatus}
use Rattle.src_run.specs.declared.machine.Choice.{Choice}
use Rattle.src_run.specs.declared.machine.Status.{Status}
use Rattle.src_run.specs.declared.machine.Status.TheVariants.{Failed}
use Rattle.book_verdict.specs.Verdicts.{BugBooksHaveRuns, FailsAs, FoundRunsFail, IsFailed, SafeBooksAreSafe}

-- ---- what a verdict says of the book

bug_or_safe : (node : ℕ) → verdicts.Bug node ≡ verdicts.Safe → ⊥
bug_or_safe node h = cc

unfinished_or_safe : verdicts.Unfinished ≡ verdicts.Safe → ⊥
unfinished_or_safe h = cc

safe_or_bug : (node : ℕ) → verdicts.Safe ≡ verdicts.Bug node → ⊥
safe_or_bug node h = cc

unfinished_or_bug : (node : ℕ) → verdicts.Unfinished ≡ verdicts.Bug node → ⊥
unfinished_or_bug node h = cc

same_bug : (node other : ℕ) → verdicts.Bug node ≡ verdicts.Bug other → node ≡ other
same_bug node other h = cc

closed_where_safe : (found : Option ℕ) (closed : Bool) → verdict_with found closed ≡ verdicts.Safe → closed ≡ true
closed_where_safe (Some node) closed h = absurd (bug_or_safe node h)
closed_where_safe None true h = refl
closed_where_safe None false h = absurd (unfinished_or_safe h)

found_where_bug : (found : Option ℕ) (closed : Bool) (node : ℕ) → verdict_with found closed ≡ verdicts.Bug node → found ≡ Some node
found_where_bug (Some other) closed node h = ap Some (same_bug other node h)
found_where_bug None true node h = absurd (safe_or_bug node h)
found_where_bug None false node h = absurd (unfinished_or_bug node h)

-- ---- the run of a found node

run_of_status : (status : Status2) → kind_of status ≡ FoundKind → (run : List RunNode) × (status ≡ Found run)
run_of_status Live h = absurd (let e = h in cc)
run_of_status (Closed proof) h = absurd (let e = h in cc)
run_of_status (Found run) h = (run, refl)
run_of_status (Split site) h = absurd (let e = h in cc)

pub runs_of_books : BugBooksHaveRuns
runs_of_books task nodes entries node sound is =
    let first : first_found entries ≡ Some node = found_where_bug (first_found entries) (all_closed (shapes_of nodes)) node is in
    let seen = subst (IsFoundFirst (shapes_of nodes)) first sound.found in
    let got = map_got shape_of nodes node seen.0 seen.1 in
    let run = run_of_status got.0.status (ap (λ (x : Shape). x.status) got.2 ∙ seen.2) in
    (run.0, record { leaf = got.0; at = got.1; found = run.1 })

-- ---- the program

pub there : {X : Type 0} (xs : List X) (i : ℕ) → i < length xs → IsSome (slice_get xs i)
there [] i h = absurd (not-suc-le-zero h)
there (x ∷ xs) zero h = refl
there (x ∷ xs) (suc i) h = there xs i (omega arith)

pub runs_fail : FailingTreesHaveLists → UnderLaw → FoundRunsFail
runs_fail lists under prog task nodes entries node run book within found =
    let fine = all_at (IsFine task) nodes node found.leaf found.at book.sound.fine in
    let evidence = subst (λ (t : Status2). Evidence task found.leaf.tree found.leaf.piece t) found.found fine.evidence in
    let tree = under task.flat task.entry task.bound found.leaf.tree found.leaf.piece (run_of run) fine.well.tree evidence in
    let Lists : FlatProgram → Type 0 = λ flat. IsFlat flat → IsFull flat task.entry task.bound (run_of run) → FailsIn flat task.entry (run_of run) tree.0 tree.1 → HasStatus prog task.entry task.bound (choices_of prog flat task.entry (run_of run)) (Failed tree.0 tree.1) in
    let machine : Lists task.flat =
    subst Lists (sym book.extracted) (λ flat full fails. lists prog book.program flat task.entry task.bound (there prog.procs task.entry within) (run_of run) tree.0 tree.1 full fails) in
    record { proc = tree.0; number = tree.1; full = tree.2; tree = tree.3; machine = machine book.flat tree.2 tree.3 }

pub safe_books : FailingListsHaveTrees → OverLaw → RefutedLaw → SafeBooksAreSafe
safe_books trees over refuted prog task nodes entries book is choices (proc, number, fails) =
    let closed = closed_where_safe (first_found entries) (all_closed (shapes_of nodes)) is in
    let flat = subst IsFlat book.extracted book.flat in
    let tree = trees prog book.program flat task.entry task.bound book.sound.asked.low choices proc number fails in
    let Unsafe : FlatProgram → Type 0 = λ f. (run : Run) × (p : ℕ) × (n : ℕ) × IsFull f task.entry task.bound run × FailsIn f task.entry run p n in
    let unsafe : Unsafe (flat_of prog) = (tree.0, proc, number, tree.1, tree.2) in
    safe_of over refuted task nodes entries book.flat closed book.sound (subst Unsafe (sym book.extracted) unsafe)

-- ---- the choices of a found run

-- the machine fails on them; the task and the choices are read once more
pub fails_of : (prog : Program) (task same : Task) (run : Run) (choices listed : List Choice) → same ≡ task → choices ≡ listed → listed ≡ choices_of prog same.flat same.entry run → (f : FailsAs prog task run)
    → HasStatus prog same.entry same.bound choices (Failed f.proc f.number)
fails_of prog task same run choices listed is are value f =
    let Holds : Task → Type 0 = λ t. choices ≡ choices_of prog t.flat t.entry run → HasStatus prog t.entry t.bound choices (Failed f.proc f.number) in
    subst Holds (sym is) (λ e. subst (λ cs. HasStatus prog task.entry task.bound cs (Failed f.proc f.number)) (sym e) f.machine) (are ∙ value)

pub failing_is : (prog : Program) (task same : Task) (run : Run) (choices listed : List Choice) (status : Status) (proc number : ℕ) → same ≡ task → choices ≡ listed → listed ≡ choices_of prog same.flat same.entry run
    → HasStatus prog same.entry same.bound choices status → status ≡ Failed proc number → (listed ≡ choices_of prog task.flat task.entry run) × HasStatus prog task.entry task.bound listed (Failed proc number)
failing_is prog task same run choices listed status proc number is are value has failed =
    let one = subst (HasStatus prog same.entry same.bound choices) failed has in
    let two = subst (λ cs. HasStatus prog same.entry same.bound cs (Failed proc number)) are one in
    (subst (λ (t : Task). listed ≡ choices_of prog t.flat t.entry run) is value, subst (λ (t : Task). HasStatus prog t.entry t.bound listed (Failed proc number)) is two)

-- a status that is Failed is one that failed
pub has_failed : (status : Status) (proc number : ℕ) → Failed proc number ≡ status → IsFailed status
has_failed status proc number is = subst IsFailed is tt

pub same_flat : (task same : Task) → same ≡ task → IsFlat same.flat → IsFlat task.flat
same_flat task same is flat = subst (λ (t : Task). IsFlat t.flat) is flat
