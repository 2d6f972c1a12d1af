-- The turns of a replay, and what its state must hold for them.
use Rattle.std.proofs.Common.{◌≡◌, ℕ, zero, suc, ◌+◌, ◌<◌, ◌≤◌, true, false, List, [], ◌∷◌, length, map, drop, slice_get, Some, refl, sym, ap, ◌∙◌, subst, arith}
use Rattle.std.proofs.lemmas.List.{drop_all}
use Rattle.src_prog.specs.Program.{Program}
use Rattle.src_prog.specs.Shape.{is_program, scope_of}
use Rattle.src_prog.specs.Scope.{cmd_fits}
use Rattle.src_prog.specs.declared.block.Cmd.{Cmd}
use Rattle.src_prog.specs.declared.block.Cmd.TheVariants.{Assign, Havoc, Assume, Assert, Call}
use Rattle.src_prog.specs.declared.proc.SrcProc.{SrcProc}
use Rattle.src_run.specs.declared.machine.Choice.{Choice}
use Rattle.src_run.specs.declared.machine.Status.{Status}
use Rattle.src_run.specs.declared.machine.Status.TheVariants.{Going, Ended, Failed, Blocked, Cut, BadChoice}
use Rattle.src_run.specs.declared.state.Asked.{Asked}
use Rattle.src_run.specs.declared.state.Step.{Step}
use Rattle.src_run.specs.declared.state.Step.TheVariants.{On, Over}
use Rattle.src_run.specs.declared.state.State.{State}
use Rattle.src_run.specs.Choosing.{asks_const, CanTest, CanTake}
use Rattle.src_run.specs.Machine.{Config, Frame, Want, AConst, AGlobal, ALocal, AVariable, ATarget, Stands, GoesOn, Comes, env_of, within, after, turn, going, tick, take_choice, tested, begin, begin_in, wants_of, bad}
use Rattle.src_run.specs.Replaying.{first, left_over, ending, behind, IsStep, Finishes, Asks, Ends, TurnsTo}
use Rattle.src_run.specs.Sorted.{AreSorted, AsksForNone, AsksForNoConst, HasVariables}
use Rattle.src_run.specs.State.{IsOver, StepsTo, config_of, want_of}
use Rattle.src_run.specs.Stepping.{cmd_reads, CanTick}
use Rattle.src_run.proofs.Programs.{cmd_fits_in}
use Rattle.src_run.proofs.Sorted.{assume_reads, assert_reads, assign_reads, call_reads, axioms_read, complete, consts_there, has_variables}
use Rattle.src_run.proofs.Sorting.{choice_sorted, entry_sorted, turn_sorted, IsSortedTurn}
use Rattle.src_run.proofs.Takes.{can_test, drop_some}

-- ---- what can be evaluated

reads_cmd : (prog : Program) (proc : SrcProc) (c : Config) (f : Frame) → HasVariables (scope_of prog proc) (env_of c f) → (cmd : Cmd) → cmd_fits prog.procs (scope_of prog proc) cmd ≡ true → cmd_reads (env_of c f) cmd ≡ true
reads_cmd prog proc c f has (Assign pairs) fits = assign_reads (scope_of prog proc) (env_of c f) has prog.procs pairs fits
reads_cmd prog proc c f has (Havoc xs) fits = refl
reads_cmd prog proc c f has (Assume expr) fits = assume_reads (scope_of prog proc) (env_of c f) has prog.procs expr fits
reads_cmd prog proc c f has (Assert number expr) fits = assert_reads (scope_of prog proc) (env_of c f) has prog.procs number expr fits
reads_cmd prog proc c f has (Call number args outs) fits = call_reads (scope_of prog proc) (env_of c f) has prog.procs number args outs fits

-- a run that asks for nothing can evaluate its next command
pub can_tick : (prog : Program) (c : Config) → is_program prog ≡ true → AreSorted prog c → c.wants ≡ [] → CanTick prog c
can_tick prog c h sorted none f rest proc block cmd e p b k =
    reads_cmd prog proc c f (has_variables prog c f rest proc (complete prog c sorted (subst AsksForNone (sym none) tt)) e p) cmd (cmd_fits_in prog f.proc f.block f.at proc block cmd h p b k)

no_const : (ws : List Want) → asks_const ws ≡ false → AsksForNoConst ws
no_const [] h = tt
no_const (AConst sort ∷ ws) h = cc
no_const (AGlobal sort ∷ ws) h = tt
no_const (ALocal sort ∷ ws) h = tt
no_const (AVariable x sort ∷ ws) h = tt
no_const (ATarget targets ∷ ws) h = tt

test_of : (prog : Program) (c : Config) → is_program prog ≡ true → AreSorted prog c → CanTest prog c
test_of prog c h sorted e = axioms_read prog c.consts h (consts_there prog c sorted (no_const c.wants e))

-- behind a choice the axioms can be evaluated
pub can_take : (prog : Program) (bound index : ℕ) (c : Config) (choice : Choice) → is_program prog ≡ true → AreSorted prog c → CanTake prog bound index c choice
can_take prog bound index c choice h sorted want rest e = test_of prog (take_choice prog bound c index want rest choice) h (choice_sorted prog bound c index want rest choice e sorted)

begin_is : (prog : Program) (entry : ℕ) (proc : SrcProc) → slice_get prog.procs entry ≡ Some proc → begin prog entry ≡ tested prog (first prog entry proc) (wants_of prog proc)
begin_is prog entry proc e = ap (begin_in prog entry) e

-- the begin, tested
pub begin_of : (prog : Program) (entry : ℕ) (proc : SrcProc) (c : Config) → slice_get prog.procs entry ≡ Some proc → c ≡ first prog entry proc → tested prog c c.wants ≡ begin prog entry
begin_of prog entry proc c e is = ap (λ (d : Config). tested prog d d.wants) is ∙ sym (begin_is prog entry proc e)

-- and so they can at the begin
pub can_begin : (prog : Program) (entry : ℕ) (proc : SrcProc) (c : Config) → is_program prog ≡ true → entry < length prog.procs → slice_get prog.procs entry ≡ Some proc → c ≡ first prog entry proc → CanTest prog c
can_begin prog entry proc c h there e is =
    subst (CanTest prog) (sym is) (can_test prog (first prog entry proc) (wants_of prog proc) (test_of prog (tested prog (first prog entry proc) (wants_of prog proc)) h (subst (AreSorted prog) (begin_is prog entry proc e) (entry_sorted prog entry there))))

-- ---- choices that are left

pub is_left : (status : Status) (n i : ℕ) (cs : List Choice) → i < length cs → left_over status n (drop i cs) ≡ BadChoice n
is_left status n i [] h = absurd (omega arith)
is_left status n zero (x ∷ xs) h = refl
is_left status n (suc i) (x ∷ xs) h = is_left status n i xs (omega arith)

pub none_left : (status : Status) (n i : ℕ) (cs : List Choice) → length cs ≤ i → left_over status n (drop i cs) ≡ status
none_left status n i cs h = ap (left_over status n) (drop_all i cs h)

-- ---- what is asked for

pub asks_nothing : (s : State) → length s.wants ≤ s.given → (config_of s).wants ≡ []
asks_nothing s h = ap (map want_of) (drop_all s.given s.wants h)

pub item_there : {A : Type 0} (n : ℕ) (xs : List A) → n < length xs → (x : A) × (slice_get xs n ≡ Some x)
item_there n [] h = absurd (omega arith)
item_there zero (x ∷ xs) h = (x, refl)
item_there (suc n) (x ∷ xs) h = item_there n xs (omega arith)

pub asks_next : (s : State) → s.given < length s.wants → (w : Asked) × ((config_of s).wants ≡ want_of w ∷ map want_of (drop (s.given + 1) s.wants))
asks_next s h = let w = item_there s.given s.wants h in (w.0, ap (map want_of) (drop_some s.given s.wants w.0 w.1))

pub step_is : (step : Step) (s : State) (c : Config) → StepsTo step s c → IsStep step
step_is On s c h = tt
step_is (Over status) s c h = h.1

-- ---- turns

over_none : (prog : Program) (bound index : ℕ) (d : Config) (status : Status) → d.status ≡ status → turn prog bound index d status [] ≡ Stands d → Comes prog bound index d [] status
over_none prog bound index d status e t = record { turns = 1; last = d; runs = ap (after (λ i b zs. within zero prog bound i b zs)) (ap (λ s. turn prog bound index d s []) e ∙ t); is = e }

over_some : (prog : Program) (bound index : ℕ) (d : Config) (x : Choice) (xs : List Choice) (status : Status) → d.status ≡ status → turn prog bound index d status (x ∷ xs) ≡ Stands (bad index d) → Comes prog bound index d (x ∷ xs) (BadChoice index)
over_some prog bound index d x xs status e t = record { turns = 1; last = bad index d; runs = ap (after (λ i b zs. within zero prog bound i b zs)) (ap (λ s. turn prog bound index d s (x ∷ xs)) e ∙ t); is = refl }

-- a run that is over stands
pub stands : (prog : Program) (bound index : ℕ) (d : Config) (xs : List Choice) (status : Status) → d.status ≡ status → IsOver status → Comes prog bound index d xs (ending status index xs)
stands prog bound index d xs Going e o = absurd o
stands prog bound index d [] Ended e o = over_none prog bound index d Ended e refl
stands prog bound index d (x ∷ xs) Ended e o = over_some prog bound index d x xs Ended e refl
stands prog bound index d [] (Failed p n) e o = over_none prog bound index d (Failed p n) e refl
stands prog bound index d (x ∷ xs) (Failed p n) e o = over_some prog bound index d x xs (Failed p n) e refl
stands prog bound index d [] Blocked e o = over_none prog bound index d Blocked e refl
stands prog bound index d (x ∷ xs) Blocked e o = over_some prog bound index d x xs Blocked e refl
stands prog bound index d [] Cut e o = over_none prog bound index d Cut e refl
stands prog bound index d (x ∷ xs) Cut e o = over_some prog bound index d x xs Cut e refl
stands prog bound index d xs (BadChoice wrong) e o = record { turns = 1; last = d; runs = ap (after (λ i b zs. within zero prog bound i b zs)) (ap (λ s. turn prog bound index d s xs) e); is = e }

-- a run that asks stands where no choice is left
pub stands_asking : (prog : Program) (bound index : ℕ) (c : Config) (want : Want) (rest : List Want) (xs : List Choice) → c.status ≡ Going → c.wants ≡ want ∷ rest → xs ≡ [] → Finishes prog bound index c xs Going
stands_asking prog bound index c want rest xs status e none =
    let is : turn prog bound index c c.status xs ≡ Stands c = rw (status, e, none) refl in Asks is status

-- one turn in front
pub one_more : (prog : Program) (bound index next : ℕ) (c d : Config) (xs ys : List Choice) (status : Status) → turn prog bound index c c.status xs ≡ GoesOn next d ys → Comes prog bound next d ys status → Comes prog bound index c xs status
one_more prog bound index next c d xs ys status e h = record { turns = suc h.turns; last = h.last; runs = ap (after (λ i b zs. within h.turns prog bound i b zs)) e ∙ h.runs; is = h.is }

-- a run that finishes has the status
pub finished : (prog : Program) (bound index : ℕ) (c : Config) (xs : List Choice) (status : Status) → Finishes prog bound index c xs status → Comes prog bound index c xs status
finished prog bound index c xs status (Asks t e) = record { turns = 1; last = c; runs = ap (after (λ i b zs. within zero prog bound i b zs)) t; is = e }
finished prog bound index c xs status (Ends next d left s t e o is) = one_more prog bound index next c d xs left status t (subst (λ v. Comes prog bound next d left v) (sym is) (stands prog bound next d left s e o))

-- where a turn goes on to a configuration that a step led to
pub turn_is : (prog : Program) (bound index next : ℕ) (choices : List Choice) (old expected : Config) (new : State) (step : Step) → is_program prog ≡ true → AreSorted prog old → next ≤ length choices
    → turn prog bound index old old.status (drop index choices) ≡ GoesOn next expected (drop next choices) → StepsTo step new expected → TurnsTo prog bound index choices old (config_of new) (behind step next choices)
turn_is prog bound index next choices old expected new On h sorted within t s =
    let is = t ∙ ap (λ c. GoesOn next c (drop next choices)) (sym s) in
    (is, within, subst (IsSortedTurn prog) is (turn_sorted prog h bound index old old.status (drop index choices) sorted))
turn_is prog bound index next choices old expected new (Over status) h sorted within t s =
    Ends next expected (drop next choices) status t s.0 s.1 refl

-- a step of a run that asks for nothing
pub tick_turn : (prog : Program) (bound index : ℕ) (choices : List Choice) (old : Config) → old.status ≡ Going → old.wants ≡ [] → turn prog bound index old old.status (drop index choices) ≡ GoesOn index (tick prog bound old) (drop index choices)
tick_turn prog bound index choices old going none = rw (going, none) refl

-- a choice that is there
pub choice_turn : (prog : Program) (bound index : ℕ) (choices : List Choice) (old : Config) (want : Want) (rest : List Want) (choice : Choice) → old.status ≡ Going → old.wants ≡ want ∷ rest → slice_get choices index ≡ Some choice
    → turn prog bound index old old.status (drop index choices) ≡ GoesOn (index + 1) (take_choice prog bound old index want rest choice) (drop (index + 1) choices)
choice_turn prog bound index choices old want rest choice going e x = rw (going, e, drop_some index choices choice x) refl
