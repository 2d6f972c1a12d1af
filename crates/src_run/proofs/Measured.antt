-- How many turns of a run are left, which is the measure of a replay.
use Rattle.std.proofs.Common.{◌≡◌, ℕ, zero, suc, ◌<◌, Bool, true, false, List, [], ◌∷◌, length, slice_get, Option, None, Some, refl, ap, subst, sym, ◌∙◌, arith}
use Rattle.src_prog.specs.Program.{Program}
use Rattle.src_prog.specs.Shape.{is_program}
use Rattle.src_prog.specs.declared.proc.SrcProc.{SrcProc}
use Rattle.src_run.specs.declared.machine.Choice.{Choice}
use Rattle.src_run.specs.declared.state.State.{State}
use Rattle.src_run.specs.Machine.{Config, Frame, Turn, Stands, GoesOn, within, after, turn, begin, begin_in, wants_of}
use Rattle.src_run.specs.Replaying.{first}
use Rattle.src_run.specs.State.{config_of}
use Rattle.src_run.proofs.Going.{has_status}
use Rattle.src_run.proofs.Runs.{more_turns}
use Rattle.src_run.proofs.Takes.{tested_frames}

-- ---- the measure

abbrev pub counted : (ℕ → Config → List Choice → ℕ) → Turn → ℕ
counted more (Stands d) = 0
counted more (GoesOn index d choices) = suc (more index d choices)

-- the turns behind which the run goes on, of so many at most
abbrev pub turns_left : ℕ → Program → (bound index : ℕ) → Config → List Choice → ℕ
turns_left zero prog bound index c choices = 0
turns_left (suc n) prog bound index c choices = counted (λ i d xs. turns_left n prog bound i d xs) (turn prog bound index c c.status choices)

-- in so many turns the run comes to stand
abbrev pub Suffices : ℕ → Program → (bound index : ℕ) → Config → List Choice → Type 0
Suffices n prog bound index c choices = (last : Config) × (within n prog bound index c choices ≡ Some last)

same_after : (n : ℕ) (prog : Program) (bound : ℕ) → ((index : ℕ) (c : Config) (choices : List Choice) → Suffices n prog bound index c choices → turns_left (suc n) prog bound index c choices ≡ turns_left n prog bound index c choices)
    → (t : Turn) (last : Config) → after (λ i d xs. within n prog bound i d xs) t ≡ Some last → counted (λ i d xs. turns_left (suc n) prog bound i d xs) t ≡ counted (λ i d xs. turns_left n prog bound i d xs) t
same_after n prog bound same (Stands d) last h = refl
same_after n prog bound same (GoesOn i d xs) last h = ap (λ m. suc m) (same i d xs (last, h))

-- more turns are no more left
same_left : (n : ℕ) (prog : Program) (bound index : ℕ) (c : Config) (choices : List Choice) → Suffices n prog bound index c choices → turns_left (suc n) prog bound index c choices ≡ turns_left n prog bound index c choices
same_left zero prog bound index c choices (last, h) = cc
same_left (suc n) prog bound index c choices (last, h) = same_after n prog bound (same_left n prog bound) (turn prog bound index c c.status choices) last h

-- behind a turn fewer are left
pub one_less : (n : ℕ) (prog : Program) (bound index next : ℕ) (c d : Config) (choices left : List Choice) → Suffices n prog bound index c choices → turn prog bound index c c.status choices ≡ GoesOn next d left
    → Suffices n prog bound next d left × (turns_left n prog bound next d left < turns_left n prog bound index c choices)
one_less zero prog bound index next c d choices left (last, h) e = cc
one_less (suc n) prog bound index next c d choices left (last, h) e =
    let behind : within n prog bound next d left ≡ Some last = rw e at h in
    let same = same_left n prog bound next d left (last, behind) in
    let counts : turns_left (suc n) prog bound index c choices ≡ suc (turns_left n prog bound next d left) = rw e refl in
    ((last, more_turns n prog bound next d left last behind), omega (arith, same, counts))

-- ---- how many suffice from the begin on

abbrev pub enough_in : (prog : Program) (entry bound : ℕ) (choices : List Choice) (b : Bool) → is_program prog ≡ b → ℕ
enough_in prog entry bound choices true h = (has_status prog h entry bound choices).1.turns
enough_in prog entry bound choices false h = 0

abbrev pub enough : (prog : Program) (entry bound : ℕ) → List Choice → ℕ
enough prog entry bound choices = enough_in prog entry bound choices (is_program prog) refl

pub enough_suffices : (prog : Program) (entry bound : ℕ) (choices : List Choice) → is_program prog ≡ true → Suffices (enough prog entry bound choices) prog bound 0 (begin prog entry) choices
enough_suffices prog entry bound choices h = at (is_program prog) refl h
  where
    at : (b : Bool) (e : is_program prog ≡ b) → b ≡ true → Suffices (enough_in prog entry bound choices b e) prog bound 0 (begin prog entry) choices
    at true e t = let run = (has_status prog e entry bound choices).1 in (run.last, run.runs)
    at false e t = cc

-- ---- the begin's frame

abbrev proc_of : List Frame → ℕ
proc_of [] = 0
proc_of (f ∷ rest) = f.proc

begin_frames : (prog : Program) (entry : ℕ) (o : Option SrcProc) → slice_get prog.procs entry ≡ o → entry < length prog.procs → proc_of (begin_in prog entry o).frames ≡ entry
begin_frames prog entry (Some proc) e there = ap proc_of (tested_frames prog (first prog entry proc) (wants_of prog proc))
begin_frames prog entry None e there = absurd (none prog.procs entry e there)
  where
    none : (ps : List SrcProc) (n : ℕ) → slice_get ps n ≡ None → n < length ps → ⊥
    none [] n e lt = omega arith
    none (p ∷ ps) zero e lt = cc
    none (p ∷ ps) (suc n) e lt = none ps n e (omega arith)

-- a state at the begin is in the entry
pub begins_in : (prog : Program) (entry : ℕ) (state : State) → entry < length prog.procs → config_of state ≡ begin prog entry → config_of state ≡ begin prog state.place.proc
begins_in prog entry state there e =
    let same : state.place.proc ≡ entry = ap (λ (c : Config). proc_of c.frames) e ∙ begin_frames prog entry (slice_get prog.procs entry) refl there in
    subst (λ n. config_of state ≡ begin prog n) (sym same) e
