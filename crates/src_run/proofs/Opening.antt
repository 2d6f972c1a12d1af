-- How many frames may still be opened: for each procedure as many as the bound leaves.
use Rattle.std.proofs.Common.{◌≡◌, ℕ, zero, suc, ◌+◌, ◌-◌, ◌<◌, ◌≤◌, nat_eq, Bool, true, false, if◌then◌else◌, List, [], ◌∷◌, length, arith, refl, ap}
use Rattle.std.specs.List.{filter}
use Rattle.std.proofs.lemmas.Bool.Decides.{nat_tests}
use Rattle.src_run.specs.Machine.{Frame, open_count}

-- how many frames of the procedure are open
abbrev pub opened : ℕ → List Frame → ℕ
opened proc [] = 0
opened proc (f ∷ fs) = if nat_eq f.proc proc then suc (opened proc fs) else opened proc fs

pub opened_is : (proc : ℕ) (fs : List Frame) → open_count proc fs ≡ opened proc fs
opened_is proc [] = refl
opened_is proc (f ∷ fs) = at (opened_is proc fs) (nat_eq f.proc proc)
  where
    at : open_count proc fs ≡ opened proc fs → (b : Bool) → length (if b then f ∷ filter (λ (g : Frame). nat_eq g.proc proc) fs else filter (λ (g : Frame). nat_eq g.proc proc) fs) ≡ (if b then suc (opened proc fs) else opened proc fs)
    at rec true = ap suc rec
    at rec false = rec

-- how many may be opened of the procedures below a number
abbrev pub room : (bound procs : ℕ) → List Frame → ℕ
room bound zero fs = 0
room bound (suc p) fs = (bound - opened p fs) + room bound p fs

other : (p : ℕ) (g : Frame) (fs : List Frame) → nat_eq g.proc p ≡ false → opened p (g ∷ fs) ≡ opened p fs
other p g fs e = rw e refl

same : (p : ℕ) (g : Frame) (fs : List Frame) → nat_eq g.proc p ≡ true → opened p (g ∷ fs) ≡ suc (opened p fs)
same p g fs e = rw e refl

pub opened_more : (p : ℕ) (g : Frame) (fs : List Frame) → opened p fs ≤ opened p (g ∷ fs)
opened_more p g fs = at (nat_eq g.proc p)
  where
    at : (b : Bool) → opened p fs ≤ (if b then suc (opened p fs) else opened p fs)
    at true = omega arith
    at false = omega arith

room_less : (bound procs : ℕ) (g : Frame) (fs : List Frame) → room bound procs (g ∷ fs) ≤ room bound procs fs
room_less bound zero g fs = omega arith
room_less bound (suc p) g fs =
    let one = opened_more p g fs in
    let rec = room_less bound p g fs in
    omega arith

-- a frame that is opened takes of it
pub room_taken : (bound procs : ℕ) (g : Frame) (fs : List Frame) → g.proc < procs → opened g.proc fs < bound → room bound procs (g ∷ fs) < room bound procs fs
room_taken bound zero g fs lt free = absurd (omega arith)
room_taken bound (suc p) g fs lt free = at (room_taken bound p g fs) (nat_eq g.proc p) refl
  where
    at : (g.proc < p → opened g.proc fs < bound → room bound p (g ∷ fs) < room bound p fs) → (b : Bool) → nat_eq g.proc p ≡ b → room bound (suc p) (g ∷ fs) < room bound (suc p) fs
    at rec true e =
        let here : g.proc ≡ p = grind (arith, nat_tests) in
        let more = same p g fs e in
        let less = room_less bound p g fs in
        let open_here : opened p fs < bound = rw (← here) free in
        omega arith
    at rec false e =
        let ne : g.proc ≡ p → ⊥ = λ k. grind (arith, nat_tests) in
        let below : g.proc < p = omega arith in
        let less = rec below free in
        let kept = other p g fs e in
        omega arith

-- frames of the same procedures leave the same room
pub room_same : (bound procs : ℕ) (f g : Frame) (fs : List Frame) → f.proc ≡ g.proc → room bound procs (f ∷ fs) ≡ room bound procs (g ∷ fs)
room_same bound zero f g fs e = refl
room_same bound (suc p) f g fs e =
    let rec = room_same bound p f g fs e in
    let here : opened p (f ∷ fs) ≡ opened p (g ∷ fs) = ap (λ q. if nat_eq q p then suc (opened p fs) else opened p fs) e in
    omega arith
