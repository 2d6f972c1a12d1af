-- Runs that come to stand.
use Rattle.std.proofs.Common.{◌≡◌, ℕ, zero, suc, ◌+◌, List, [], ◌∷◌, refl, inl, inr, ◌⊎◌, Some}
use Rattle.src_prog.specs.Program.{Program}
use Rattle.src_run.specs.declared.machine.Choice.{Choice}
use Rattle.src_run.specs.declared.machine.Status.{Status}
use Rattle.src_run.specs.declared.machine.Status.TheVariants.{Going, Ended, Failed, Blocked, Cut, BadChoice}
use Rattle.src_run.specs.Machine.{Config, Want, Stands, GoesOn, tick, take_choice, bad, turn, over, within, Comes}

-- whatever the next choice's index, the run has a status
abbrev pub Ends : Program → (bound : ℕ) → List Choice → Config → Type 0
Ends prog bound choices c = (index : ℕ) → (status : Status) × Comes prog bound index c choices status

pub is_going : (s : Status) → (s ≡ Going) ⊎ (s ≡ Going → ⊥)
is_going Going = inl refl
is_going Ended = inr (λ e. cc)
is_going (Failed p n) = inr (λ e. cc)
is_going Blocked = inr (λ e. cc)
is_going Cut = inr (λ e. cc)
is_going (BadChoice i) = inr (λ e. cc)

ends_now : (prog : Program) (bound index : ℕ) (choices : List Choice) (c d : Config) → turn prog bound index c c.status choices ≡ Stands d → (status : Status) × Comes prog bound index c choices status
ends_now prog bound index choices c d e = (d.status, record { turns = 1; last = d; runs = rw e refl; is = refl })

over_stands : (index : ℕ) (c : Config) (choices : List Choice) → (d : Config) × (over index c choices ≡ Stands d)
over_stands index c [] = (c, refl)
over_stands index c (x ∷ xs) = (bad index c, refl)

-- a run that is over
pub ends_over : (prog : Program) (bound : ℕ) (choices : List Choice) (c : Config) → (c.status ≡ Going → ⊥) → Ends prog bound choices c
ends_over prog bound choices c over index = let s = stands c.status over in ends_now prog bound index choices c s.0 s.1
  where
    stands : (s : Status) → (s ≡ Going → ⊥) → (d : Config) × (turn prog bound index c s choices ≡ Stands d)
    stands Going ne = absurd (ne refl)
    stands Ended ne = over_stands index c choices
    stands (Failed p n) ne = over_stands index c choices
    stands Blocked ne = over_stands index c choices
    stands Cut ne = over_stands index c choices
    stands (BadChoice i) ne = (c, refl)

-- a step that takes no choice
pub comes_tick : (prog : Program) (bound index : ℕ) (choices : List Choice) (c : Config) (s : Status) → c.status ≡ Going → c.wants ≡ [] → Comes prog bound index (tick prog bound c) choices s → Comes prog bound index c choices s
comes_tick prog bound index choices c s going none h =
    let one : turn prog bound index c c.status choices ≡ GoesOn index (tick prog bound c) choices = rw (going, none) refl in
    record { turns = suc h.turns; last = h.last; runs = rw one h.runs; is = h.is }

pub ends_tick : (prog : Program) (bound : ℕ) (choices : List Choice) (c : Config) → c.status ≡ Going → c.wants ≡ [] → Ends prog bound choices (tick prog bound c) → Ends prog bound choices c
ends_tick prog bound choices c going none e index = let (s, h) = e index in (s, comes_tick prog bound index choices c s going none h)

-- a run that asks for a choice where none is left
pub ends_asking : (prog : Program) (bound : ℕ) (c : Config) (w : Want) (ws : List Want) → c.status ≡ Going → c.wants ≡ w ∷ ws → Ends prog bound [] c
ends_asking prog bound c w ws going asks index = ends_now prog bound index [] c c (rw (going, asks) refl)

-- a choice that is taken
pub comes_choice : (prog : Program) (bound index : ℕ) (x : Choice) (xs : List Choice) (c : Config) (w : Want) (ws : List Want) (s : Status) → c.status ≡ Going → c.wants ≡ w ∷ ws
    → Comes prog bound (index + 1) (take_choice prog bound c index w ws x) xs s → Comes prog bound index c (x ∷ xs) s
comes_choice prog bound index x xs c w ws s going asks h =
    let one : turn prog bound index c c.status (x ∷ xs) ≡ GoesOn (index + 1) (take_choice prog bound c index w ws x) xs = rw (going, asks) refl in
    record { turns = suc h.turns; last = h.last; runs = rw one h.runs; is = h.is }

pub ends_choice : (prog : Program) (bound : ℕ) (x : Choice) (xs : List Choice) (c : Config) (w : Want) (ws : List Want) → c.status ≡ Going → c.wants ≡ w ∷ ws
    → ((index : ℕ) → Ends prog bound xs (take_choice prog bound c index w ws x)) → Ends prog bound (x ∷ xs) c
ends_choice prog bound x xs c w ws going asks e index = let (s, h) = e index (index + 1) in (s, comes_choice prog bound index x xs c w ws s going asks h)

-- ---- where a run comes to stand, it does so behind its first step

pub tick_comes : (prog : Program) (bound index : ℕ) (choices : List Choice) (c : Config) (s : Status) → c.status ≡ Going → c.wants ≡ [] → Comes prog bound index c choices s → Comes prog bound index (tick prog bound c) choices s
tick_comes prog bound index choices c s going none h = at h.turns h.runs
  where
    at : (n : ℕ) → within n prog bound index c choices ≡ Some h.last → Comes prog bound index (tick prog bound c) choices s
    at zero r = cc
    at (suc n) r =
        let one : turn prog bound index c c.status choices ≡ GoesOn index (tick prog bound c) choices = rw (going, none) refl in
        record { turns = n; last = h.last; runs = rw one at r; is = h.is }

pub choice_comes : (prog : Program) (bound index : ℕ) (x : Choice) (xs : List Choice) (c : Config) (w : Want) (ws : List Want) (s : Status) → c.status ≡ Going → c.wants ≡ w ∷ ws
    → Comes prog bound index c (x ∷ xs) s → Comes prog bound (index + 1) (take_choice prog bound c index w ws x) xs s
choice_comes prog bound index x xs c w ws s going asks h = at h.turns h.runs
  where
    at : (n : ℕ) → within n prog bound index c (x ∷ xs) ≡ Some h.last → Comes prog bound (index + 1) (take_choice prog bound c index w ws x) xs s
    at zero r = cc
    at (suc n) r =
        let one : turn prog bound index c c.status (x ∷ xs) ≡ GoesOn (index + 1) (take_choice prog bound c index w ws x) xs = rw (going, asks) refl in
        record { turns = n; last = h.last; runs = rw one at r; is = h.is }
