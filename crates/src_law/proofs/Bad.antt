-- What lists of choices have a bad one.
use Rattle.std.proofs.Common.{◌≡◌, ℕ, zero, suc, ◌+◌, ◌<◌, List, [], ◌∷◌, ◌++◌, length, take, Some, arith, refl, sym, ◌∙◌, ap, subst, inl, inr, ◌⊎◌}
use Rattle.std.proofs.lemmas.List.{append-nil}
use Rattle.src_prog.specs.Program.{Program}
use Rattle.src_run.specs.declared.machine.Choice.{Choice}
use Rattle.src_run.specs.declared.machine.Status.{Status}
use Rattle.src_run.specs.declared.machine.Status.TheVariants.{Going, Ended, Failed, Blocked, Cut, BadChoice}
use Rattle.src_run.specs.Machine.{Config, Want, Stands, tick, take_choice, bad, turn, going, over, after, within, Comes, HasStatus, begin}
use Rattle.src_law.specs.Statuses.{IsEnd, AreTaken, BadChoicesAreFirst}
use Rattle.src_run.proofs.Ends.{comes_tick, comes_choice}
use Rattle.src_law.proofs.Taken.{Took, tick_took, choice_took, begin_took}

-- a run that stands at once
stands_now : (prog : Program) (bound index : ℕ) (c d : Config) (choices : List Choice) (s : Status) → turn prog bound index c c.status choices ≡ Stands d → d.status ≡ s → Comes prog bound index c choices s
stands_now prog bound index c d choices s t e = record { turns = 1; last = d; runs = rw t refl; is = e }

-- where a run stands at once, it has stood in any number of turns
stood : (n : ℕ) (prog : Program) (bound index : ℕ) (c d last : Config) (choices : List Choice) → turn prog bound index c c.status choices ≡ Stands d → within n prog bound index c choices ≡ Some last → d ≡ last
stood zero prog bound index c d last choices t h = cc
stood (suc n) prog bound index c d last choices t h = let k = rw t at h in cc

-- ---- choices behind the end

-- a bad choice stays one, and behind an end the next choice is bad
abbrev with_more : (count : ℕ) → Status → Status
with_more count Going = BadChoice count
with_more count Ended = BadChoice count
with_more count (Failed proc assert) = BadChoice count
with_more count Blocked = BadChoice count
with_more count Cut = BadChoice count
with_more count (BadChoice index) = BadChoice index

with_more_end : (count : ℕ) (s : Status) → IsEnd s → with_more count s ≡ BadChoice count
with_more_end count Going e = absurd e
with_more_end count Ended e = refl
with_more_end count (Failed proc assert) e = refl
with_more_end count Blocked e = refl
with_more_end count Cut e = refl
with_more_end count (BadChoice index) e = absurd e

module _ (prog : Program) (bound : ℕ) (x : Choice) (more : List Choice) where
  -- what is shown of so many turns
  abbrev RunsMore : ℕ → Type 0
  RunsMore n = (index : ℕ) (c : Config) (choices : List Choice) (last : Config) → within n prog bound index c choices ≡ Some last → (last.status ≡ Going → ⊥)
      → Comes prog bound index c (choices ++ x ∷ more) (with_more (index + length choices) last.status)

  over_more : (n index : ℕ) (c : Config) (choices : List Choice) (s : Status) (last : Config) → c.status ≡ s → ((xs : List Choice) → turn prog bound index c c.status xs ≡ over index c xs) → with_more index s ≡ BadChoice index
      → after (λ i d xs. within n prog bound i d xs) (over index c choices) ≡ Some last → Comes prog bound index c (choices ++ x ∷ more) (with_more (index + length choices) last.status)
  over_more n index c [] s last e turns w t =
      let is : c ≡ last = cc in
      let none : index + 0 ≡ index = omega arith in
      stands_now prog bound index c (bad index c) (x ∷ more) _ (turns (x ∷ more)) (rw (none, ← is, e) (sym w))
  over_more n index c (y ∷ ys) s last e turns w t =
      let is : bad index c ≡ last = cc in
      stands_now prog bound index c (bad index c) (y ∷ ys ++ x ∷ more) _ (turns (y ∷ ys ++ x ∷ more)) (rw (← is) refl)

  going_more : (n index : ℕ) → RunsMore n → (c : Config) (choices : List Choice) (ws : List Want) (last : Config) → c.status ≡ Going → c.wants ≡ ws → (last.status ≡ Going → ⊥)
      → after (λ i d xs. within n prog bound i d xs) (going prog bound index c ws choices) ≡ Some last → Comes prog bound index c (choices ++ x ∷ more) (with_more (index + length choices) last.status)
  going_more n index rec c choices [] last e asks ended h = comes_tick prog bound index (choices ++ x ∷ more) c _ e asks (rec index (tick prog bound c) choices last h ended)
  going_more n index rec c [] (w ∷ ws) last e asks ended h =
      let is : c ≡ last = cc in
      absurd (ended (rw (← is) e))
  going_more n index rec c (y ∷ ys) (w ∷ ws) last e asks ended h =
      let one : index + suc (length ys) ≡ index + 1 + length ys = omega arith in
      rw one (comes_choice prog bound index y (ys ++ x ∷ more) c w ws _ e asks (rec (index + 1) (take_choice prog bound c index w ws y) ys last h ended))

  runs_more : (n : ℕ) → RunsMore n
  runs_more zero index c choices last h ended = cc
  runs_more (suc n) index c choices last h ended = at (runs_more n) c.status refl h
    where
      at : RunsMore n → (s : Status) → c.status ≡ s → after (λ i d xs. within n prog bound i d xs) (turn prog bound index c s choices) ≡ Some last → Comes prog bound index c (choices ++ x ∷ more) (with_more (index + length choices) last.status)
      at rec Going e k = going_more n index rec c choices c.wants last e refl ended k
      at rec Ended e k = over_more n index c choices Ended last e (λ xs. rw e refl) refl k
      at rec (Failed p m) e k = over_more n index c choices (Failed p m) last e (λ xs. rw e refl) refl k
      at rec Blocked e k = over_more n index c choices Blocked last e (λ xs. rw e refl) refl k
      at rec Cut e k = over_more n index c choices Cut last e (λ xs. rw e refl) refl k
      at rec (BadChoice i) e k =
          let is : c ≡ last = cc in
          stands_now prog bound index c c (choices ++ x ∷ more) _ (rw e refl) (rw (← is, e) refl)

  pub comes_more : (index : ℕ) (c : Config) (choices : List Choice) (s : Status) → Comes prog bound index c choices s → (s ≡ Going → ⊥) → Comes prog bound index c (choices ++ x ∷ more) (with_more (index + length choices) s)
  comes_more index c choices s h ended =
      subst (λ t. Comes prog bound index c (choices ++ x ∷ more) (with_more (index + length choices) t)) h.is (runs_more h.turns index c choices h.last h.runs (λ e. ended (sym h.is ∙ e)))

-- ---- the first bad choice

module _ (prog : Program) (bound : ℕ) where
  -- the choice of this index is the first bad one
  record FirstBad (index : ℕ) (c : Config) (choices : List Choice) (bad_one : ℕ) : Type 0 where
    place : ℕ
    is : bad_one ≡ index + place
    there : place < length choices
    status : Status
    taken : AreTaken status
    before : Comes prog bound index c (take place choices) status

  abbrev FindsBad : ℕ → Type 0
  FindsBad n = (index bad_one : ℕ) (c : Config) (choices : List Choice) (last : Config) → Took c → within n prog bound index c choices ≡ Some last → last.status ≡ BadChoice bad_one → FirstBad index c choices bad_one

  over_bad : (n index bad_one : ℕ) (c : Config) (choices : List Choice) (last : Config) → Took c → turn prog bound index c c.status [] ≡ Stands c → after (λ i d xs. within n prog bound i d xs) (over index c choices) ≡ Some last → last.status ≡ BadChoice bad_one
      → FirstBad index c choices bad_one
  over_bad n index bad_one c [] last took turns h e =
      let is : c ≡ last = cc in
      let k : c.status ≡ BadChoice bad_one = rw is e in
      absurd (rw k at took)
  over_bad n index bad_one c (x ∷ xs) last took turns h e =
      let is : bad index c ≡ last = cc in
      let k : BadChoice index ≡ BadChoice bad_one = rw (← is) at e in
      let same : index ≡ bad_one = cc in
      record { place = 0; is = omega arith; there = omega arith; status = c.status; taken = took; before = stands_now prog bound index c c [] c.status turns refl }

  going_bad : (n index bad_one : ℕ) → FindsBad n → (c : Config) (choices : List Choice) (ws : List Want) (last : Config) → Took c → c.status ≡ Going → c.wants ≡ ws
      → after (λ i d xs. within n prog bound i d xs) (going prog bound index c ws choices) ≡ Some last → last.status ≡ BadChoice bad_one → FirstBad index c choices bad_one
  going_bad n index bad_one rec c choices [] last took going asks h e =
      let f = rec index bad_one (tick prog bound c) choices last (tick_took prog bound c took) h e in
      record { place = f.place; is = f.is; there = f.there; status = f.status; taken = f.taken; before = comes_tick prog bound index (take f.place choices) c f.status going asks f.before }
  going_bad n index bad_one rec c [] (w ∷ ws) last took going asks h e =
      let is : c ≡ last = cc in
      let k : Going ≡ BadChoice bad_one = sym going ∙ rw is e in
      cc
  going_bad n index bad_one rec c (x ∷ xs) (w ∷ ws) last took going asks h e = at (choice_took prog bound c index w ws x took)
    where
      d : Config
      d = take_choice prog bound c index w ws x

      at : Took d ⊎ (d.status ≡ BadChoice index) → FirstBad index c (x ∷ xs) bad_one
      at (inl t) =
          let f = rec (index + 1) bad_one d xs last t h e in
          let where_is = f.is in
          let inside = f.there in
          record { place = suc f.place; is = omega arith; there = omega arith; status = f.status; taken = f.taken; before = comes_choice prog bound index x (take f.place xs) c w ws f.status going asks f.before }
      at (inr k) =
          let turns : turn prog bound (index + 1) d d.status xs ≡ Stands d = rw k refl in
          let is = stood n prog bound (index + 1) d d last xs turns h in
          let both : BadChoice index ≡ BadChoice bad_one = sym k ∙ rw is e in
          let same : index ≡ bad_one = cc in
          record { place = 0; is = omega arith; there = omega arith; status = Going; taken = tt; before = stands_now prog bound index c c [] Going (rw (going, asks) refl) going }

  finds_bad : (n : ℕ) → FindsBad n
  finds_bad zero index bad_one c choices last took h e = cc
  finds_bad (suc n) index bad_one c choices last took h e = at (finds_bad n) c.status refl h
    where
      at : FindsBad n → (s : Status) → c.status ≡ s → after (λ i d xs. within n prog bound i d xs) (turn prog bound index c s choices) ≡ Some last → FirstBad index c choices bad_one
      at rec Going k r = going_bad n index bad_one rec c choices c.wants last took k refl r e
      at rec Ended k r = over_bad n index bad_one c choices last took (rw k refl) r e
      at rec (Failed p m) k r = over_bad n index bad_one c choices last took (rw k refl) r e
      at rec Blocked k r = over_bad n index bad_one c choices last took (rw k refl) r e
      at rec Cut k r = over_bad n index bad_one c choices last took (rw k refl) r e
      at rec (BadChoice i) k r = absurd (rw k at took)

  -- with no choices left none becomes bad
  pub none_bad : (index : ℕ) (c : Config) (s : Status) → Took c → Comes prog bound index c [] s → AreTaken s
  none_bad index c Going took h = tt
  none_bad index c Ended took h = tt
  none_bad index c (Failed p n) took h = tt
  none_bad index c Blocked took h = tt
  none_bad index c Cut took h = tt
  none_bad index c (BadChoice i) took h =
      let f = finds_bad h.turns index i c [] h.last took h.runs h.is in
      let there = f.there in
      absurd (omega arith)

pub bad_choices_are_first : BadChoicesAreFirst
bad_choices_are_first = record { behind = behind; stays = stays; first = first }
  where
    ends : (s : Status) → IsEnd s → s ≡ Going → ⊥
    ends s i e = rw e at i

    behind : (prog : Program) (entry bound : ℕ) (choices : List Choice) (status : Status) → IsEnd status → HasStatus prog entry bound choices status
        → (next : Choice) (more : List Choice) → HasStatus prog entry bound (choices ++ next ∷ more) (BadChoice (length choices))
    behind prog entry bound choices status i h next more =
        let none : 0 + length choices ≡ length choices = omega arith in
        let m = comes_more prog bound next more 0 (begin prog entry) choices status h (ends status i) in
        subst (λ s. HasStatus prog entry bound (choices ++ next ∷ more) s) (with_more_end (0 + length choices) status i ∙ ap BadChoice none) m

    stays : (prog : Program) (entry bound index : ℕ) (choices more : List Choice) → HasStatus prog entry bound choices (BadChoice index) → HasStatus prog entry bound (choices ++ more) (BadChoice index)
    stays prog entry bound index choices [] h = subst (λ xs. HasStatus prog entry bound xs (BadChoice index)) (sym (append-nil choices)) h
    stays prog entry bound index choices (x ∷ more) h = comes_more prog bound x more 0 (begin prog entry) choices (BadChoice index) h (λ e. cc)

    first : (prog : Program) (entry bound index : ℕ) (choices : List Choice) → HasStatus prog entry bound choices (BadChoice index)
        → (index < length choices) × (status : Status) × AreTaken status × HasStatus prog entry bound (take index choices) status
    first prog entry bound index choices h =
        let f = finds_bad prog bound h.turns 0 index (begin prog entry) choices h.last (begin_took prog entry) h.runs h.is in
        let place_is : f.place ≡ index = let is = f.is in omega arith in
        let there = f.there in
        (omega arith, f.status, f.taken, subst (λ k. HasStatus prog entry bound (take k choices) f.status) place_is f.before)
