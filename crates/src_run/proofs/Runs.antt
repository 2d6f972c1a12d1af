-- Laws of runs.
use Rattle.std.proofs.Common.{◌≡◌, ℕ, zero, suc, ◌+◌, Bool, true, false, if◌then◌else◌, List, [], ◌∷◌, ◌++◌, length, None, Some, arith, sym, ◌∙◌, ap, refl, append_assoc, subst, inl, inr}
use Rattle.std.proofs.lemmas.List.{append-nil, map-append}
use Rattle.hy_val.specs.Values.{has_sort}
use Rattle.hy_val.specs.declared.atom.AtomKind.TheVariants.{Bool as BoolAtom, Bv as BvAtom}
use Rattle.hy_val.specs.declared.sort.Sort.{Sort}
use Rattle.hy_val.specs.declared.value.Value.{Value}
use Rattle.hy_val.specs.declared.value.Value.TheVariants.{Atom as AtomValue, Map as MapValue}
use Rattle.src_prog.specs.Program.{Program}
use Rattle.src_run.specs.declared.machine.Choice.{Choice}
use Rattle.src_run.specs.declared.machine.Choice.TheVariants.{Go, Val}
use Rattle.src_run.specs.declared.machine.Status.{Status}
use Rattle.src_run.specs.declared.machine.Status.TheVariants.{Going, Ended, Failed, Blocked, Cut, BadChoice}
use Rattle.src_run.specs.Running.{Leads, StandsBehind, bool_value, wants_bool}
use Rattle.src_run.specs.Search.{NoneFrom, FirstFrom, FirstFailing, Precedes, bool_choice, bool_choices}
use Rattle.src_run.specs.declared.searching.Failing.{Failing}
use Rattle.src_run.specs.Machine.{Config, Want, Turn, Stands, GoesOn, tick, take_choice, bad, turn, going, over, after, within, AConst, AGlobal, ALocal, AVariable, ATarget, Comes, HasStatus, Fails, NoneFails, begin}
use Rattle.src_run.proofs.Environments.{is-bool}

-- what holds on both ways
pub either_way : (P : Config → Type 0) (b : Bool) (c d : Config) → P c → P d → P (if b then c else d)
either_way P true c d p q = p
either_way P false c d p q = q

-- more turns change nothing
abbrev pub MoreTurns : ℕ → Program → ℕ → Type 0
MoreTurns n prog bound = (index : ℕ) (c : Config) (choices : List Choice) (last : Config) → within n prog bound index c choices ≡ Some last → within (suc n) prog bound index c choices ≡ Some last

more_after : (n : ℕ) (prog : Program) (bound : ℕ) (last : Config) → MoreTurns n prog bound → (t : Turn) → after (λ i d xs. within n prog bound i d xs) t ≡ Some last → after (λ i d xs. within (suc n) prog bound i d xs) t ≡ Some last
more_after n prog bound last f (Stands d) h = h
more_after n prog bound last f (GoesOn i d xs) h = f i d xs last h

pub more_turns : (n : ℕ) (prog : Program) (bound : ℕ) → MoreTurns n prog bound
more_turns zero prog bound index c choices last h = cc
more_turns (suc n) prog bound index c choices last h = more_after n prog bound last (more_turns n prog bound) (turn prog bound index c c.status choices) h

turns_more : (k n : ℕ) (prog : Program) (bound index : ℕ) (c : Config) (choices : List Choice) (last : Config) → within n prog bound index c choices ≡ Some last → within (k + n) prog bound index c choices ≡ Some last
turns_more zero n prog bound index c choices last h = let e : zero + n ≡ n = omega arith in rw e h
turns_more (suc k) n prog bound index c choices last h =
    let e : suc k + n ≡ suc (k + n) = omega arith in
    rw e (more_turns (k + n) prog bound index c choices last (turns_more k n prog bound index c choices last h))

-- a run comes to stand with one status
pub one_status : (prog : Program) (bound index : ℕ) (c : Config) (choices : List Choice) (s t : Status) → Comes prog bound index c choices s → Comes prog bound index c choices t → s ≡ t
one_status prog bound index c choices s t x y =
    let a = turns_more y.turns x.turns prog bound index c choices x.last x.runs in
    let b = turns_more x.turns y.turns prog bound index c choices y.last y.runs in
    let e : y.turns + x.turns ≡ x.turns + y.turns = omega arith in
    let same : Some x.last ≡ Some y.last = sym a ∙ (ap (λ n. within n prog bound index c choices) e ∙ b) in
    let l : x.last ≡ y.last = cc in
    sym x.is ∙ (ap (λ (d : Config). d.status) l ∙ y.is)

-- ---- a run that goes on

pub leads_trans : (prog : Program) (bound i j k : ℕ) (c d e : Config) (xs ys zs : List Choice) → Leads prog bound i c xs j d ys → Leads prog bound j d ys k e zs → Leads prog bound i c xs k e zs
leads_trans prog bound i j k c d e xs ys zs f g rest s h = f rest s (g rest s h)

-- a step that takes no choice
pub leads_tick : (prog : Program) (bound i : ℕ) (c d : Config) (xs : List Choice) → c.status ≡ Going → c.wants ≡ [] → tick prog bound c ≡ d → Leads prog bound i c xs i d xs
leads_tick prog bound i c d xs going none t rest s h =
    let one : turn prog bound i c c.status (xs ++ rest) ≡ GoesOn i (tick prog bound c) (xs ++ rest) = rw (going, none) refl in
    let runs : within (suc h.turns) prog bound i c (xs ++ rest) ≡ Some h.last = rw (one, t) h.runs in
    record { turns = suc h.turns; last = h.last; runs = runs; is = h.is }

-- a choice that is taken
pub leads_choice : (prog : Program) (bound i : ℕ) (c d : Config) (w : Want) (ws : List Want) (x : Choice) (xs : List Choice) → c.status ≡ Going → c.wants ≡ w ∷ ws → take_choice prog bound c i w ws x ≡ d → Leads prog bound i c (x ∷ xs) (i + 1) d xs
leads_choice prog bound i c d w ws x xs going asks t rest s h =
    let one : turn prog bound i c c.status (x ∷ (xs ++ rest)) ≡ GoesOn (i + 1) (take_choice prog bound c i w ws x) (xs ++ rest) = rw (going, asks) refl in
    let runs : within (suc h.turns) prog bound i c (x ∷ (xs ++ rest)) ≡ Some h.last = rw (one, t) h.runs in
    record { turns = suc h.turns; last = h.last; runs = runs; is = h.is }

pub leads_nowhere : (prog : Program) (bound i : ℕ) (c : Config) (xs : List Choice) → Leads prog bound i c xs i c xs
leads_nowhere prog bound i c xs rest s h = h

-- where the run stands behind what it led to, it stands
pub stands_behind : (prog : Program) (bound i j : ℕ) (c d : Config) (xs ys : List Choice) (s : Status) → Leads prog bound i c xs j d ys → j + length ys ≡ i + length xs → StandsBehind prog bound j d ys s → StandsBehind prog bound i c xs s
stands_behind prog bound i j c d xs ys s f e h =
    record { last = h.last; leads = λ rest t g. f rest t (h.leads rest t (rw e g)); is = h.is; asks = h.asks }

-- ---- lists of choices

-- a run that asks for a bool, or is over, stands where no choice is left
stands_now : (prog : Program) (bound i : ℕ) (d : Config) → (d.status ≡ Going → wants_bool d.wants ≡ true) → turn prog bound i d d.status [] ≡ Stands d
stands_now prog bound i d asks = at d.status d.wants refl asks
  where
    at : (s : Status) (ws : List Want) → d.wants ≡ ws → (s ≡ Going → wants_bool d.wants ≡ true) → turn prog bound i d s [] ≡ Stands d
    at Going [] e a = let w : wants_bool [] ≡ true = sym (ap wants_bool e) ∙ a refl in cc
    at Going (w ∷ ws) e a = rw e refl
    at Ended ws e a = refl
    at (Failed p n) ws e a = refl
    at Blocked ws e a = refl
    at Cut ws e a = refl
    at (BadChoice k) ws e a = refl

-- a run that stands behind its choices has that status after them
pub stands_status : (prog : Program) (bound index : ℕ) (c : Config) (choices : List Choice) (s : Status) → StandsBehind prog bound index c choices s → Comes prog bound index c choices s
stands_status prog bound index c choices s h =
    let now = stands_now prog bound (index + length choices) h.last (λ g. h.asks (sym h.is ∙ g)) in
    let there : within 1 prog bound (index + length choices) h.last [] ≡ Some h.last = rw now refl in
    subst (λ xs. Comes prog bound index c xs s) (append-nil choices) (h.leads [] s (record { turns = 1; last = h.last; runs = there; is = h.is }))

-- the bad choice of a run that does not go on, or is given another choice than a bool
bad_next : (prog : Program) (bound i : ℕ) (d : Config) (x : Choice) (xs : List Choice) → (j : ℕ) → turn prog bound i d d.status (x ∷ xs) ≡ Stands (bad j d) → Comes prog bound i d (x ∷ xs) (BadChoice j)
bad_next prog bound i d x xs j e = record { turns = 1; last = bad j d; runs = rw e refl; is = refl }

-- the status isn't Failed
abbrev pub IsNoFailure : Status → Type 0
IsNoFailure Going = Unit {0}
IsNoFailure Ended = Unit {0}
IsNoFailure (Failed p n) = ⊥
IsNoFailure Blocked = Unit {0}
IsNoFailure Cut = Unit {0}
IsNoFailure (BadChoice i) = Unit {0}

no_failure : (s : Status) (p n : ℕ) → IsNoFailure s → s ≡ Failed p n → ⊥
no_failure Going p n h e = cc
no_failure Ended p n h e = cc
no_failure (Failed q m) p n h e = h
no_failure Blocked p n h e = cc
no_failure Cut p n h e = cc
no_failure (BadChoice i) p n h e = cc

-- a run that is over has a bad choice where one more stands
bad_behind : (prog : Program) (bound i : ℕ) (d : Config) (s : Status) (x : Choice) (xs : List Choice) → d.status ≡ s → (s ≡ Going → ⊥) → (j : ℕ) × Comes prog bound i d (x ∷ xs) (BadChoice j)
bad_behind prog bound i d Going x xs e g = absurd (g refl)
bad_behind prog bound i d Ended x xs e g = (i, bad_next prog bound i d x xs i (ap (λ u. turn prog bound i d u (x ∷ xs)) e))
bad_behind prog bound i d (Failed p n) x xs e g = (i, bad_next prog bound i d x xs i (ap (λ u. turn prog bound i d u (x ∷ xs)) e))
bad_behind prog bound i d Blocked x xs e g = (i, bad_next prog bound i d x xs i (ap (λ u. turn prog bound i d u (x ∷ xs)) e))
bad_behind prog bound i d Cut x xs e g = (i, bad_next prog bound i d x xs i (ap (λ u. turn prog bound i d u (x ∷ xs)) e))
bad_behind prog bound i d (BadChoice k) x xs e g = (k, record { turns = 1; last = d; runs = (let f : turn prog bound i d d.status (x ∷ xs) ≡ Stands d = ap (λ u. turn prog bound i d u (x ∷ xs)) e in rw f refl); is = e })

abbrev pub RunsOf : Program → ℕ → ℕ → List Bool → Status → Type 0
RunsOf prog entry bound given s = StandsBehind prog bound 0 (begin prog entry) (bool_choices given) s

-- a list on which the run does not go on is the beginning of no failing one
pub none_behind : (prog : Program) (entry bound : ℕ) (given : List Bool) (s : Status) → RunsOf prog entry bound given s → IsNoFailure s → (s ≡ Going → ⊥) → NoneFrom prog entry bound (bool_choices given)
none_behind prog entry bound given s h fine over [] (p, n, f) =
    let is = stands_status prog bound 0 (begin prog entry) (bool_choices given) s h in
    let fails = subst (λ xs. HasStatus prog entry bound xs (Failed p n)) (append-nil (bool_choices given)) f in
    no_failure s p n fine (one_status prog bound 0 (begin prog entry) (bool_choices given) s (Failed p n) is fails)
none_behind prog entry bound given s h fine over (x ∷ xs) (p, n, f) =
    let b = bad_behind prog bound (0 + length (bool_choices given)) h.last s x xs h.is over in
    let is = h.leads (x ∷ xs) (BadChoice b.0) b.1 in
    let same : BadChoice b.0 ≡ Failed p n = one_status prog bound 0 (begin prog entry) (bool_choices given ++ (x ∷ xs)) (BadChoice b.0) (Failed p n) is f in cc

-- a failing list is the first of those that begin with all of its choices
pub full_first : (prog : Program) (entry bound : ℕ) (given : List Bool) (f : Failing) → f.choices ≡ bool_choices given → RunsOf prog entry bound given (Failed f.proc f.assert) → FirstFrom prog entry bound (bool_choices given) f
full_first prog entry bound given f e h =
    record {
      rest = [];
      begins = e ∙ sym (append-nil (bool_choices given));
      fails = subst (λ xs. HasStatus prog entry bound xs (Failed f.proc f.assert)) (sym e) (stands_status prog bound 0 (begin prog entry) (bool_choices given) (Failed f.proc f.assert) h);
      first = λ earlier before g. nothing_before earlier before;
    }
  where
    nothing_before : (earlier : List Choice) → Precedes earlier [] → ⊥
    nothing_before [] h = h
    nothing_before (x ∷ xs) h = h

-- ---- one bool more

-- the choice is no bool
abbrev pub IsNoBool : Choice → Type 0
IsNoBool (Go place) = Unit {0}
IsNoBool (Val (AtomValue (BoolAtom b))) = ⊥
IsNoBool (Val (AtomValue (BvAtom v))) = Unit {0}
IsNoBool (Val (MapValue m)) = Unit {0}

no_sort : (v : Value) (s : Sort) → has_sort (bool_value true) s ≡ true → IsNoBool (Val v) → has_sort v s ≡ false
no_sort (AtomValue (BoolAtom b)) s h n = absurd n
no_sort (AtomValue (BvAtom b)) s h n = let e = is-bool s h in rw e refl
no_sort (MapValue m) s h n = let e = is-bool s h in rw e refl

bad_want : (prog : Program) (bound i : ℕ) (d : Config) (w : Want) (ws : List Want) (x : Choice) → wants_bool (w ∷ ws) ≡ true → IsNoBool x → take_choice prog bound d i w ws x ≡ bad i d
bad_want prog bound i d (AConst s) ws x h n = cc
bad_want prog bound i d (AGlobal s) ws (Go place) h n = refl
bad_want prog bound i d (AGlobal s) ws (Val v) h n = let e = no_sort v s h n in rw e refl
bad_want prog bound i d (ALocal s) ws (Go place) h n = refl
bad_want prog bound i d (ALocal s) ws (Val v) h n = let e = no_sort v s h n in rw e refl
bad_want prog bound i d (AVariable y None) ws x h n = cc
bad_want prog bound i d (AVariable y (Some s)) ws (Go place) h n = refl
bad_want prog bound i d (AVariable y (Some s)) ws (Val v) h n = let e = no_sort v s h n in rw e refl
bad_want prog bound i d (ATarget ts) ws x h n = cc

-- a run that asks for a bool has a bad choice where another choice stands
bad_asked : (prog : Program) (bound i : ℕ) (d : Config) (x : Choice) (xs : List Choice) → d.status ≡ Going → wants_bool d.wants ≡ true → IsNoBool x → Comes prog bound i d (x ∷ xs) (BadChoice i)
bad_asked prog bound i d x xs e h n = at d.wants refl h
  where
    at : (ws : List Want) → d.wants ≡ ws → wants_bool ws ≡ true → Comes prog bound i d (x ∷ xs) (BadChoice i)
    at [] f k = cc
    at (w ∷ ws) f k =
        let one : turn prog bound i d d.status (x ∷ xs) ≡ GoesOn (i + 1) (take_choice prog bound d i w ws x) xs = ap (λ u. turn prog bound i d u (x ∷ xs)) e ∙ ap (λ us. going prog bound i d us (x ∷ xs)) f in
        let taken = bad_want prog bound i d w ws x k n in
        let goes : turn prog bound i d d.status (x ∷ xs) ≡ GoesOn (i + 1) (bad i d) xs = one ∙ ap (λ c. GoesOn (i + 1) c xs) taken in
        record { turns = 2; last = bad i d; runs = rw goes refl; is = refl }

pub no_other : (prog : Program) (entry bound : ℕ) (given : List Bool) (x : Choice) (xs : List Choice) → RunsOf prog entry bound given Going → IsNoBool x → Fails prog entry bound (bool_choices given ++ (x ∷ xs)) → ⊥
no_other prog entry bound given x xs h n (p, m, f) =
    let is = h.leads (x ∷ xs) _ (bad_asked prog bound (0 + length (bool_choices given)) h.last x xs h.is (h.asks refl) n) in
    let same : BadChoice (0 + length (bool_choices given)) ≡ Failed p m = one_status prog bound 0 (begin prog entry) (bool_choices given ++ (x ∷ xs)) _ (Failed p m) is f in cc

one_more : (given with_one : List Bool) (b : Bool) → with_one ≡ given ++ b ∷ [] → bool_choices with_one ≡ bool_choices given ++ bool_choice b ∷ []
one_more given with_one b e = ap bool_choices e ∙ map-append bool_choice given (b ∷ [])

behind_is : (given with_one : List Bool) (b : Bool) (xs : List Choice) → with_one ≡ given ++ b ∷ [] → bool_choices given ++ (bool_choice b ∷ xs) ≡ bool_choices with_one ++ xs
behind_is given with_one b xs e = sym (append_assoc (bool_choices given) (bool_choice b ∷ []) xs) ∙ ap (λ ys. ys ++ xs) (sym (one_more given with_one b e))

-- where neither bool leads to a failure, nothing does
pub both_none : (prog : Program) (entry bound : ℕ) (given with_false with_true : List Bool) → RunsOf prog entry bound given Going → with_false ≡ given ++ false ∷ [] → NoneFrom prog entry bound (bool_choices with_false) → with_true ≡ given ++ true ∷ []
    → NoneFrom prog entry bound (bool_choices with_true) → NoneFrom prog entry bound (bool_choices given)
both_none prog entry bound given with_false with_true h e no_false f no_true [] (p, n, fails) =
    let is = stands_status prog bound 0 (begin prog entry) (bool_choices given) Going h in
    let there = subst (λ xs. HasStatus prog entry bound xs (Failed p n)) (append-nil (bool_choices given)) fails in
    let same : Going ≡ Failed p n = one_status prog bound 0 (begin prog entry) (bool_choices given) Going (Failed p n) is there in cc
both_none prog entry bound given with_false with_true h e no_false f no_true (Go place ∷ xs) fails = no_other prog entry bound given (Go place) xs h tt fails
both_none prog entry bound given with_false with_true h e no_false f no_true (Val (AtomValue (BoolAtom false)) ∷ xs) fails = no_false xs (subst (Fails prog entry bound) (behind_is given with_false false xs e) fails)
both_none prog entry bound given with_false with_true h e no_false f no_true (Val (AtomValue (BoolAtom true)) ∷ xs) fails = no_true xs (subst (Fails prog entry bound) (behind_is given with_true true xs f) fails)
both_none prog entry bound given with_false with_true h e no_false f no_true (Val (AtomValue (BvAtom v)) ∷ xs) fails = no_other prog entry bound given (Val (AtomValue (BvAtom v))) xs h tt fails
both_none prog entry bound given with_false with_true h e no_false f no_true (Val (MapValue m) ∷ xs) fails = no_other prog entry bound given (Val (MapValue m)) xs h tt fails

-- what is first behind false is first
pub false_first : (prog : Program) (entry bound : ℕ) (given with_false : List Bool) (f : Failing) → with_false ≡ given ++ false ∷ [] → FirstFrom prog entry bound (bool_choices with_false) f → FirstFrom prog entry bound (bool_choices given) f
false_first prog entry bound given with_false f e h =
    record { rest = bool_choice false ∷ h.rest; begins = h.begins ∙ sym (behind_is given with_false false h.rest e); fails = h.fails; first = before }
  where
    before : (earlier : List Choice) → Precedes earlier (bool_choice false ∷ h.rest) → Fails prog entry bound (bool_choices given ++ earlier) → ⊥
    before [] p fails = p
    before (x ∷ xs) (inl p) fails = let q = p.1 in cc
    before (x ∷ xs) (inr p) fails = h.first xs p.1 (subst (Fails prog entry bound) (ap (λ y. bool_choices given ++ (y ∷ xs)) p.0 ∙ behind_is given with_false false xs e) fails)

-- what is first behind true is first where nothing behind false fails
pub true_first : (prog : Program) (entry bound : ℕ) (given with_false with_true : List Bool) (f : Failing) → with_false ≡ given ++ false ∷ [] → NoneFrom prog entry bound (bool_choices with_false) → with_true ≡ given ++ true ∷ []
    → FirstFrom prog entry bound (bool_choices with_true) f → FirstFrom prog entry bound (bool_choices given) f
true_first prog entry bound given with_false with_true f e none g h =
    record { rest = bool_choice true ∷ h.rest; begins = h.begins ∙ sym (behind_is given with_true true h.rest g); fails = h.fails; first = before }
  where
    before : (earlier : List Choice) → Precedes earlier (bool_choice true ∷ h.rest) → Fails prog entry bound (bool_choices given ++ earlier) → ⊥
    before [] p fails = p
    before (x ∷ xs) (inl p) fails = none xs (subst (Fails prog entry bound) (ap (λ y. bool_choices given ++ (y ∷ xs)) p.0 ∙ behind_is given with_false false xs e) fails)
    before (x ∷ xs) (inr p) fails = h.first xs p.1 (subst (Fails prog entry bound) (ap (λ y. bool_choices given ++ (y ∷ xs)) p.0 ∙ behind_is given with_true true xs g) fails)

-- the first of those that begin with nothing is the first of all
pub first_of_all : (prog : Program) (entry bound : ℕ) (f : Failing) (given : List Bool) → given ≡ [] → FirstFrom prog entry bound (bool_choices given) f → FirstFailing prog entry bound f
first_of_all prog entry bound f given e h =
    let none : bool_choices given ≡ [] = ap bool_choices e in
    let same : f.choices ≡ h.rest = h.begins ∙ ap (λ ys. ys ++ h.rest) none in
    record { fails = h.fails; first = λ earlier before fails. h.first earlier (subst (Precedes earlier) same before) (subst (Fails prog entry bound) (ap (λ ys. ys ++ earlier) (sym none)) fails) }

pub none_of_all : (prog : Program) (entry bound : ℕ) (given : List Bool) → given ≡ [] → NoneFrom prog entry bound (bool_choices given) → NoneFails prog entry bound
none_of_all prog entry bound given e h choices fails = h choices (subst (Fails prog entry bound) (ap (λ ys. ys ++ choices) (sym (ap bool_choices e))) fails)
