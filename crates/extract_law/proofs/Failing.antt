-- Runs of the machine that fail, read from their end: each configuration on the way took its step, and what it asked for was given.
use Rattle.std.proofs.Common.{◌≡◌, ℕ, zero, suc, ◌≤◌, ◌<◌, ◌+◌, Bool, true, false, if◌then◌else◌, List, [], ◌∷◌, ◌++◌, map, length, arith, sym, ◌∙◌, ap, refl, subst, append_assoc}
use Rattle.std.specs.Prelude.{Option, None, Some, slice_get}
use Rattle.std.specs.Option.{option_and_then}
use Rattle.std.proofs.lemmas.List.{append-nil}
use Rattle.hy_val.specs.Values.{has_sort}
use Rattle.hy_val.specs.declared.expr.Var.{Var}
use Rattle.hy_val.specs.declared.sort.Sort.{Sort}
use Rattle.hy_val.specs.declared.value.Value.{Value}
use Rattle.src_prog.specs.Program.{Program}
use Rattle.hy_val.specs.Scope.{Scope, sort_of_target}
use Rattle.src_prog.specs.Shape.{is_program}
use Rattle.src_run.specs.declared.machine.Choice.{Choice}
use Rattle.src_run.specs.declared.machine.Choice.TheVariants.{Go, Val}
use Rattle.src_run.specs.declared.machine.Status.{Status}
use Rattle.src_run.specs.declared.machine.Status.TheVariants.{Going, Ended as IsEnded, Failed, Blocked, Cut, BadChoice}
use Rattle.src_run.specs.Machine.{Config, Frame, Want, ALocal, AVariable, ATarget, locals_wanted, with_status, with_variable, go_to, jump, tick, take_choice, within}
use Rattle.hy_val.specs.Stores.{Store, write}
use Rattle.src_run.specs.Sorted.{AreSorted}
use Rattle.src_run.proofs.Sorting.{turn_sorted, choice_sorted}
use Rattle.flat_prog.specs.Local.{Result, Request, havoc, fill}
use Rattle.hy_val.specs.Stores.{is_value_of}

-- a program, the bound, and the assert that fails
pub record World : Type 0 where
  pub prog : Program
  pub bound : ℕ
  pub proc : ℕ
  pub number : ℕ
  pub fits : is_program prog ≡ true

-- in so many turns the run from here stands at the assert that fails
pub record FailsFrom (w : World) (turns : ℕ) (c : Config) : Type 0 where
  pub index : ℕ
  pub choices : List Choice
  pub last : Config
  pub runs : within turns w.prog w.bound index c choices ≡ Some last
  pub status : last.status ≡ Failed w.proc w.number
  pub sorted : AreSorted w.prog c

pub record FailsLater (w : World) (turns : ℕ) (c : Config) : Type 0 where
  pub less : ℕ
  pub smaller : less < turns
  pub fails : FailsFrom w less c

abbrev pub going : List Value → List Value → List Frame → Config
going consts globals frames = record { status = Going; consts = consts; globals = globals; wants = []; frames = frames }

abbrev pub wanting : List Value → List Value → List Want → List Frame → Config
wanting consts globals wants frames = record { status = Going; consts = consts; globals = globals; wants = wants; frames = frames }

-- ---- steps and choices

pub after_tick : (w : World) (turns : ℕ) (consts globals : List Value) (frames : List Frame) (d : Config) → tick w.prog w.bound (going consts globals frames) ≡ d → FailsFrom w turns (going consts globals frames) → FailsLater w turns d
after_tick w zero consts globals frames d is r = let e = r.runs in absurd cc
after_tick w (suc turns) consts globals frames d is r =
    let sorted : AreSorted w.prog (tick w.prog w.bound (going consts globals frames)) = turn_sorted w.prog w.fits w.bound r.index (going consts globals frames) Going r.choices r.sorted in
    record { less = turns; smaller = omega arith; fails = subst (FailsFrom w turns) is (record { index = r.index; choices = r.choices; last = r.last; runs = r.runs; status = r.status; sorted = sorted }) }

take_some : (w : World) (turns index : ℕ) (consts globals : List Value) (want : Want) (wants : List Want) (frames : List Frame) (choices : List Choice) (last : Config) →
    within (suc turns) w.prog w.bound index (wanting consts globals (want ∷ wants) frames) choices ≡ Some last → last.status ≡ Failed w.proc w.number → AreSorted w.prog (wanting consts globals (want ∷ wants) frames) →
    (x : Choice) × FailsFrom w turns (take_choice w.prog w.bound (wanting consts globals (want ∷ wants) frames) index want wants x)
take_some w turns index consts globals want wants frames [] last runs failed sorted =
    let e : wanting consts globals (want ∷ wants) frames ≡ last = cc in absurd (let f : Going ≡ Failed w.proc w.number = ap (λ (c : Config). c.status) e ∙ failed in cc)
take_some w turns index consts globals want wants frames (x ∷ xs) last runs failed sorted =
    (x, record { index = index + 1; choices = xs; last = last; runs = runs; status = failed; sorted = choice_sorted w.prog w.bound (wanting consts globals (want ∷ wants) frames) index want wants x refl sorted })

pub record Taken (w : World) (turns : ℕ) (consts globals : List Value) (want : Want) (wants : List Want) (frames : List Frame) : Type 0 where
  pub index : ℕ
  pub choice : Choice
  pub later : FailsLater w turns (take_choice w.prog w.bound (wanting consts globals (want ∷ wants) frames) index want wants choice)

pub after_choice : (w : World) (turns : ℕ) (consts globals : List Value) (want : Want) (wants : List Want) (frames : List Frame) → FailsFrom w turns (wanting consts globals (want ∷ wants) frames) → Taken w turns consts globals want wants frames
after_choice w zero consts globals want wants frames r = let e = r.runs in absurd cc
after_choice w (suc turns) consts globals want wants frames r =
    let t = take_some w turns r.index consts globals want wants frames r.choices r.last r.runs r.status r.sorted in
    record { index = r.index; choice = t.0; later = record { less = turns; smaller = omega arith; fails = t.1 } }

-- ---- runs that are over

-- a run that is over without a failed assert does not fail later
pub data NoFailure : Status → Type 0 where
  ended : NoFailure IsEnded
  blocked : NoFailure Blocked
  cut : NoFailure Cut
  bad : (i : ℕ) → NoFailure (BadChoice i)

pub over_run : (w : World) (turns index : ℕ) (c : Config) (s : Status) (xs : List Choice) (last : Config) → NoFailure s → within turns w.prog w.bound index (with_status c s) xs ≡ Some last → last.status ≡ Failed w.proc w.number → ⊥
over_run w zero index c s xs last d runs failed = cc
over_run w (suc turns) index c IsEnded [] last d runs failed = let e : with_status c IsEnded ≡ last = cc in let f : IsEnded ≡ Failed w.proc w.number = ap (λ (c : Config). c.status) e ∙ failed in cc
over_run w (suc turns) index c Blocked [] last d runs failed = let e : with_status c Blocked ≡ last = cc in let f : Blocked ≡ Failed w.proc w.number = ap (λ (c : Config). c.status) e ∙ failed in cc
over_run w (suc turns) index c Cut [] last d runs failed = let e : with_status c Cut ≡ last = cc in let f : Cut ≡ Failed w.proc w.number = ap (λ (c : Config). c.status) e ∙ failed in cc
over_run w (suc turns) index c IsEnded (x ∷ xs) last d runs failed = let e : with_status (with_status c IsEnded) (BadChoice index) ≡ last = cc in let f : BadChoice index ≡ Failed w.proc w.number = ap (λ (c : Config). c.status) e ∙ failed in cc
over_run w (suc turns) index c Blocked (x ∷ xs) last d runs failed = let e : with_status (with_status c Blocked) (BadChoice index) ≡ last = cc in let f : BadChoice index ≡ Failed w.proc w.number = ap (λ (c : Config). c.status) e ∙ failed in cc
over_run w (suc turns) index c Cut (x ∷ xs) last d runs failed = let e : with_status (with_status c Cut) (BadChoice index) ≡ last = cc in let f : BadChoice index ≡ Failed w.proc w.number = ap (λ (c : Config). c.status) e ∙ failed in cc
over_run w (suc turns) index c (BadChoice i) xs last d runs failed = let e : with_status c (BadChoice i) ≡ last = cc in let f : BadChoice i ≡ Failed w.proc w.number = ap (λ (c : Config). c.status) e ∙ failed in cc
over_run w (suc turns) index c Going xs last d runs failed = elim d [ ]
over_run w (suc turns) index c (Failed p n) xs last d runs failed = elim d [ ]

pub is_over : (w : World) (turns : ℕ) (c : Config) (s : Status) → NoFailure s → FailsFrom w turns (with_status c s) → ⊥
is_over w turns c s d r = over_run w turns r.index c s r.choices r.last d r.runs r.status

-- the assert that has failed is the one that we speak of
failed_run : (w : World) (turns index : ℕ) (c : Config) (p n : ℕ) (xs : List Choice) (last : Config) → within turns w.prog w.bound index (with_status c (Failed p n)) xs ≡ Some last → last.status ≡ Failed w.proc w.number → (p ≡ w.proc) × (n ≡ w.number)
failed_run w zero index c p n xs last runs failed = absurd cc
failed_run w (suc turns) index c p n [] last runs failed = let e : with_status c (Failed p n) ≡ last = cc in let f : Failed p n ≡ Failed w.proc w.number = ap (λ (c : Config). c.status) e ∙ failed in (cc, cc)
failed_run w (suc turns) index c p n (x ∷ xs) last runs failed = let e : with_status (with_status c (Failed p n)) (BadChoice index) ≡ last = cc in let f : BadChoice index ≡ Failed w.proc w.number = ap (λ (c : Config). c.status) e ∙ failed in absurd cc

pub has_failed : (w : World) (turns : ℕ) (c : Config) (p n : ℕ) → FailsFrom w turns (with_status c (Failed p n)) → (p ≡ w.proc) × (n ≡ w.number)
has_failed w turns c p n r = failed_run w turns r.index c p n r.choices r.last r.runs r.status

-- a test on the way held
pub held : (w : World) (turns : ℕ) (c d : Config) (s : Status) → NoFailure s → (b : Bool) → FailsFrom w turns (if b then d else with_status c s) → (b ≡ true) × FailsFrom w turns d
held w turns c d s over true r = (refl, r)
held w turns c d s over false r = absurd (is_over w turns c s over r)

-- ---- new values of variables

pub record Given (w : World) (turns : ℕ) (consts globals : List Value) (x : Var) (o : Option Sort) (wants : List Want) (frames : List Frame) : Type 0 where
  pub value : Value
  pub fits : is_value_of o value ≡ true
  pub fails : FailsFrom w turns (with_variable (wanting consts globals wants frames) x value frames)

take_variable : (w : World) (turns index : ℕ) (consts globals : List Value) (x : Var) (o : Option Sort) (wants : List Want) (frames : List Frame) (choice : Choice) →
    FailsFrom w turns (take_choice w.prog w.bound (wanting consts globals (AVariable x o ∷ wants) frames) index (AVariable x o) wants choice) → Given w turns consts globals x o wants frames
take_variable w turns index consts globals x None wants frames (Go place) r = absurd (is_over w turns (wanting consts globals (AVariable x None ∷ wants) frames) (BadChoice index) (bad index) r)
take_variable w turns index consts globals x (Some s) wants frames (Go place) r = absurd (is_over w turns (wanting consts globals (AVariable x (Some s) ∷ wants) frames) (BadChoice index) (bad index) r)
take_variable w turns index consts globals x None wants frames (Val v) r = absurd (is_over w turns (wanting consts globals (AVariable x None ∷ wants) frames) (BadChoice index) (bad index) r)
take_variable w turns index consts globals x (Some s) wants frames (Val v) r =
    let t = held w turns (wanting consts globals (AVariable x (Some s) ∷ wants) frames) (with_variable (wanting consts globals wants frames) x v frames) (BadChoice index) (bad index) (has_sort v s) r in
    record { value = v; fits = t.0; fails = t.1 }

abbrev pub variables_wanted : Scope → List Var → List Want
variables_wanted scope xs = map (λ x. AVariable x (sort_of_target scope x)) xs

-- A havoc was given a value for each name.
pub record Havocked (w : World) (turns : ℕ) (scope : Scope) (xs : List Var) (consts : List Value) (store : Store) (f : Frame) (rest : List Frame) : Type 0 where
  pub values : List Value
  pub after : Store
  pub passes : (vs : List Value) (rs : List Result) (cs : List Request) → havoc scope xs (record { store = store; values = values ++ vs; results = rs; calls = cs }) ≡ Some (record { store = after; values = vs; results = rs; calls = cs })
  pub less : ℕ
  pub smaller : less ≤ turns
  pub fails : FailsFrom w less (going consts after.globals (record f { locals = after.locals } ∷ rest))

pub after_havoc : (w : World) (scope : Scope) (xs : List Var) (turns : ℕ) (consts : List Value) (store : Store) (f : Frame) (rest : List Frame) →
    FailsFrom w turns (wanting consts store.globals (variables_wanted scope xs) (record f { locals = store.locals } ∷ rest)) → Havocked w turns scope xs consts store f rest
after_havoc w scope [] turns consts store f rest r = record { values = []; after = store; passes = λ vs rs cs. refl; less = turns; smaller = omega arith; fails = r }
after_havoc w scope (x ∷ xs) turns consts store f rest r =
    let t = after_choice w turns consts store.globals (AVariable x (sort_of_target scope x)) (variables_wanted scope xs) (record f { locals = store.locals } ∷ rest) r in
    let h = take_variable w t.later.less t.index consts store.globals x (sort_of_target scope x) (variables_wanted scope xs) (record f { locals = store.locals } ∷ rest) t.choice t.later.fails in
    let n = after_havoc w scope xs t.later.less consts (write store x h.value) f rest h.fails in
    let le = n.smaller in let lt = t.later.smaller in
    record {
      values = h.value ∷ n.values;
      after = n.after;
      passes = λ vs rs cs. ap (λ b. option_and_then (havoc scope xs) (if b then Some (record { store = write store x h.value; values = n.values ++ vs; results = rs; calls = cs }) else None)) h.fits ∙ n.passes vs rs cs;
      less = n.less;
      smaller = omega arith;
      fails = n.fails;
    }

-- ---- values of locals

pub record GivenLocal (w : World) (turns : ℕ) (sort : Sort) (consts globals locals : List Value) (wants : List Want) (f : Frame) (rest : List Frame) : Type 0 where
  pub value : Value
  pub fits : has_sort value sort ≡ true
  pub fails : FailsFrom w turns (wanting consts globals wants (record f { locals = locals ++ value ∷ [] } ∷ rest))

take_local : (w : World) (turns index : ℕ) (sort : Sort) (consts globals locals : List Value) (wants : List Want) (f : Frame) (rest : List Frame) (choice : Choice) →
    FailsFrom w turns (take_choice w.prog w.bound (wanting consts globals (ALocal sort ∷ wants) (record f { locals = locals } ∷ rest)) index (ALocal sort) wants choice) → GivenLocal w turns sort consts globals locals wants f rest
take_local w turns index sort consts globals locals wants f rest (Go place) r = absurd (is_over w turns (wanting consts globals (ALocal sort ∷ wants) (record f { locals = locals } ∷ rest)) (BadChoice index) (bad index) r)
take_local w turns index sort consts globals locals wants f rest (Val v) r =
    let h = held w turns (wanting consts globals (ALocal sort ∷ wants) (record f { locals = locals } ∷ rest)) (wanting consts globals wants (record f { locals = locals ++ v ∷ [] } ∷ rest)) (BadChoice index) (bad index) (has_sort v sort) r in
    record { value = v; fits = h.0; fails = h.1 }

-- A value was given for each sort, behind these locals.
pub record Filled (w : World) (turns : ℕ) (sorts : List Sort) (consts globals locals : List Value) (tail : List Want) (f : Frame) (rest : List Frame) : Type 0 where
  pub values : List Value
  pub count : length values ≡ length sorts
  pub passes : (vs : List Value) (rs : List Result) (cs : List Request) → fill sorts (record { store = record { globals = globals; locals = locals }; values = values ++ vs; results = rs; calls = cs }) ≡ Some (record { store = record { globals = globals; locals = locals ++ values }; values = vs; results = rs; calls = cs })
  pub less : ℕ
  pub smaller : less ≤ turns
  pub fails : FailsFrom w less (wanting consts globals tail (record f { locals = locals ++ values } ∷ rest))

pub after_fill : (w : World) (sorts : List Sort) (turns : ℕ) (consts globals locals : List Value) (tail : List Want) (f : Frame) (rest : List Frame) →
    FailsFrom w turns (wanting consts globals (locals_wanted sorts ++ tail) (record f { locals = locals } ∷ rest)) → Filled w turns sorts consts globals locals tail f rest
after_fill w [] turns consts globals locals tail f rest r =
    let e = sym (append-nil locals) in
    record {
      values = [];
      count = refl;
      passes = λ vs rs cs. ap (λ ls. Some (record { store = record { globals = globals; locals = ls }; values = vs; results = rs; calls = cs })) e;
      less = turns;
      smaller = omega arith;
      fails = subst (λ ls. FailsFrom w turns (wanting consts globals tail (record f { locals = ls } ∷ rest))) e r;
    }
after_fill w (sort ∷ sorts) turns consts globals locals tail f rest r =
    let k = after_choice w turns consts globals (ALocal sort) (locals_wanted sorts ++ tail) (record f { locals = locals } ∷ rest) r in
    let h = take_local w k.later.less k.index sort consts globals locals (locals_wanted sorts ++ tail) f rest k.choice k.later.fails in
    let n = after_fill w sorts k.later.less consts globals (locals ++ h.value ∷ []) tail f rest h.fails in
    let le = n.smaller in let lt = k.later.smaller in
    let e = append_assoc locals (h.value ∷ []) n.values in
    record {
      values = h.value ∷ n.values;
      count = ap suc n.count;
      passes = λ vs rs cs. ap (λ b. option_and_then (fill sorts) (if b then Some (record { store = record { globals = globals; locals = locals ++ h.value ∷ [] }; values = n.values ++ vs; results = rs; calls = cs }) else None)) h.fits ∙ n.passes vs rs cs
          ∙ ap (λ ls. Some (record { store = record { globals = globals; locals = ls }; values = vs; results = rs; calls = cs })) e;
      less = n.less;
      smaller = omega arith;
      fails = subst (λ ls. FailsFrom w n.less (wanting consts globals tail (record f { locals = ls } ∷ rest))) e n.fails;
    }

-- ---- targets

pub record Placed (w : World) (turns : ℕ) (consts globals : List Value) (targets : List ℕ) (f : Frame) (rest : List Frame) : Type 0 where
  pub place : ℕ
  pub to : ℕ
  pub found : slice_get targets place ≡ Some to
  pub fails : FailsFrom w turns (jump w.prog w.bound (wanting consts globals (ATarget targets ∷ []) (f ∷ rest)) f rest to)

place_some : (w : World) (turns index : ℕ) (consts globals : List Value) (targets : List ℕ) (f : Frame) (rest : List Frame) (place : ℕ) (o : Option ℕ) → slice_get targets place ≡ o →
    FailsFrom w turns (go_to w.prog w.bound (wanting consts globals (ATarget targets ∷ []) (f ∷ rest)) index (f ∷ rest) o) → Placed w turns consts globals targets f rest
place_some w turns index consts globals targets f rest place None e r = absurd (is_over w turns (wanting consts globals (ATarget targets ∷ []) (f ∷ rest)) (BadChoice index) (bad index) r)
place_some w turns index consts globals targets f rest place (Some to) e r = record { place = place; to = to; found = e; fails = r }

take_place : (w : World) (turns index : ℕ) (consts globals : List Value) (targets : List ℕ) (f : Frame) (rest : List Frame) (choice : Choice) →
    FailsFrom w turns (take_choice w.prog w.bound (wanting consts globals (ATarget targets ∷ []) (f ∷ rest)) index (ATarget targets) [] choice) → Placed w turns consts globals targets f rest
take_place w turns index consts globals targets f rest (Val v) r = absurd (is_over w turns (wanting consts globals (ATarget targets ∷ []) (f ∷ rest)) (BadChoice index) (bad index) r)
take_place w turns index consts globals targets f rest (Go place) r = place_some w turns index consts globals targets f rest place (slice_get targets place) refl r

pub record PlacedLater (w : World) (turns : ℕ) (consts globals : List Value) (targets : List ℕ) (f : Frame) (rest : List Frame) : Type 0 where
  pub less : ℕ
  pub smaller : less < turns
  pub placed : Placed w less consts globals targets f rest

pub after_target : (w : World) (turns : ℕ) (consts globals : List Value) (targets : List ℕ) (f : Frame) (rest : List Frame) →
    FailsFrom w turns (wanting consts globals (ATarget targets ∷ []) (f ∷ rest)) → PlacedLater w turns consts globals targets f rest
after_target w turns consts globals targets f rest r =
    let t = after_choice w turns consts globals (ATarget targets) [] (f ∷ rest) r in
    record { less = t.later.less; smaller = t.later.smaller; placed = take_place w t.later.less t.index consts globals targets f rest t.choice t.later.fails }
