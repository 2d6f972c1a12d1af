-- Runs of the machine put together from their begin: a configuration leads to another on some choices.
use Rattle.std.proofs.Common.{◌≡◌, ℕ, suc, ◌+◌, true, if◌then◌else◌, List, [], ◌∷◌, ◌++◌, map, length, take, drop, sym, ◌∙◌, ap, refl, subst, append_assoc}
use Rattle.std.specs.Prelude.{Option, None, Some}
use Rattle.hy_val.specs.Values.{has_sort}
use Rattle.hy_val.specs.declared.expr.Var.{Var}
use Rattle.hy_val.specs.declared.sort.Sort.{Sort}
use Rattle.hy_val.specs.declared.value.Value.{Value}
use Rattle.hy_val.specs.Scope.{Scope, sort_of_target}
use Rattle.src_run.specs.declared.machine.Choice.{Choice}
use Rattle.src_run.specs.declared.machine.Choice.TheVariants.{Val}
use Rattle.src_run.specs.declared.machine.Status.TheVariants.{Going, Failed, BadChoice}
use Rattle.src_run.specs.Machine.{Config, Frame, Want, ALocal, AVariable, Comes, within, tick, take_choice, with_status, with_variable, locals_wanted}
use Rattle.hy_val.specs.Stores.{write}
use Rattle.src_run.specs.Sorted.{AreSorted}
use Rattle.src_run.proofs.Sorting.{turn_sorted, choice_sorted}
use Rattle.flat_prog.proofs.Capping.{and_then_some, choose_some}
use Rattle.flat_prog.specs.Local.{State, havoc, havoc_one, fill, fill_one}
use Rattle.hy_val.specs.Stores.{is_value_of}
use Rattle.extract_law.proofs.Failing.{World, going, wanting, variables_wanted}

-- the run from here on these choices fails so, whatever the index of the first
abbrev pub FailsOn : World → Config → List Choice → (proc number : ℕ) → Type 0
FailsOn w c xs proc number = (index : ℕ) → Comes w.prog w.bound index c xs (Failed proc number)

pub record Leads (w : World) (c : Config) (xs : List Choice) (d : Config) : Type 0 where
  pub fails : (rest : List Choice) (proc number : ℕ) → FailsOn w d rest proc number → FailsOn w c (xs ++ rest) proc number
  pub sorted : AreSorted w.prog c → AreSorted w.prog d

pub leads_none : (w : World) (c : Config) → Leads w c [] c
leads_none w c = record { fails = λ rest p n h. h; sorted = λ s. s }

pub leads_trans : (w : World) (c d e : Config) (xs ys : List Choice) → Leads w c xs d → Leads w d ys e → Leads w c (xs ++ ys) e
leads_trans w c d e xs ys a b = record {
  fails = λ rest p n h. subst (λ zs. FailsOn w c zs p n) (sym (append_assoc xs ys rest)) (a.fails (ys ++ rest) p n (b.fails rest p n h));
  sorted = λ s. b.sorted (a.sorted s);
}

pub leads_tick : (w : World) (consts globals : List Value) (frames : List Frame) (d : Config) → tick w.prog w.bound (going consts globals frames) ≡ d → Leads w (going consts globals frames) [] d
leads_tick w consts globals frames d is = record {
  fails = λ rest p n h index. (let r = h index in record { turns = suc r.turns; last = r.last; runs = ap (λ e. within r.turns w.prog w.bound index e rest) is ∙ r.runs; is = r.is });
  sorted = λ s. subst (AreSorted w.prog) is (turn_sorted w.prog w.fits w.bound 0 (going consts globals frames) Going [] s);
}

pub leads_choice : (w : World) (consts globals : List Value) (want : Want) (wants : List Want) (frames : List Frame) (x : Choice) (d : Config) →
    ((i : ℕ) → take_choice w.prog w.bound (wanting consts globals (want ∷ wants) frames) i want wants x ≡ d) → Leads w (wanting consts globals (want ∷ wants) frames) (x ∷ []) d
leads_choice w consts globals want wants frames x d is = record {
  fails = λ rest p n h index. (let r = h (index + 1) in record { turns = suc r.turns; last = r.last; runs = ap (λ e. within r.turns w.prog w.bound (index + 1) e rest) (is index) ∙ r.runs; is = r.is });
  sorted = λ s. subst (AreSorted w.prog) (is 0) (choice_sorted w.prog w.bound (wanting consts globals (want ∷ wants) frames) 0 want wants x refl s);
}

-- ---- new values of variables

pub record HavocOne (scope : Scope) (x : Var) (s t : State) : Type 0 where
  pub value : Value
  pub others : List Value
  pub values_are : s.values ≡ value ∷ others
  pub fits : is_value_of (sort_of_target scope x) value ≡ true
  pub state_is : t ≡ record s { store = write s.store x value; values = others }

havoc_first : (scope : Scope) (x : Var) (s t : State) (values : List Value) → s.values ≡ values → havoc_one scope x s values ≡ Some t → HavocOne scope x s t
havoc_first scope x s t [] e h = absurd cc
havoc_first scope x s t (v ∷ vs) e h = let c = choose_some (is_value_of (sort_of_target scope x) v) (record s { store = write s.store x v; values = vs }) t h in record { value = v; others = vs; values_are = e; fits = c.0; state_is = sym c.1 }

takes_variable : (w : World) (index : ℕ) (consts globals : List Value) (x : Var) (o : Option Sort) (wants : List Want) (frames : List Frame) (v : Value) → is_value_of o v ≡ true →
    take_choice w.prog w.bound (wanting consts globals (AVariable x o ∷ wants) frames) index (AVariable x o) wants (Val v) ≡ with_variable (wanting consts globals wants frames) x v frames
takes_variable w index consts globals x None wants frames v fits = absurd cc
takes_variable w index consts globals x (Some s) wants frames v fits =
    ap (λ b. if b then with_variable (wanting consts globals wants frames) x v frames else with_status (wanting consts globals (AVariable x (Some s) ∷ wants) frames) (BadChoice index)) fits

pub record HavocLeads (w : World) (scope : Scope) (xs : List Var) (consts : List Value) (s t : State) (f : Frame) (rest : List Frame) : Type 0 where
  pub values_are : t.values ≡ drop (length xs) s.values
  pub results_are : t.results ≡ s.results
  pub calls_are : t.calls ≡ s.calls
  pub leads : Leads w (wanting consts s.store.globals (variables_wanted scope xs) (record f { locals = s.store.locals } ∷ rest)) (map Val (take (length xs) s.values)) (going consts t.store.globals (record f { locals = t.store.locals } ∷ rest))

havoc_cons : (w : World) (scope : Scope) (x : Var) (xs : List Var) (consts : List Value) (s t : State) (f : Frame) (rest : List Frame) (v : Value) (vs : List Value) → s.values ≡ v ∷ vs → is_value_of (sort_of_target scope x) v ≡ true →
    HavocLeads w scope xs consts (record s { store = write s.store x v; values = vs }) t f rest → HavocLeads w scope (x ∷ xs) consts s t f rest
havoc_cons w scope x xs consts s t f rest v vs e fits n =
    let frames = record f { locals = s.store.locals } ∷ rest in
    let c = wanting consts s.store.globals (variables_wanted scope (x ∷ xs)) frames in
    let d = with_variable (wanting consts s.store.globals (variables_wanted scope xs) frames) x v frames in
    let z = going consts t.store.globals (record f { locals = t.store.locals } ∷ rest) in
    record {
      values_are = n.values_are ∙ ap (drop (length (x ∷ xs))) (sym e);
      results_are = n.results_are;
      calls_are = n.calls_are;
      leads = subst (λ zs. Leads w c (map Val (take (length (x ∷ xs)) zs)) z) (sym e)
          (leads_trans w c d z (Val v ∷ []) (map Val (take (length xs) vs))
          (leads_choice w consts s.store.globals (AVariable x (sort_of_target scope x)) (variables_wanted scope xs) frames (Val v) d (λ i. takes_variable w i consts s.store.globals x (sort_of_target scope x) (variables_wanted scope xs) frames v fits))
          n.leads);
    }

pub havoc_leads : (w : World) (scope : Scope) (xs : List Var) (consts : List Value) (s t : State) (f : Frame) (rest : List Frame) → havoc scope xs s ≡ Some t → HavocLeads w scope xs consts s t f rest
havoc_leads w scope [] consts s t f rest h =
    let e : s ≡ t = cc in subst (λ (u : State). HavocLeads w scope [] consts s u f rest) e (record { values_are = refl; results_are = refl; calls_are = refl; leads = leads_none w (going consts s.store.globals (record f { locals = s.store.locals } ∷ rest)) })
havoc_leads w scope (x ∷ xs) consts s t f rest h =
    let m = and_then_some (havoc scope xs) (havoc_one scope x s s.values) t h in
    let o = havoc_first scope x s m.0 s.values refl m.1 in
    havoc_cons w scope x xs consts s t f rest o.value o.others o.values_are o.fits
    (havoc_leads w scope xs consts (record s { store = write s.store x o.value; values = o.others }) t f rest (ap (havoc scope xs) (sym o.state_is) ∙ m.2))

-- ---- values of locals

pub record FillOne (sort : Sort) (s t : State) : Type 0 where
  pub value : Value
  pub others : List Value
  pub values_are : s.values ≡ value ∷ others
  pub fits : has_sort value sort ≡ true
  pub state_is : t ≡ record s { store = record { globals = s.store.globals; locals = s.store.locals ++ value ∷ [] }; values = others }

pub fill_first : (sort : Sort) (s t : State) (values : List Value) → s.values ≡ values → fill_one sort s values ≡ Some t → FillOne sort s t
fill_first sort s t [] e h = absurd cc
fill_first sort s t (v ∷ vs) e h =
    let c = choose_some (has_sort v sort) (record s { store = record { globals = s.store.globals; locals = s.store.locals ++ v ∷ [] }; values = vs }) t h in record { value = v; others = vs; values_are = e; fits = c.0; state_is = sym c.1 }

-- a value for each sort; what is asked for behind them stays
pub record FillLeads (w : World) (sorts : List Sort) (consts : List Value) (s t : State) (tail : List Want) (f : Frame) (rest : List Frame) : Type 0 where
  pub values_are : t.values ≡ drop (length sorts) s.values
  pub globals_are : t.store.globals ≡ s.store.globals
  pub results_are : t.results ≡ s.results
  pub calls_are : t.calls ≡ s.calls
  pub leads : Leads w (wanting consts s.store.globals (locals_wanted sorts ++ tail) (record f { locals = s.store.locals } ∷ rest)) (map Val (take (length sorts) s.values)) (wanting consts t.store.globals tail (record f { locals = t.store.locals } ∷ rest))

fill_cons : (w : World) (sort : Sort) (sorts : List Sort) (consts : List Value) (s t : State) (tail : List Want) (f : Frame) (rest : List Frame) (v : Value) (vs : List Value) → s.values ≡ v ∷ vs → has_sort v sort ≡ true →
    FillLeads w sorts consts (record s { store = record { globals = s.store.globals; locals = s.store.locals ++ v ∷ [] }; values = vs }) t tail f rest → FillLeads w (sort ∷ sorts) consts s t tail f rest
fill_cons w sort sorts consts s t tail f rest v vs e fits n =
    let frames = record f { locals = s.store.locals } ∷ rest in
    let c = wanting consts s.store.globals (locals_wanted (sort ∷ sorts) ++ tail) frames in
    let d = wanting consts s.store.globals (locals_wanted sorts ++ tail) (record f { locals = s.store.locals ++ v ∷ [] } ∷ rest) in
    let z = wanting consts t.store.globals tail (record f { locals = t.store.locals } ∷ rest) in
    record {
      values_are = n.values_are ∙ ap (drop (length (sort ∷ sorts))) (sym e);
      globals_are = n.globals_are;
      results_are = n.results_are;
      calls_are = n.calls_are;
      leads = subst (λ zs. Leads w c (map Val (take (length (sort ∷ sorts)) zs)) z) (sym e)
          (leads_trans w c d z (Val v ∷ []) (map Val (take (length sorts) vs))
          (leads_choice w consts s.store.globals (ALocal sort) (locals_wanted sorts ++ tail) frames (Val v) d (λ i. ap (λ b. if b then d else with_status c (BadChoice i)) fits))
          n.leads);
    }

pub fill_leads : (w : World) (sorts : List Sort) (consts : List Value) (s t : State) (tail : List Want) (f : Frame) (rest : List Frame) → fill sorts s ≡ Some t → FillLeads w sorts consts s t tail f rest
fill_leads w [] consts s t tail f rest h =
    let e : s ≡ t = cc in subst (λ (u : State). FillLeads w [] consts s u tail f rest) e (record { values_are = refl; globals_are = refl; results_are = refl; calls_are = refl; leads = leads_none w (wanting consts s.store.globals tail (record f { locals = s.store.locals } ∷ rest)) })
fill_leads w (sort ∷ sorts) consts s t tail f rest h =
    let m = and_then_some (fill sorts) (fill_one sort s s.values) t h in
    let o = fill_first sort s m.0 s.values refl m.1 in
    fill_cons w sort sorts consts s t tail f rest o.value o.others o.values_are o.fits
    (fill_leads w sorts consts (record s { store = record { globals = s.store.globals; locals = s.store.locals ++ o.value ∷ [] }; values = o.others }) t tail f rest (ap (fill sorts) (sym o.state_is) ∙ m.2))
