-- From what a run settles of a formula's variables to a plan: choices with which, whatever comes back elsewhere, the formula says the run.
use Rattle.std.proofs.Common.{◌≡◌, ℕ, zero, suc, ◌<◌, ◌≤◌, Bool, true, false, ◌||◌, not, List, [], ◌∷◌, ◌++◌, length, map, refl, sym, ap, ◌∙◌, subst, arith}
use Rattle.std.specs.Prelude.{Option, None, Some, slice_get, slice_index, nat_eq, IsTrue}
use Rattle.std.proofs.lemmas.Bool.{and_parts, and_from}
use Rattle.std.proofs.lemmas.Bool.Decides.{nat_tests}
use Rattle.hy_val.specs.Values.{at, is_on, has_sort}
use Rattle.hy_val.specs.declared.atom.AtomKind.TheVariants.{Bool as BoolAtom, Bv as BvAtom}
use Rattle.hy_val.specs.declared.sort.Sort.{Sort}
use Rattle.hy_val.specs.declared.value.Value.{Value}
use Rattle.hy_val.specs.declared.value.Value.TheVariants.{Atom as AtomValue, Map as MapValue}
use Rattle.hy_term.specs.Laws.{EachNodeHasItsValue, EachValueHasItsSort}
use Rattle.hy_term.specs.Meaning.{values, value, fits, node_fits}
use Rattle.hy_term.specs.declared.node.TermNode.{TermNode}
use Rattle.hy_term.specs.declared.node.TermNode.TheVariants.{Lit, ZeroMap, Variable, Unary, Binary, If, Select, Store}
use Rattle.flat_prog.specs.Local.{Request, Result, Ended, Broken, Track, can_come_back}
use Rattle.flat_prog.specs.Once.{has_number, numbers_differ}
use Rattle.flat_prog.specs.Passing.{AllFit}
use Rattle.flat_prog.specs.Program.{FlatProgram}
use Rattle.flat_prog.specs.Shape.{IsFlat}
use Rattle.flat_prog.specs.Sites.{sites_passed}
use Rattle.vc_gen.specs.Emit.{AllBehind}
use Rattle.vc_gen.specs.Items.{bool_sort}
use Rattle.tree_terms.specs.declared.linked.Role.{Role}
use Rattle.tree_terms.specs.declared.linked.Role.TheVariants.{Const, Global, In, Failed, Out, After, Own}
use Rattle.tree_terms.specs.declared.linked.SiteTerms.{SiteTerms}
use Rattle.tree_terms.specs.declared.linked.Template.{Template as Formula}
use Rattle.proc_template.specs.Numbered.{Ascends, fails_node, is_passed}
use Rattle.proc_template.specs.Shape.{IsShaped}
use Rattle.proc_template.specs.Template.{IsTemplateOf}
use Rattle.proc_template.specs.Told.{RolesAreTold, RoleIs}
use Rattle.tree_words.specs.Compose.{Returned, Right, SitesAre, Bits, Plan}
use Rattle.tree_words.specs.Filling.{if_own, own_node, own_nodes, comes_back}
use Rattle.tree_words.specs.Linking.{role_or, proc_by}
use Rattle.tree_words.specs.Reading.{track_by}
use Rattle.tree_words.specs.Template.{Template, site_by, view_by, view_of, by_role, bool_value, viewer_of}
use Rattle.tree_words.specs.View.{call_at}
use Rattle.template_law.proofs.PlanLow.{lows_same}
use Rattle.template_law.proofs.PlanRows.{site_of}
use Rattle.template_law.proofs.PlanRuns.{AllEnded}
use Rattle.template_law.proofs.PlanSites.{SameEnd, ended_at, failing_at, procs_said}
use Rattle.template_law.proofs.PlanSteps.{BackFits, goes_through, differ_apart, has_append}

-- a formula, as contracts of views see it
abbrev pub formula_of : Formula → Template
formula_of t = record {
  nodes = t.nodes;
  role = λ n. role_or (slice_get t.roles n);
  track = track_by (Some t);
  sites = t.sites;
  ends = t.ends;
  fails = t.fails;
  outs = t.outs;
  globals = t.globals;
}

-- the values of its variables, from a call, own choices and what comes back
abbrev pub put_by : Formula → List Value → Request → (ℕ → Value) → (ℕ → Returned) → ℕ → Value
put_by t vs call own ret n = by_role vs call own ret n (role_or (slice_get t.roles n))

-- under this assignment the formula says the run
pub record Told (t : Formula) (b : ℕ → Value) (passed : List ℕ) (calls : List Request) (results : List Result) (result : Result) (track : Track) : Type 0 where
  pub says : SitesAre (view_of (formula_of t) b) passed calls results
  pub on : (i : ℕ) → is_passed (values b t.nodes) (slice_get t.sites i) ≡ has_number passed i
  pub bits : Bits (view_of (formula_of t) b) result
  pub track_is : (view_of (formula_of t) b).track ≡ track
  pub rising : Ascends (map (λ (i : ℕ). fails_node (slice_get t.sites i)) passed)

-- why a variable has to have the value that is settled: it is an old one, or an own choice, or of a call whose callee ended, or says that the callee fails
pub data Why (t : Formula) (k : ℕ) (front rest : List ℕ) (lasts : List Result) (n : ℕ) : Type 0 where
  of_old : n < k → Why t k front rest lasts n
  of_own : slice_get t.roles n ≡ Some Own → Why t k front rest lasts n
  of_call : (y : ℕ) (sort : Sort) (r : Role) (i : ℕ) → slice_get t.nodes y ≡ Some (Variable n sort) → slice_get t.roles n ≡ Some r → site_of r ≡ Some i → has_number front i ≡ true → Why t k front rest lasts n
  of_failing : (y : ℕ) (sort : Sort) (i x z : ℕ) → slice_get t.nodes y ≡ Some (Variable n sort) → slice_get t.roles n ≡ Some (Failed i) → rest ≡ i ∷ [] → lasts ≡ Broken x z ∷ [] → Why t k front rest lasts n

-- ---- small things

bool_is : (v : Value) → IsTrue (has_sort v bool_sort) → v ≡ bool_value (is_on v)
bool_is (AtomValue (BoolAtom b)) h = refl
bool_is (AtomValue (BvAtom w)) h = cc
bool_is (MapValue m) h = cc

at_mapped : (f : ℕ → Value) (xs : List ℕ) (k : ℕ) → k < length xs → at (map f xs) k ≡ f (slice_index xs k)
at_mapped f [] k l = absurd (omega (arith, l))
at_mapped f (x ∷ xs) zero l = refl
at_mapped f (x ∷ xs) (suc k) l = at_mapped f xs k (omega (arith, l))

pub own_from : (role : ℕ → Role) (c : ℕ → Value) (nodes : List TermNode) → IsTrue (fits c nodes) → own_nodes role c nodes ≡ true
own_from role c [] h = refl
own_from role c (node ∷ nodes) h =
    let two = and_parts (node_fits c node) (fits c nodes) h in
    and_from (own_node role c node) (own_nodes role c nodes) (here node two.0) (own_from role c nodes two.1)
  where
    by : (r : Role) (b : Bool) → b ≡ true → if_own r b ≡ true
    by (Const k) b e = refl
    by (Global k) b e = refl
    by (In k) b e = refl
    by (Failed i) b e = refl
    by (Out i k) b e = refl
    by (After i k) b e = refl
    by Own b e = e

    here : (x : TermNode) → node_fits c x ≡ true → own_node role c x ≡ true
    here (Lit a) k = refl
    here (ZeroMap i e) k = refl
    here (Variable n sort) k = by (role n) (has_sort (c n) sort) k
    here (Unary op x) k = refl
    here (Binary op l r) k = refl
    here (If t o p) k = refl
    here (Select m i) k = refl
    here (Store m i v) k = refl

pub failing_comes : (flat : FlatProgram) (o : Option SiteTerms) (ret : Returned) → comes_back flat o ret ≡ true → comes_back flat o (record ret { fails = true }) ≡ true
failing_comes flat None ret h = refl
failing_comes flat (Some s) ret h = h

proc_said : (vs : List Value) (o : Option SiteTerms) → (site_by vs o).call.proc ≡ proc_by o
proc_said vs None = refl
proc_said vs (Some s) = refl

on_said : (vs : List Value) (o : Option SiteTerms) → (site_by vs o).on ≡ is_passed vs o
on_said vs None = refl
on_said vs (Some s) = refl

-- what comes back fits, as the run's callees handed it back
back_fits : (flat : FlatProgram) (t : Template) (vs : List Value) (passed : List ℕ) (calls : List Request) (results : List Result) → length passed ≡ length calls → SitesAre (view_by t vs) passed calls results → AllFit flat calls results →
    BackFits (λ i ret. comes_back flat (slice_get t.sites i) ret ≡ true) passed results
back_fits flat t vs [] calls results n said fit = tt
back_fits flat t vs (i ∷ is) calls [] n said fit = tt
back_fits flat t vs (i ∷ is) [] (r ∷ rs) n said fit = absurd (omega (arith, n))
back_fits flat t vs (i ∷ is) (c ∷ cs) (Ended os gs ∷ rs) n said fit =
    (by (slice_get t.sites i) (sym (ap (λ (x : Request). x.proc) said.0) ∙ proc_said vs (slice_get t.sites i)), back_fits flat t vs is cs rs (omega (arith, n)) said.2 fit.1)
  where
    by : (o : Option SiteTerms) → c.proc ≡ proc_by o → comes_back flat o (record { fails = false; outs = os; globals = gs }) ≡ true
    by None e = refl
    by (Some s) e = subst (λ (p : ℕ). can_come_back flat p os gs ≡ true) e fit.0
back_fits flat t vs (i ∷ is) (c ∷ cs) (Broken p m ∷ rs) n said fit = back_fits flat t vs is cs rs (omega (arith, n)) said.2 fit.1

same_number : (i j : ℕ) → nat_eq i j ≡ true → i ≡ j
same_number i j h = grind (arith, nat_tests)

-- in numbers that rise none of the later ones is below
behind_low : (f : ℕ → ℕ) (m : ℕ) (is : List ℕ) (j : ℕ) → AllBehind m (map f is) → has_number is j ≡ true → m < f j
behind_low f m [] j h k = cc
behind_low f m (i ∷ is) j h k = by (nat_eq i j) refl k (behind_low f m is j h.1)
  where
    by : (b : Bool) → nat_eq i j ≡ b → (b || has_number is j) ≡ true → (has_number is j ≡ true → m < f j) → m < f j
    by true e k more = subst (λ (x : ℕ). m < f x) (same_number i j e) h.0
    by false e k more = more k

rising_low : (f : ℕ → ℕ) (done : List ℕ) (i : ℕ) (is : List ℕ) (j : ℕ) → Ascends (map f (done ++ i ∷ is)) → has_number (i ∷ is) j ≡ true → f i ≤ f j
rising_low f (d ∷ done) i is j h k = rising_low f done i is j h.1 k
rising_low f [] i is j h k = by (nat_eq i j) refl k
  where
    by : (b : Bool) → nat_eq i j ≡ b → (b || has_number is j) ≡ true → f i ≤ f j
    by true e k = let s = ap f (same_number i j e) in omega (arith, s)
    by false e k = let l = behind_low f (f i) is j h.0 k in omega (arith, l)

abbrev request_with : ℕ → List Value → List Value → Request
request_with p gs xs = record { proc = p; globals = gs; args = xs }

same_role : (o : Option Role) (r s : Role) → o ≡ Some r → o ≡ Some s → r ≡ s
same_role o r s e f = let g : Some r ≡ Some s = sym e ∙ f in cc

-- ---- plans

module _ (node_value : EachNodeHasItsValue) (keep : EachValueHasItsSort) (roles : RolesAreTold) (flat : FlatProgram) (limits : List (List Bool)) (proc : ℕ) (t : Formula) (is : IsFlat flat) (h : IsTemplateOf flat limits proc t) (shaped : IsShaped flat proc t)
    (vs : List Value) (call : Request) (track : Track) (results : List Result) (calls : List Request) (result : Result) (fit_by : (own : ℕ → Value) (ret : ℕ → Returned) → own_nodes (λ n. role_or (slice_get t.roles n)) own t.nodes ≡ true → ((i : ℕ) → comes_back flat (slice_get t.sites i) (ret i) ≡ true) → IsTrue (fits (put_by t vs call own ret) t.nodes))
    (k : ℕ) (front rest more : List ℕ) (ended lasts : List Result) (along : sites_passed h.q.blocks track.path ≡ (front ++ rest) ++ more) (differ : IsTrue (numbers_differ (sites_passed h.q.blocks track.path)))
    (results_are : results ≡ ended ++ lasts) (all : AllEnded ended) (fronts : length front ≡ length ended) (one_each : length (front ++ rest) ≡ length calls) (each : length (front ++ rest) ≡ length results) (fit : AllFit flat calls results)
    (own : ℕ → Value) (own_fit : IsTrue (fits own t.nodes)) (old_same : (n : ℕ) → n < k → (ret : ℕ → Returned) → put_by t vs call own ret n ≡ own n)
    (told : (b : ℕ → Value) → IsTrue (fits b t.nodes) → ((n : ℕ) → Why t k front rest lasts n → b n ≡ own n) → Told t b (front ++ rest) calls results result track) where
  own_told : Told t own (front ++ rest) calls results result track
  own_told = told own own_fit (λ n w. refl)

  variable_value : (y n : ℕ) (sort : Sort) → slice_get t.nodes y ≡ Some (Variable n sort) → value own t.nodes y ≡ own n
  variable_value y n sort is_y = node_value own t.nodes y (Variable n sort) shaped.sorted is_y

  -- where the callee ended there, a variable of a call is what comes back
  of_site : (ret : ℕ → Returned) (y n : ℕ) (sort : Sort) (r : Role) (i : ℕ) → slice_get t.nodes y ≡ Some (Variable n sort) → RoleIs flat proc t y sort r → site_of r ≡ Some i → SameEnd ((view_of (formula_of t) own).site i) (ret i) →
      by_role vs call own ret n r ≡ own n
  of_site ret y n sort (Const c) i is_y role at_i same = cc
  of_site ret y n sort (Global c) i is_y role at_i same = cc
  of_site ret y n sort (In c) i is_y role at_i same = cc
  of_site ret y n sort Own i is_y role at_i same = cc
  of_site ret y n sort (Failed j) i is_y role at_i same =
      let e : j ≡ i = cc in
      let nodes = values own t.nodes in
      let s = role.site in
      let at_site : slice_get t.sites i ≡ Some s = ap (slice_get t.sites) (sym e) ∙ role.site_is in
      let value_is : at nodes s.fails ≡ own n = ap (at nodes) role.node_is ∙ variable_value y n sort is_y in
      let off : is_on (at nodes s.fails) ≡ false = sym (ap (λ (o : Option SiteTerms). (site_by nodes o).fails) at_site) ∙ same.off in
      let sorted = keep own t.nodes s.fails bool_sort own_fit (shaped.sites j s role.site_is).fails in
      ap (λ x. bool_value (ret x).fails) e ∙ ap bool_value same.ends ∙ ap bool_value (sym off) ∙ sym (bool_is (at nodes s.fails) sorted) ∙ value_is
  of_site ret y n sort (Out j c) i is_y role at_i same =
      let e : j ≡ i = cc in
      let nodes = values own t.nodes in
      let s = role.site in
      let at_site : slice_get t.sites i ≡ Some s = ap (slice_get t.sites) (sym e) ∙ role.site_is in
      let outs : map (at nodes) s.outs ≡ (ret i).outs = sym (ap (λ (o : Option SiteTerms). (site_by nodes o).outs) at_site) ∙ same.outs in
      ap (λ x. at (ret x).outs c) e ∙ ap (λ xs. at xs c) (sym outs) ∙ at_mapped (at nodes) s.outs c role.within ∙ ap (at nodes) role.node_is ∙ variable_value y n sort is_y
  of_site ret y n sort (After j c) i is_y role at_i same =
      let e : j ≡ i = cc in
      let nodes = values own t.nodes in
      let s = role.site in
      let at_site : slice_get t.sites i ≡ Some s = ap (slice_get t.sites) (sym e) ∙ role.site_is in
      let globals : map (at nodes) s.after ≡ (ret i).globals = sym (ap (λ (o : Option SiteTerms). (site_by nodes o).globals) at_site) ∙ same.globals in
      ap (λ x. at (ret x).globals c) e ∙ ap (λ xs. at xs c) (sym globals) ∙ at_mapped (at nodes) s.after c role.within ∙ ap (at nodes) role.node_is ∙ variable_value y n sort is_y

  of_broken : (ret : ℕ → Returned) (y n : ℕ) (sort : Sort) (i : ℕ) → slice_get t.nodes y ≡ Some (Variable n sort) → RoleIs flat proc t y sort (Failed i) → ((view_of (formula_of t) own).site i).fails ≡ true → (ret i).fails ≡ true → by_role vs call own ret n (Failed i) ≡ own n
  of_broken ret y n sort i is_y role on back =
      let nodes = values own t.nodes in
      let s = role.site in
      let value_is : at nodes s.fails ≡ own n = ap (at nodes) role.node_is ∙ variable_value y n sort is_y in
      let bit : is_on (at nodes s.fails) ≡ true = sym (ap (λ (o : Option SiteTerms). (site_by nodes o).fails) role.site_is) ∙ on in
      let sorted = keep own t.nodes s.fails bool_sort own_fit (shaped.sites i s role.site_is).fails in
      ap bool_value back ∙ ap bool_value (sym bit) ∙ sym (bool_is (at nodes s.fails) sorted) ∙ value_is

  role_at : (y n : ℕ) (sort : Sort) (r : Role) → slice_get t.nodes y ≡ Some (Variable n sort) → slice_get t.roles n ≡ Some r → RoleIs flat proc t y sort r
  role_at y n sort r is_y is_r =
      let z = roles flat limits proc t y n sort is h is_y in
      subst (λ (x : Role). RoleIs flat proc t y sort x) (same_role (slice_get t.roles n) z.0 r z.1 is_r) z.2

  same_by : (ret : ℕ → Returned) → Right ret (front ++ rest) results → (n : ℕ) → Why t k front rest lasts n → put_by t vs call own ret n ≡ own n
  same_by ret right n (of_old l) = old_same n l ret
  same_by ret right n (of_own e) = ap (λ o. by_role vs call own ret n (role_or o)) e
  same_by ret right n (of_call y sort r i is_y is_r at_i in_front) =
      let said : SitesAre (view_of (formula_of t) own) (front ++ rest) calls (ended ++ lasts) = subst (λ (x : List Result). SitesAre (view_of (formula_of t) own) (front ++ rest) calls x) results_are own_told.says in
      let rights : Right ret (front ++ rest) (ended ++ lasts) = subst (λ (x : List Result). Right ret (front ++ rest) x) results_are right in
      ap (λ o. by_role vs call own ret n (role_or o)) is_r
      ∙ of_site ret y n sort r i is_y (role_at y n sort r is_y is_r) at_i (ended_at (view_of (formula_of t) own) ret front rest calls ended lasts fronts one_each all said rights i in_front)
  same_by ret right n (of_failing y sort i x z is_y is_r e1 e2) =
      let said1 : SitesAre (view_of (formula_of t) own) (front ++ rest) calls (ended ++ lasts) = subst (λ (r : List Result). SitesAre (view_of (formula_of t) own) (front ++ rest) calls r) results_are own_told.says in
      let said2 : SitesAre (view_of (formula_of t) own) (front ++ i ∷ []) calls (ended ++ lasts) = subst (λ (js : List ℕ). SitesAre (view_of (formula_of t) own) (front ++ js) calls (ended ++ lasts)) e1 said1 in
      let said3 : SitesAre (view_of (formula_of t) own) (front ++ i ∷ []) calls (ended ++ Broken x z ∷ []) = subst (λ (r : List Result). SitesAre (view_of (formula_of t) own) (front ++ i ∷ []) calls (ended ++ r)) e2 said2 in
      let right1 : Right ret (front ++ rest) (ended ++ lasts) = subst (λ (r : List Result). Right ret (front ++ rest) r) results_are right in
      let right2 : Right ret (front ++ i ∷ []) (ended ++ lasts) = subst (λ (js : List ℕ). Right ret (front ++ js) (ended ++ lasts)) e1 right1 in
      let right3 : Right ret (front ++ i ∷ []) (ended ++ Broken x z ∷ []) = subst (λ (r : List Result). Right ret (front ++ i ∷ []) (ended ++ r)) e2 right2 in
      let n2 : length (front ++ i ∷ []) ≡ length calls = sym (ap (λ (js : List ℕ). length (front ++ js)) e1) ∙ one_each in
      let bits = failing_at (view_of (formula_of t) own) ret front i calls ended x z fronts n2 said3 right3 in
      ap (λ o. by_role vs call own ret n (role_or o)) is_r ∙ of_broken ret y n sort i is_y (role_at y n sort (Failed i) is_y is_r) bits.0 bits.1

  right_told : (ret : ℕ → Returned) → ((i : ℕ) → comes_back flat (slice_get t.sites i) (ret i) ≡ true) → Right ret (front ++ rest) results → Told t (put_by t vs call own ret) (front ++ rest) calls results result track
  right_told ret f right = told (put_by t vs call own ret) (fit_by own ret (own_from (λ n. role_or (slice_get t.roles n)) own t.nodes own_fit) f) (same_by ret right)

  -- ---- what a site asks for

  abbrev fails_at : ℕ → ℕ
  fails_at i = fails_node (slice_get t.sites i)

  site_low : (done : List ℕ) (i : ℕ) (js : List ℕ) (s : SiteTerms) → front ++ rest ≡ done ++ i ∷ js → slice_get t.sites i ≡ Some s → (j y : ℕ) (site : SiteTerms) → slice_get t.sites j ≡ Some site → site.fails ≤ y → y < s.fails → has_number (i ∷ js) j ≡ true → ⊥
  site_low done i js s e at_i j y site at_j low high has =
      let rising : Ascends (map fails_at (done ++ i ∷ js)) = subst (λ (x : List ℕ). Ascends (map fails_at x)) e own_told.rising in
      let l : fails_node (slice_get t.sites i) ≤ fails_node (slice_get t.sites j) = rising_low fails_at done i js j rising has in
      let a = ap fails_node at_i in
      let b = ap fails_node at_j in
      omega (arith, l, a, b, low, high)

  role_low : (done : List ℕ) (i : ℕ) (js : List ℕ) (s : SiteTerms) → front ++ rest ≡ done ++ i ∷ js → slice_get t.sites i ≡ Some s → (a b : ℕ → Returned) → ((j : ℕ) → has_number (i ∷ js) j ≡ false → a j ≡ b j) →
      (y n : ℕ) (sort : Sort) (r : Role) → y < s.fails → RoleIs flat proc t y sort r → by_role vs call own a n r ≡ by_role vs call own b n r
  role_low done i js s e at_i a b same y n sort (Const c) high role = refl
  role_low done i js s e at_i a b same y n sort (Global c) high role = refl
  role_low done i js s e at_i a b same y n sort (In c) high role = refl
  role_low done i js s e at_i a b same y n sort Own high role = refl
  role_low done i js s e at_i a b same y n sort (Failed j) high role =
      let node_is = role.node_is in
      ap (λ (x : Returned). bool_value x.fails) (same j (off_if (has_number (i ∷ js) j) (site_low done i js s e at_i j y role.site role.site_is (omega (arith, node_is)) high)))
    where
      off_if : (c : Bool) → (c ≡ true → ⊥) → c ≡ false
      off_if true f = absurd (f refl)
      off_if false f = refl
  role_low done i js s e at_i a b same y n sort (Out j c) high role =
      let behind = role.behind in
      ap (λ (x : Returned). at x.outs c) (same j (off_if (has_number (i ∷ js) j) (site_low done i js s e at_i j y role.site role.site_is (omega (arith, behind)) high)))
    where
      off_if : (c : Bool) → (c ≡ true → ⊥) → c ≡ false
      off_if true f = absurd (f refl)
      off_if false f = refl
  role_low done i js s e at_i a b same y n sort (After j c) high role =
      let behind = role.behind in
      ap (λ (x : Returned). at x.globals c) (same j (off_if (has_number (i ∷ js) j) (site_low done i js s e at_i j y role.site role.site_is (omega (arith, behind)) high)))
    where
      off_if : (c : Bool) → (c ≡ true → ⊥) → c ≡ false
      off_if true f = absurd (f refl)
      off_if false f = refl

  low : (done : List ℕ) (i : ℕ) (js : List ℕ) → front ++ rest ≡ done ++ i ∷ js → (a b : ℕ → Returned) → ((j : ℕ) → has_number (i ∷ js) j ≡ false → a j ≡ b j) →
      call_at (viewer_of vs (formula_of t) call own a) i ≡ call_at (viewer_of vs (formula_of t) call own b) i
  low done i js e a b same = by (slice_get t.sites i) refl
    where
      by : (o : Option SiteTerms) → slice_get t.sites i ≡ o → (site_by (values (put_by t vs call own a) t.nodes) o).call ≡ (site_by (values (put_by t vs call own b) t.nodes) o).call
      by None at_i = refl
      by (Some s) at_i =
          let shape = shaped.sites i s at_i in
          let one : (y n : ℕ) (sort : Sort) → y < s.fails → slice_get t.nodes y ≡ Some (Variable n sort) → put_by t vs call own a n ≡ put_by t vs call own b n = λ y n sort high is_y.
          let z = roles flat limits proc t y n sort is h is_y in
          ap (λ o. by_role vs call own a n (role_or o)) z.1 ∙ role_low done i js s e at_i a b same y n sort z.0 high z.2 ∙ ap (λ o. by_role vs call own b n (role_or o)) (sym z.1) in
          ap (λ (gs : List Value). request_with s.proc gs (map (at (values (put_by t vs call own a) t.nodes)) s.args)) (lows_same (put_by t vs call own a) (put_by t vs call own b) t.nodes s.fails one s.before shape.before)
          ∙ ap (λ (xs : List Value). request_with s.proc (map (at (values (put_by t vs call own b) t.nodes)) s.before) xs) (lows_same (put_by t vs call own a) (put_by t vs call own b) t.nodes s.fails one s.args shape.args)

  apart_of : (ps qs : List ℕ) → numbers_differ (ps ++ qs) ≡ true → (i : ℕ) → has_number qs i ≡ true → has_number ps i ≡ false
  apart_of ps qs d i has = by (has_number ps i) refl
    where
      clash : false ≡ true → ⊥
      clash e = cc

      by : (b : Bool) → has_number ps i ≡ b → has_number ps i ≡ false
      by true e = let z = (differ_apart ps qs d).apart i e in absurd (clash (sym z ∙ has))
      by false e = e

  differ_front : (ps qs : List ℕ) → numbers_differ (ps ++ qs) ≡ true → numbers_differ ps ≡ true
  differ_front [] qs d = refl
  differ_front (p ∷ ps) qs d =
      let two = and_parts (not (has_number (ps ++ qs) p)) (numbers_differ (ps ++ qs)) d in
      let off = not_has ps qs p two.0 in
      and_from (not (has_number ps p)) (numbers_differ ps) off (differ_front ps qs two.1)
    where
      not_has : (ps qs : List ℕ) (p : ℕ) → not (has_number (ps ++ qs) p) ≡ true → not (has_number ps p) ≡ true
      not_has ps qs p e = by (has_number ps p) (has_number qs p) (sym (ap not (has_append ps qs p)) ∙ e)
        where
          by : (a b : Bool) → not (a || b) ≡ true → not a ≡ true
          by true b k = k
          by false b k = refl

  pub plan : Plan (viewer_of vs (formula_of t)) (λ own. own_nodes (λ n. role_or (slice_get t.roles n)) own t.nodes ≡ true) (λ i ret. comes_back flat (slice_get t.sites i) ret ≡ true) (λ i. proc_by (slice_get t.sites i)) h.q call track results calls result
  plan =
      let all_differ : numbers_differ ((front ++ rest) ++ more) ≡ true = sym (ap numbers_differ along) ∙ differ in
      let back = back_fits flat (formula_of t) (values own t.nodes) (front ++ rest) calls results one_each own_told.says fit in
      record {
        own = own;
        fit = own_from (λ n. role_or (slice_get t.roles n)) own t.nodes own_fit;
        passed = front ++ rest;
        more = more;
        along = along;
        apart = apart_of (front ++ rest) more all_differ;
        differ = differ_front (front ++ rest) more all_differ;
        procs = procs_said (view_of (formula_of t) own) (front ++ rest) calls results one_each each own_told.says ∙ map_same (front ++ rest);
        steps = goes_through (viewer_of vs (formula_of t) call own) (λ i ret. comes_back flat (slice_get t.sites i) ret ≡ true) (λ i ret f. failing_comes flat (slice_get t.sites i) ret f) (front ++ rest) calls results
            (differ_front (front ++ rest) more all_differ) back (λ ret f right. (right_told ret f right).says) low one_each each;
        sites = λ ret f right i. on_said (values (put_by t vs call own ret) t.nodes) (slice_get t.sites i) ∙ (right_told ret f right).on i;
        bits = λ ret f right. (right_told ret f right).bits;
        track_is = λ ret f right. (right_told ret f right).track_is;
        says = λ ret f right. (right_told ret f right).says;
      }
    where
      map_same : (js : List ℕ) → map (λ (i : ℕ). ((view_of (formula_of t) own).site i).call.proc) js ≡ map (λ (i : ℕ). proc_by (slice_get t.sites i)) js
      map_same [] = refl
      map_same (j ∷ js) =
          ap (λ p. p ∷ map (λ (i : ℕ). ((view_of (formula_of t) own).site i).call.proc) js) (proc_said (values own t.nodes) (slice_get t.sites j)) ∙ ap (λ ps. proc_by (slice_get t.sites j) ∷ ps) (map_same js)
