-- The formulas of procedures are sound: where a bit says that the run is over, there is such a run.
use Rattle.std.proofs.Common.{◌≡◌, ℕ, ◌+◌, ◌<◌, Bool, true, false, not, List, [], ◌∷◌, ◌++◌, map, length, slice_get, Option, None, Some, refl, sym, ap, ◌∙◌, subst, inl, inr, ◌⊎◌, ⊎_elim, arith, true≢false}
use Rattle.std.specs.Prelude.{IsTrue, nat_eq, ◌&&◌, if◌then◌else◌}
use Rattle.std.proofs.lemmas.Bool.{and_parts, eqb-true, or_cases, or_right}
use Rattle.hy_val.specs.declared.value.Value.{Value}
use Rattle.hy_val.specs.Values.{at, is_on}
use Rattle.hy_term.specs.Meaning.{fits, values}
use Rattle.hy_term.specs.Variables.{reads}
use Rattle.flat_prog.specs.Changes.{Keeps, MayBe}
use Rattle.flat_prog.specs.Limits.{AreLimits}
use Rattle.flat_prog.specs.Local.{Begins, Broken, Ended, LocalRun, Request, Result, Track, have_sorts}
use Rattle.flat_prog.specs.Once.{has_number}
use Rattle.flat_prog.specs.Program.{FlatProgram}
use Rattle.flat_prog.specs.Shape.{IsFlat}
use Rattle.flat_prog.specs.Sites.{sites_passed}
use Rattle.flat_prog.proofs.Numbers.{number_here}
use Rattle.passive_form.specs.declared.Passive.{Passive}
use Rattle.passive_form.specs.WellSorted.{ins_at as passive_ins}
use Rattle.proc_template.specs.Numbered.{does_fail, is_passed, request_by, result_by}
use Rattle.proc_template.specs.Runs.{SaysRun, call_at, consts_at, track_at}
use Rattle.proc_template.specs.Template.{IsTemplateOf}
use Rattle.proc_template.specs.Told.{AreToldFirst, StandsFor}
use Rattle.template_law.specs.Formulas.{AreChanges}
use Rattle.template_law.specs.Sounds.{SoundPartsAreMet}
use Rattle.template_law.proofs.Fitting.{have_count, map_same_on, reads_are}
use Rattle.template_law.proofs.Formula.{CallFits, Laws, a, fails_is, fits_by_role, formula_of, free_may, globals_are, outs_are, role_in, same_ins, vals}
use Rattle.tree_terms.specs.Linked.{nodes_by, template_of}
use Rattle.tree_terms.specs.declared.linked.Role.{Role}
use Rattle.tree_terms.specs.declared.linked.Role.TheVariants.{Const, Global, In}
use Rattle.tree_terms.specs.declared.linked.SiteTerms.{SiteTerms}
use Rattle.tree_terms.specs.declared.linked.Template.{Template as Formula}
use Rattle.tree_words.specs.Compose.{Returned}
use Rattle.tree_words.specs.Filling.{comes_back, free_fits, own_fits, own_nodes, request_fits}
use Rattle.tree_words.specs.Linking.{is_node_of, number, proc_of, role_or, sites_by}
use Rattle.tree_words.specs.Reading.{free_by, track_by}
use Rattle.tree_words.specs.Stands.{args_fit, ins_at}
use Rattle.tree_words.specs.Template.{by_role, site_by, viewer_of}
use Rattle.tree_words.specs.View.{HasRun, IsSound, NodeView, SiteView, over_in}
use Rattle.tree_words.specs.View as view_spec

-- one of the numbers of a list passes a test, or none does
search_list : (f : ℕ → Bool) (l : List ℕ) → ((i : ℕ) × (has_number l i ≡ true) × (f i ≡ true)) ⊎ ((i : ℕ) → has_number l i ≡ true → f i ≡ false)
search_list f [] = inr (λ i is. absurd (true≢false (sym is)))
search_list f (n ∷ l) = by_first (f n) refl (search_list f l)
  where
    by_first : (b : Bool) → f n ≡ b → (((i : ℕ) × (has_number l i ≡ true) × (f i ≡ true)) ⊎ ((i : ℕ) → has_number l i ≡ true → f i ≡ false))
        → ((i : ℕ) × (has_number (n ∷ l) i ≡ true) × (f i ≡ true)) ⊎ ((i : ℕ) → has_number (n ∷ l) i ≡ true → f i ≡ false)
    by_first true e more = inl (n, number_here n l, e)
    by_first false e (inl (i, is, h)) = inl (i, or_right (nat_eq n i) (has_number l i) is, h)
    by_first false e (inr h) = inr (λ i is. ⊎_elim (λ same. subst (λ (m : ℕ). f m ≡ false) (eqb-true n i same) e) (λ more. h i more) (or_cases (nat_eq n i) (has_number l i) is))

-- ---- a site by its words here and there

passed_same : (vs : List Value) (o : Option SiteTerms) → (site_by vs o).on ≡ is_passed vs o
passed_same vs None = refl
passed_same vs (Some s) = refl

request_same : (vs : List Value) (o : Option SiteTerms) → request_by vs o ≡ (site_by vs o).call
request_same vs None = refl
request_same vs (Some s) = refl

result_same : (x y : ℕ) (vs : List Value) (broken : ℕ × ℕ) (o : Option SiteTerms) → (does_fail vs o ≡ true → (x ≡ broken.0) × (y ≡ broken.1))
    → result_by x y vs o ≡ over_in (site_by vs o).fails broken (site_by vs o).outs (site_by vs o).globals
result_same x y vs broken None h = refl
result_same x y vs broken (Some s) h = by_bit (is_on (at vs s.fails)) h
  where
    by_bit : (b : Bool) → (b ≡ true → (x ≡ broken.0) × (y ≡ broken.1)) → (if b then Broken x y else Ended (map (at vs) s.outs) (map (at vs) s.after)) ≡ over_in b broken (map (at vs) s.outs) (map (at vs) s.after)
    by_bit true k = let e = k refl in ap (λ (n : ℕ). Broken n y) e.0 ∙ ap (λ (n : ℕ). Broken broken.0 n) e.1
    by_bit false k = refl

same_call : (p q : ℕ) (gs hs xs ys : List Value) → p ≡ q → gs ≡ hs → xs ≡ ys → ◌≡◌ {A = Request} (record { proc = p; globals = gs; args = xs }) (record { proc = q; globals = hs; args = ys })
same_call p q gs hs xs ys e f g = cc

-- ---- the formula of a procedure

module _ (laws : Laws) (flat : FlatProgram) (limits : List (List Bool)) (changes : List (List ℕ)) (proc : ℕ) (t : Formula) (fl : IsFlat flat) (lim : AreLimits flat limits) (ch : AreChanges flat changes)
    (h : IsTemplateOf flat limits proc t) (consts : List Value) (call : Request) (own : ℕ → Value) (ret : ℕ → Returned) (back : (i : ℕ) → comes_back flat (slice_get t.sites i) (ret i) ≡ true)
    (fit : have_sorts consts flat.consts ≡ true) (called : CallFits flat proc call) (owns : own_nodes (role_in (Some t)) own t.nodes ≡ true) where
  abbrev by_variables : ℕ → Value
  by_variables = a laws flat limits changes proc t fl lim ch h consts call own ret

  abbrev all_values : List Value
  all_values = values by_variables t.nodes

  abbrev view : NodeView
  view = viewer_of consts (formula_of (Some t)) call own ret

  first : AreToldFirst flat proc t
  first = laws.firsts flat limits proc t fl h

  fitting : IsTrue (fits by_variables t.nodes)
  fitting = fits_by_role laws flat limits changes proc t fl lim ch h consts call own ret back fit called owns

  reads_role : (j n m : ℕ) (r : Role) → StandsFor t j n r → m ≡ n → by_variables m ≡ by_role consts call own ret m r
  reads_role j n m r s e = ap (λ (x : Option Role). by_role consts call own ret m (role_or x)) (ap (slice_get t.roles) e ∙ s.role_is)

  consts_are : consts_at h.passive by_variables ≡ consts
  consts_are =
      let e : h.passive.consts ≡ flat.consts = ap (λ (p : Passive). p.consts) h.passive_is.is in
      let count : length consts ≡ length h.passive.consts = have_count consts flat.consts fit ∙ sym (ap length e) in
      reads_are by_variables 0 (length h.passive.consts) consts count (λ i m low is.
      let within : i < length flat.consts = subst (λ (k : ℕ). i < k) (ap length e) low in
      let n : m ≡ i = omega (arith, is) in
      reads_role (1 + i) i m (Const i) (first.consts i within) n)

  call_is : call_at proc h.passive by_variables ≡ call
  call_is =
      let c : h.passive.consts ≡ flat.consts = ap (λ (p : Passive). p.consts) h.passive_is.is in
      let g : h.passive.globals ≡ flat.globals = ap (λ (p : Passive). p.globals) h.passive_is.is in
      let n : h.passive.ins ≡ h.q.ins = ap (λ (p : Passive). p.ins) h.passive_is.is in
      let cl : length h.passive.consts ≡ length flat.consts = ap length c in
      let gl : length h.passive.globals ≡ length flat.globals = ap length g in
      let ins : ins_at (slice_get flat.procs proc) ≡ h.passive.ins = ap ins_at h.proc_is ∙ sym n in
      let ins_count : length (passive_ins (slice_get flat.procs proc)) ≡ length h.passive.ins = ap length (same_ins (slice_get flat.procs proc) ∙ ins) in
      same_call proc call.proc (reads by_variables (length h.passive.consts) (length h.passive.globals)) call.globals (reads by_variables (length h.passive.consts + length h.passive.globals) (length h.passive.ins)) call.args
      (sym called.same)
      (reads_are by_variables (length h.passive.consts) (length h.passive.globals) call.globals (have_count call.globals flat.globals called.globals ∙ sym gl)
      (λ i m low is. reads_role (1 + (length flat.consts + i)) (length flat.consts + i) m (Global i) (first.globals i (omega (arith, low, gl))) (omega (arith, is, cl))))
      (reads_are by_variables (length h.passive.consts + length h.passive.globals) (length h.passive.ins) call.args (have_count call.args (ins_at (slice_get flat.procs proc)) called.args ∙ ap length ins)
      (λ i m low is. reads_role (1 + (length flat.consts + (length flat.globals + i))) (length flat.consts + (length flat.globals + i)) m (In i) (first.ins i (omega (arith, low, ins_count))) (omega (arith, is, cl, gl))))

  -- the run that the formula says has the view, where the callees that fail do so in these asserts
  has_run : (broken : ℕ → ℕ × ℕ) (x y : ℕ) (result : Result) (s : SaysRun flat limits proc t h by_variables x y result)
      → ((i : ℕ) → has_number s.passed i ≡ true → does_fail all_values (slice_get t.sites i) ≡ true → (x ≡ (broken i).0) × (y ≡ (broken i).1)) → HasRun flat consts call view broken result
  has_run broken x y result s at_fault =
      let track_same : track_at t by_variables s.taken ≡ track_by (Some t) all_values = ap (λ (w : List Value). track_at t by_variables w) s.track_is in
      record {
        q = h.q;
        begin = s.begin;
        results = s.results;
        calls = s.calls;
        begins = subst (λ (w : Track). Begins flat w call h.q s.begin) track_same (subst (λ (c : Request). Begins flat (track_at t by_variables s.taken) c h.q s.begin) call_is s.begins);
        run = subst (λ (w : Track). LocalRun flat h.q consts w s.begin s.results s.calls result) track_same
            (subst (λ (c : List Value). LocalRun flat h.q c (track_at t by_variables s.taken) s.begin s.results s.calls result) consts_are s.run);
        says = record {
          passed = s.passed;
          more = s.more;
          along = subst (λ (w : Track). sites_passed h.q.blocks w.path ≡ s.passed ++ s.more) track_same s.along;
          apart = s.apart;
          calls_are = s.calls_are ∙ map_same_on (λ (i : ℕ). request_by all_values (slice_get t.sites i)) (view_spec.call_at view) s.passed (λ i is. request_same all_values (slice_get t.sites i));
          results_are = s.results_are
              ∙ map_same_on (λ (i : ℕ). result_by x y all_values (slice_get t.sites i)) (view_spec.result_at broken view) s.passed (λ i is. result_same x y all_values (broken i) (slice_get t.sites i) (at_fault i is));
          sites_are = λ i. passed_same all_values (slice_get t.sites i) ∙ s.on i;
        };
      }

  ends_sound : view.ends ≡ true → (broken : ℕ → ℕ × ℕ) → HasRun flat consts call view broken (Ended view.outs view.globals)
  ends_sound over broken =
      let run = laws.ends flat limits proc t by_variables fl lim h fitting over 0 0 in
      has_run broken 0 0 (Ended view.outs view.globals) run.0 (λ i is fault.
      absurd (true≢false (sym fault ∙ laws.none_fails flat limits proc t by_variables i fl h fitting over (run.0.on i ∙ is))))

  fails_sound : view.fails ≡ true → (broken : ℕ → ℕ × ℕ) → (p : ℕ) × (n : ℕ) × HasRun flat consts call view broken (Broken p n)
  fails_sound over broken =
      let none = laws.failures flat limits proc t by_variables fl lim h fitting over 0 0 in
      by_search none (search_list (λ (i : ℕ). does_fail all_values (slice_get t.sites i)) none.2.passed)
    where
      by_search : (none : (p : ℕ) × (n : ℕ) × SaysRun flat limits proc t h by_variables 0 0 (Broken p n))
          → (((i : ℕ) × (has_number none.2.passed i ≡ true) × (does_fail all_values (slice_get t.sites i) ≡ true)) ⊎ ((i : ℕ) → has_number none.2.passed i ≡ true → does_fail all_values (slice_get t.sites i) ≡ false))
          → (p : ℕ) × (n : ℕ) × HasRun flat consts call view broken (Broken p n)
      by_search none (inl (i, is, fault)) =
          let run = laws.failures flat limits proc t by_variables fl lim h fitting over (broken i).0 (broken i).1 in (
            run.0,
            run.1,
            has_run broken (broken i).0 (broken i).1 (Broken run.0 run.1) run.2 (λ j in_passed at_fault.
                let same : i ≡ j = laws.single flat limits proc t by_variables i j fl h fitting (none.2.on i ∙ is) fault (run.2.on j ∙ in_passed) at_fault in
                (ap (λ (k : ℕ). (broken k).0) same, ap (λ (k : ℕ). (broken k).1) same)),
          )
      by_search none (inr no_fault) = (none.0, none.1, has_run broken 0 0 (Broken none.0 none.1) none.2 (λ i is fault. absurd (true≢false (sym fault ∙ no_fault i is))))

  pub is_sound : IsSound flat consts call view
  is_sound = record { ends = ends_sound; fails = fails_sound }

-- ---- a node's formula

-- what a formula owes for a node of this procedure, where it may be missing
record OwesSound (flat : FlatProgram) (changes : List (List ℕ)) (consts : List Value) (proc : ℕ) (o : Option Formula) : Type 0 where
  sound : (call : Request) (own : ℕ → Value) (ret : ℕ → Returned) → CallFits flat proc call → own_nodes (role_in o) own (nodes_by o) ≡ true → ((i : ℕ) → comes_back flat (slice_get (sites_by o) i) (ret i) ≡ true)
      → IsSound flat consts call (viewer_of consts (formula_of o) call own ret)
  fails : (call : Request) (own : ℕ → Value) (ret : ℕ → Returned) (i : ℕ) → ((viewer_of consts (formula_of o) call own ret).site i).on ≡ true
      → ((viewer_of consts (formula_of o) call own ret).site i).fails ≡ (ret i).fails
  outs : (call : Request) (own : ℕ → Value) (ret : ℕ → Returned) → ((i : ℕ) → comes_back flat (slice_get (sites_by o) i) (ret i) ≡ true) → (i : ℕ) → ((viewer_of consts (formula_of o) call own ret).site i).on ≡ true
      → (ret i).outs ≡ ((viewer_of consts (formula_of o) call own ret).site i).outs
  globals : (call : Request) (own : ℕ → Value) (ret : ℕ → Returned) → ((i : ℕ) → comes_back flat (slice_get (sites_by o) i) (ret i) ≡ true) → (i : ℕ) → ((viewer_of consts (formula_of o) call own ret).site i).on ≡ true
      → Keeps flat ((viewer_of consts (formula_of o) call own ret).site i).call (Ended (ret i).outs (ret i).globals) → (ret i).globals ≡ ((viewer_of consts (formula_of o) call own ret).site i).globals
  free : (call : Request) (own : ℕ → Value) (ret : ℕ → Returned) → CallFits flat proc call → own_nodes (role_in o) own (nodes_by o) ≡ true → ((i : ℕ) → comes_back flat (slice_get (sites_by o) i) (ret i) ≡ true)
      → (i : ℕ) → ((viewer_of consts (formula_of o) call own ret).site i).on ≡ true → (broken : ℕ × ℕ) → MayBe flat ((viewer_of consts (formula_of o) call own ret).site i).call (not ((viewer_of consts (formula_of o) call own ret).site i).fails)
      (free_by changes ((viewer_of consts (formula_of o) call own ret).site i))
      (over_in ((viewer_of consts (formula_of o) call own ret).site i).fails broken ((viewer_of consts (formula_of o) call own ret).site i).outs ((viewer_of consts (formula_of o) call own ret).site i).globals)

-- a site that is passed is there
passed_there : (P : SiteView → Type 0) (vs : List Value) (o : Option SiteTerms) → ((s : SiteTerms) → o ≡ Some s → P (site_by vs (Some s))) → (site_by vs o).on ≡ true → P (site_by vs o)
passed_there P vs None h on = absurd (true≢false (sym on))
passed_there P vs (Some s) h on = h s refl

module _ (laws : Laws) (flat : FlatProgram) (limits : List (List Bool)) (changes : List (List ℕ)) (fl : IsFlat flat) (lim : AreLimits flat limits) (ch : AreChanges flat changes) (consts : List Value)
    (fit : have_sorts consts flat.consts ≡ true) where
  owes : (proc : ℕ) (t : Formula) → IsTemplateOf flat limits proc t → OwesSound flat changes consts proc (Some t)
  owes proc t h = record {
    sound = λ call own ret called owns back. is_sound laws flat limits changes proc t fl lim ch h consts call own ret back fit called owns;
    fails = λ call own ret i on.
        passed_there (λ (v : SiteView). v.fails ≡ (ret i).fails) (vals laws flat limits changes proc t fl lim ch h consts call own ret) (slice_get t.sites i)
        (λ s is. fails_is laws flat limits changes proc t fl lim ch h consts call own ret i s is) on;
    outs = λ call own ret back i on.
        passed_there (λ (v : SiteView). (ret i).outs ≡ v.outs) (vals laws flat limits changes proc t fl lim ch h consts call own ret) (slice_get t.sites i)
        (λ s is. outs_are laws flat limits changes proc t fl lim ch h consts call own ret back i s is) on;
    globals = λ call own ret back i on.
        passed_there (λ (v : SiteView). Keeps flat v.call (Ended (ret i).outs (ret i).globals) → (ret i).globals ≡ v.globals) (vals laws flat limits changes proc t fl lim ch h consts call own ret) (slice_get t.sites i)
        (λ s is keeps. globals_are laws flat limits changes proc t fl lim ch h consts call own ret back i s is keeps) on;
    free = λ call own ret called owns back i on broken.
        passed_there (λ (v : SiteView). MayBe flat v.call (not v.fails) (free_by changes v) (over_in v.fails broken v.outs v.globals))
        (vals laws flat limits changes proc t fl lim ch h consts call own ret) (slice_get t.sites i)
        (λ s is. free_may laws flat limits changes proc t fl lim ch h consts call own ret back fit called owns i s broken is) on;
  }

-- ---- the tree

where_true : (b x : Bool) → b ≡ true → (if b then x else true) ≡ true → x ≡ true
where_true true x is h = h
where_true false x is h = absurd (true≢false (sym is))

call_parts : (flat : FlatProgram) (proc : ℕ) (call : Request) → (nat_eq call.proc proc && request_fits flat call) ≡ true → CallFits flat proc call
call_parts flat proc call h =
    let both = and_parts (nat_eq call.proc proc) (request_fits flat call) h in
    let lists = and_parts (have_sorts call.globals flat.globals) (args_fit flat call.proc call.args) both.1 in
    let same : call.proc ≡ proc = eqb-true call.proc proc both.0 in
    record { same = same; globals = lists.0; args = subst (λ (p : ℕ). args_fit flat p call.args ≡ true) same lists.1 }

pub sound_parts_are_met : Laws → SoundPartsAreMet
sound_parts_are_met laws flat limits changes entry q is_open consts fl lim ch have fit apart =
    let node : (p : List ℕ) → is_node_of q p ≡ true → OwesSound flat changes consts (proc_of q entry (number q p)) (template_of q (number q p)) = λ p here.
    let f = have.each (number q p) (have.nodes p here) in
    subst (λ (o : Option Formula). OwesSound flat changes consts (proc_of q entry (number q p)) o) (sym f.1) (owes laws flat limits changes fl lim ch consts fit (proc_of q entry (number q p)) f.0 f.2) in
    let owns : (p : List ℕ) → is_node_of q p ≡ true → (own : ℕ → Value) → own_fits q p own ≡ true → own_nodes (role_in (template_of q (number q p))) own (nodes_by (template_of q (number q p))) ≡ true = λ p here own ok.
    where_true (is_node_of q p) (own_nodes (role_in (template_of q (number q p))) own (nodes_by (template_of q (number q p)))) here ok in
    let back : (p : List ℕ) → is_node_of q p ≡ true → (ret : ℕ → Returned) → ((i : ℕ) → free_fits flat q p i (ret i) ≡ true) → (i : ℕ) → comes_back flat (slice_get (sites_by (template_of q (number q p))) i) (ret i) ≡ true =
    λ p here ret ok i. where_true (is_node_of q p) (comes_back flat (slice_get (sites_by (template_of q (number q p))) i) (ret i)) here (ok i) in
    record {
      sound = λ p here call own ret call_ok own_ok free_ok. (node p here).sound call own ret (call_parts flat (proc_of q entry (number q p)) call call_ok) (owns p here own own_ok) (back p here ret free_ok);
      fails = λ p here call own ret free_ok i on. (node p here).fails call own ret i on;
      outs = λ p here call own ret free_ok i on. (node p here).outs call own ret (back p here ret free_ok) i on;
      globals = λ p here call own ret free_ok i on keeps. (node p here).globals call own ret (back p here ret free_ok) i on keeps;
      free = λ p here call own ret call_ok own_ok free_ok i opened on broken.
          (node p here).free call own ret (call_parts flat (proc_of q entry (number q p)) call call_ok) (owns p here own own_ok) (back p here ret free_ok) i on broken;
    }
