-- Each run of a node of the tree has choices, and some choices and values that come back fit at all.
use Rattle.std.proofs.Common.{◌≡◌, ℕ, zero, suc, Bool, true, false, List, [], ◌∷◌, map, slice_get, Option, None, Some, refl, sym, ap, ◌∙◌, subst, arith, true≢false}
use Rattle.std.specs.Prelude.{IsSome, IsTrue, if◌then◌else◌}
use Rattle.std.proofs.lemmas.Bool.{and_from}
use Rattle.std.proofs.lemmas.Bool.Decides.{nat_tests}
use Rattle.std.specs.Prelude.{nat_eq}
use Rattle.hy_val.specs.NodeSorts.{is_sort}
use Rattle.hy_val.specs.Values.{at, has_sort, zero_of}
use Rattle.hy_val.specs.declared.sort.Sort.{Sort}
use Rattle.hy_val.specs.declared.value.Value.{Value}
use Rattle.hy_term.specs.Meaning.{fits, values}
use Rattle.hy_term.specs.TermSorts.{named, or_else, sort_if, sort_of_number, sorts}
use Rattle.hy_term.specs.declared.node.TermNode.{TermNode}
use Rattle.hy_term.specs.declared.node.TermNode.TheVariants.{Lit, ZeroMap, Variable, Unary, Binary, If, Select, Store}
use Rattle.std.specs.Option.{option_and_then}
use Rattle.flat_prog.specs.Changes.{AllKeep, MayBe}
use Rattle.flat_prog.specs.Limits.{AreLimits}
use Rattle.flat_prog.specs.Local.{Begins, Broken, Ended, LocalRun as FlatRun, Request, Result, State as FlatState, Track, can_come_back, have_sorts}
use Rattle.flat_prog.specs.Program.{FlatProgram, outs_at}
use Rattle.flat_prog.specs.Shape.{IsFlat}
use Rattle.flat_prog.specs.declared.proc.FlatProc.{FlatProc}
use Rattle.proc_template.specs.Shape.{IsShaped}
use Rattle.proc_template.specs.Template.{IsTemplateOf}
use Rattle.tree_terms.proofs.Parts.{variable_sort}
use Rattle.tree_terms.specs.Linked.{nodes_by, template_of}
use Rattle.tree_terms.specs.declared.linked.SiteTerms.{SiteTerms}
use Rattle.tree_terms.specs.declared.linked.Template.{Template as Formula}
use Rattle.tree_words.specs.Compose.{Plan, Returned, Viewer}
use Rattle.tree_words.specs.Filling.{back_by, comes_back, free_fits, own_fits, own_nodes}
use Rattle.tree_words.specs.Linking.{is_node_of, number, proc_by, proc_of, sites_by}
use Rattle.tree_words.specs.Template.{bool_value, viewer_of}
use Rattle.template_law.specs.Formulas.{AreChanges}
use Rattle.template_law.specs.Plans.{PartsAreMet, callee_of}
use Rattle.template_law.proofs.Fitting.{have_of, make_fits}
use Rattle.template_law.proofs.Formula.{formula_of, role_in}
use Rattle.template_law.proofs.PlanEnds.{ends_plan, fails_plan}
use Rattle.template_law.proofs.PlanFrom.{failing_comes, own_from}
use Rattle.template_law.proofs.PlanMay.{may_is}
use Rattle.template_law.proofs.PlanTold.{PlanLaws}

-- ---- zeros fit

-- a value of a sort that may be missing
abbrev value_of : Option Sort → Value
value_of None = bool_value false
value_of (Some s) = zero_of s

-- for each variable the zero of its sort
abbrev zeros : List TermNode → ℕ → Value
zeros nodes n = value_of (sort_of_number n nodes)

named_is : (n : ℕ) (node : TermNode) (s : Sort) → named n node ≡ Some s → node ≡ Variable n s
named_is n (Lit a) s e = cc
named_is n (ZeroMap x y) s e = cc
named_is n (Variable m r) s e = by (nat_eq m n) refl e
  where
    same : (a b : ℕ) → nat_eq a b ≡ true → a ≡ b
    same a b h = grind (arith, nat_tests)

    by : (b : Bool) → nat_eq m n ≡ b → (if b then Some r else None) ≡ Some s → Variable m r ≡ Variable n s
    by true k f = let x : r ≡ s = cc in ap (λ (i : ℕ). Variable i r) (same m n k) ∙ ap (λ (z : Sort). Variable n z) x
    by false k f = cc
named_is n (Unary op c) s e = cc
named_is n (Binary op l r) s e = cc
named_is n (If t o p) s e = cc
named_is n (Select m i) s e = cc
named_is n (Store m i v) s e = cc

-- the first node that is the variable
record FirstIs (nodes : List TermNode) (n : ℕ) : Type 0 where
  pub place : ℕ
  pub sort : Sort
  pub node_is : slice_get nodes place ≡ Some (Variable n sort)
  pub sort_is : sort_of_number n nodes ≡ Some sort

first_is : (nodes : List TermNode) (j n : ℕ) (sort : Sort) → slice_get nodes j ≡ Some (Variable n sort) → FirstIs nodes n
first_is [] j n sort e = cc
first_is (node ∷ nodes) zero n sort e =
    let same : node ≡ Variable n sort = cc in
    let own : nat_eq n n ≡ true = grind (arith, nat_tests) in
    record {
      place = 0;
      sort = sort;
      node_is = e;
      sort_is = ap (λ (x : TermNode). or_else (named n x) (sort_of_number n nodes)) same ∙ ap (λ (b : Bool). or_else (if b then Some sort else None) (sort_of_number n nodes)) own;
    }
first_is (node ∷ nodes) (suc j) n sort e = by (named n node) refl (first_is nodes j n sort e)
  where
    by : (o : Option Sort) → named n node ≡ o → FirstIs nodes n → FirstIs (node ∷ nodes) n
    by None k f = record { place = suc f.place; sort = f.sort; node_is = f.node_is; sort_is = ap (λ (o : Option Sort). or_else o (sort_of_number n nodes)) k ∙ f.sort_is }
    by (Some s) k f = record { place = 0; sort = s; node_is = ap (λ (x : TermNode). Some x) (named_is n node s k); sort_is = ap (λ (o : Option Sort). or_else o (sort_of_number n nodes)) k }

some_there : {A : Type 0} (o : Option A) → IsSome o → (x : A) × (o ≡ Some x)
some_there None h = absurd (true≢false (sym h))
some_there (Some x) h = (x, refl)

sort_is_one : (b : Bool) (s r : Sort) → is_sort s ≡ b → (if b then Some s else None) ≡ Some r → is_sort s ≡ true
sort_is_one true s r e h = e
sort_is_one false s r e h = cc

-- ---- plans

-- the same plan, where what fits is said in other words
plan_for : (viewer : Viewer) (F E : (ℕ → Value) → Type 0) (G D : ℕ → Returned → Type 0) (callee : ℕ → ℕ) (q : FlatProc) (call : Request) (track : Track) (results : List Result) (calls : List Request) (result : Result) →
    ((own : ℕ → Value) → F own → E own) → ((i : ℕ) (ret : Returned) → D i ret → G i ret) → Plan viewer F G callee q call track results calls result → Plan viewer E D callee q call track results calls result
plan_for viewer F E G D callee q call track results calls result own_to free_from p = record {
  own = p.own;
  fit = own_to p.own p.fit;
  passed = p.passed;
  more = p.more;
  along = p.along;
  apart = p.apart;
  differ = p.differ;
  procs = p.procs;
  steps = λ ret d. p.steps ret (λ i. free_from i (ret i) (d i));
  sites = λ ret d right. p.sites ret (λ i. free_from i (ret i) (d i)) right;
  bits = λ ret d right. p.bits ret (λ i. free_from i (ret i) (d i)) right;
  track_is = λ ret d right. p.track_is ret (λ i. free_from i (ret i) (d i)) right;
  says = λ ret d right. p.says ret (λ i. free_from i (ret i) (d i)) right;
}

-- the choices that fit at all, and what comes back with them
abbrev some_own : Option Formula → ℕ → Value
some_own o = zeros (nodes_by o)

abbrev some_free : Option Formula → ℕ → Returned
some_free o i = back_by (values (some_own o) (nodes_by o)) (slice_get (sites_by o) i)

-- what a formula owes for a node of this procedure, where it may be missing
record OwesPlans (flat : FlatProgram) (vs : List Value) (proc : ℕ) (o : Option Formula) : Type 0 where
  plan : (call : Request) (track : Track) (q : FlatProc) (begin : FlatState) (results : List Result) (calls : List Request) (result : Result) → call.proc ≡ proc → Begins flat track call q begin →
      FlatRun flat q vs track begin results calls result → AllKeep flat calls results → Plan (viewer_of vs (formula_of o)) (λ own. own_nodes (role_in o) own (nodes_by o) ≡ true) (λ i ret. comes_back flat (slice_get (sites_by o) i) ret ≡ true)
      (λ i. proc_by (slice_get (sites_by o) i)) q call track results calls result
  own : own_nodes (role_in o) (some_own o) (nodes_by o) ≡ true
  free : (i : ℕ) → comes_back flat (slice_get (sites_by o) i) (some_free o i) ≡ true

module _ (laws : PlanLaws) (flat : FlatProgram) (limits : List (List Bool)) (changes : List (List ℕ)) (is : IsFlat flat) (are : AreLimits flat limits) (ch : AreChanges flat changes) (vs : List Value) (vs_have : have_sorts vs flat.consts ≡ true) where
  zeros_fit : (proc : ℕ) (t : Formula) → IsTemplateOf flat limits proc t → IsTrue (fits (zeros t.nodes) t.nodes)
  zeros_fit proc t h = make_fits (zeros t.nodes) t.nodes each
    where
      shape : IsShaped flat proc t
      shape = laws.base.shaped flat limits proc t is h

      each : (j n : ℕ) (sort : Sort) → slice_get t.nodes j ≡ Some (Variable n sort) → IsTrue (has_sort (zeros t.nodes n) sort)
      each j n sort e =
          let f = first_is t.nodes j n sort e in
          let place_is : f.place ≡ j = shape.once f.place j n f.sort sort f.node_is e in
          let both : Some (Variable n f.sort) ≡ Some (Variable n sort) = sym f.node_is ∙ ap (slice_get t.nodes) place_is ∙ e in
          let same : f.sort ≡ sort = cc in
          let ss = some_there (sorts t.nodes) shape.sorted in
          let there : slice_get ss.0 j ≡ Some sort = ap (λ (o : Option (List Sort)). option_and_then (λ (xs : List Sort). slice_get xs j) o) (sym ss.1) ∙ variable_sort t.nodes j n sort shape.sorted e in
          let one : sort_if sort ≡ Some sort = sym (laws.sorted t.nodes ss.0 j (Variable n sort) ss.1 e) ∙ there in
          let value_is : zeros t.nodes n ≡ zero_of sort = ap value_of f.sort_is ∙ ap zero_of same in
          subst (λ (v : Value). IsTrue (has_sort v sort)) (sym value_is) (laws.keep.zero sort (sort_is_one (is_sort sort) sort sort refl one))

  some_back : (proc : ℕ) (t : Formula) → IsTemplateOf flat limits proc t → (i : ℕ) (o : Option SiteTerms) → slice_get t.sites i ≡ o → comes_back flat o (back_by (values (zeros t.nodes) t.nodes) o) ≡ true
  some_back proc t h i None e = refl
  some_back proc t h i (Some s) e =
      let shape = (laws.base.shaped flat limits proc t is h).sites i s e in
      let fit = zeros_fit proc t h in
      let vals = values (zeros t.nodes) t.nodes in
      and_from (have_sorts (map (at vals) s.outs) (outs_at (slice_get flat.procs s.proc))) (have_sorts (map (at vals) s.after) flat.globals)
      (have_of laws.base.keep (zeros t.nodes) t.nodes s.outs (outs_at (slice_get flat.procs s.proc)) fit shape.outs) (have_of laws.base.keep (zeros t.nodes) t.nodes s.after flat.globals fit shape.after_are)

  owes_plan : (proc : ℕ) (t : Formula) → (h : IsTemplateOf flat limits proc t) → (call : Request) (track : Track) (begin : FlatState) (results : List Result) (calls : List Request) (result : Result) → call.proc ≡ proc → Begins flat track call h.q begin →
      FlatRun flat h.q vs track begin results calls result → AllKeep flat calls results → Plan (viewer_of vs (formula_of (Some t))) (λ own. own_nodes (role_in (Some t)) own t.nodes ≡ true) (λ i ret. comes_back flat (slice_get t.sites i) ret ≡ true)
      (λ i. proc_by (slice_get t.sites i)) h.q call track results calls result
  owes_plan proc t h call track begin results calls (Ended os gs) same begins run keep = ends_plan laws flat limits changes proc t is are ch h vs vs_have call track begin begins same results calls keep os gs run
  owes_plan proc t h call track begin results calls (Broken x y) same begins run keep = fails_plan laws flat limits changes proc t is are ch h vs vs_have call track begin begins same results calls keep x y run

  owes : (proc : ℕ) (t : Formula) → IsTemplateOf flat limits proc t → OwesPlans flat vs proc (Some t)
  owes proc t h = record {
    plan = λ call track q begin results calls result same begins run keep.
        let there : Some q ≡ Some h.q = sym begins.proc ∙ ap (slice_get flat.procs) (begins.same ∙ same) ∙ h.proc_is in
        let e : h.q ≡ q = cc in
        subst (λ (x : FlatProc). Begins flat track call x begin → FlatRun flat x vs track begin results calls result →
        Plan (viewer_of vs (formula_of (Some t))) (λ own. own_nodes (role_in (Some t)) own t.nodes ≡ true) (λ i ret. comes_back flat (slice_get t.sites i) ret ≡ true) (λ i. proc_by (slice_get t.sites i)) x call track results calls result) e
        (λ b r. owes_plan proc t h call track begin results calls result same b r keep) begins run;
    own = own_from (role_in (Some t)) (zeros t.nodes) t.nodes (zeros_fit proc t h);
    free = λ i. some_back proc t h i (slice_get t.sites i) refl;
  }

-- ---- the tree

if_so : (b x : Bool) → (b ≡ true → x ≡ true) → (if b then x else true) ≡ true
if_so true x h = h refl
if_so false x h = refl

so_if : (b x : Bool) → b ≡ true → (if b then x else true) ≡ true → x ≡ true
so_if true x is h = h
so_if false x is h = absurd (true≢false (sym is))

may_back : (flat : FlatProgram) (call : Request) (ends : Bool) (values outs globals : List Value) → MayBe flat call ends values (Ended outs globals) → (o : Option SiteTerms) → call.proc ≡ proc_by o →
    comes_back flat o (record { fails = false; outs = outs; globals = globals }) ≡ true
may_back flat call true values outs globals m None e = refl
may_back flat call true values outs globals m (Some s) e = subst (λ (p : ℕ). can_come_back flat p outs globals ≡ true) e m.fit
may_back flat call false values outs globals m o e = absurd m

pub parts_are_met : PlanLaws → PartsAreMet
parts_are_met laws flat limits changes entry q is_open vs is are ch have vs_have apart child =
    let node : (p : List ℕ) → is_node_of q p ≡ true → OwesPlans flat vs (proc_of q entry (number q p)) (template_of q (number q p)) = λ p here.
    let f = have.each (number q p) (have.nodes p here) in
    subst (λ (o : Option Formula). OwesPlans flat vs (proc_of q entry (number q p)) o) (sym f.1) (owes laws flat limits changes is are ch vs vs_have (proc_of q entry (number q p)) f.0 f.2) in
    record {
      entry_is = refl;
      child_is = child;
      apart = apart;
      plan = λ p here call track q0 begin results calls result same begins run keep.
          let o = template_of q (number q p) in
          plan_for (viewer_of vs (formula_of o)) (λ own. own_nodes (role_in o) own (nodes_by o) ≡ true) (λ own. own_fits q p own ≡ true) (λ i ret. comes_back flat (slice_get (sites_by o) i) ret ≡ true) (λ i ret. free_fits flat q p i ret ≡ true)
          (callee_of q p) q0 call track results calls result (λ own fit. if_so (is_node_of q p) (own_nodes (role_in o) own (nodes_by o)) (λ at. fit))
          (λ i ret fit. so_if (is_node_of q p) (comes_back flat (slice_get (sites_by o) i) ret) here fit) ((node p here).plan call track q0 begin results calls result same begins run keep);
      some_own = λ p. some_own (template_of q (number q p));
      own_fits = λ p. if_so (is_node_of q p) (own_nodes (role_in (template_of q (number q p))) (some_own (template_of q (number q p))) (nodes_by (template_of q (number q p)))) (λ here. (node p here).own);
      some_free = λ p. some_free (template_of q (number q p));
      free_fits = λ p i. if_so (is_node_of q p) (comes_back flat (slice_get (sites_by (template_of q (number q p))) i) (some_free (template_of q (number q p)) i)) (λ here. (node p here).free i);
      failing_fits = λ p i ret fit. if_so (is_node_of q p) (comes_back flat (slice_get (sites_by (template_of q (number q p))) i) (record ret { fails = true }))
          (λ here. failing_comes flat (slice_get (sites_by (template_of q (number q p))) i) ret (so_if (is_node_of q p) (comes_back flat (slice_get (sites_by (template_of q (number q p))) i) ret) here fit));
      may_fit = λ p i call ends values outs globals same may. if_so (is_node_of q p) (comes_back flat (slice_get (sites_by (template_of q (number q p))) i) (record { fails = false; outs = outs; globals = globals }))
          (λ here. may_back flat call ends values outs globals may (slice_get (sites_by (template_of q (number q p))) i) same);
      may_keeps = λ call ends values result may. (laws.runs_keep flat).free call ends values result may;
      may_is = λ s ends values result may site. may_is flat limits changes are ch s ends values result may site;
      run_keeps = λ run call q0 begin result begins means. (laws.runs_keep flat).part_calls vs run call result (q0, begin, begins, means);
    }
