-- What the formula of one procedure says, by what its variables stand for: its sites say what comes back there.
use Rattle.std.proofs.Common.{◌≡◌, ℕ, ◌<◌, Bool, true, false, not, List, [], ◌++◌, map, length, slice_get, slice_index, Option, None, Some, Contains, refl, sym, ap, ◌∙◌, subst, arith, true≢false}
use Rattle.std.specs.Prelude.{IsTrue, slice_index_or, if◌then◌else◌}
use Rattle.std.specs.Option.{option_and_then}
use Rattle.std.proofs.lemmas.Bool.{and_from, and_parts}
use Rattle.hy_val.specs.declared.sort.Sort.{Sort}
use Rattle.hy_val.specs.declared.value.Value.{Value}
use Rattle.hy_val.specs.Values.{at, default, has_sort, is_on}
use Rattle.hy_term.specs.Laws.{EachNodeHasItsValue, EachValueHasItsSort}
use Rattle.hy_term.specs.Meaning.{fits, values}
use Rattle.hy_term.specs.TermSorts.{sort_at}
use Rattle.hy_term.specs.declared.node.TermNode.TheVariants.{Variable}
use Rattle.flat_prog.specs.Changes.{FreeEnds, MayBe, MayChange, Unchanged}
use Rattle.flat_prog.specs.Limits.{AreLimits}
use Rattle.flat_prog.specs.Limits as limits_spec
use Rattle.flat_prog.specs.Local.{Request, have_sorts, can_come_back}
use Rattle.flat_prog.specs.Program.{FlatProgram, outs_at}
use Rattle.flat_prog.specs.Shape.{IsFlat}
use Rattle.flat_prog.specs.declared.proc.FlatProc.{FlatProc}
use Rattle.passive_form.specs.WellSorted.{ins_at as passive_ins}
use Rattle.proc_template.specs.Numbered.{NoneFailsAtEnds, OneSiteFails}
use Rattle.proc_template.specs.Runs.{EndsAreRuns, FailuresAreRuns}
use Rattle.proc_template.specs.Shape.{IsShaped, TemplatesAreShaped}
use Rattle.proc_template.specs.Template.{IsTemplateOf}
use Rattle.proc_template.specs.Told.{FirstAreTold, IsToldSite, RoleIs, RolesAreTold, SitesAreTold, StandsFor}
use Rattle.template_law.specs.Formulas.{AreChanges}
use Rattle.template_law.proofs.Fitting.{at_map, have_at, have_count, have_of, make_fits, map_count, of_at, own_has, same_values, set_back}
use Rattle.tree_terms.proofs.Growth.{are_count}
use Rattle.tree_terms.proofs.Parts.{variable_sort}
use Rattle.tree_terms.specs.Linked.{nodes_by}
use Rattle.tree_terms.specs.Tables.{row}
use Rattle.tree_terms.specs.declared.linked.Role.{Role}
use Rattle.tree_terms.specs.declared.linked.Role.TheVariants.{Const, Global, In, Failed, Out, After, Own}
use Rattle.tree_terms.specs.declared.linked.SiteTerms.{SiteTerms}
use Rattle.tree_terms.specs.declared.linked.Template.{Template as Formula}
use Rattle.tree_words.specs.Compose.{Returned}
use Rattle.tree_words.specs.Filling.{comes_back, own_nodes}
use Rattle.tree_words.specs.Linking.{ends_by, fails_by, globals_by, outs_by, role_or, sites_by}
use Rattle.tree_words.specs.Reading.{free_by, track_by}
use Rattle.tree_words.specs.Stands.{ins_at}
use Rattle.tree_words.specs.Template.{Template, bool_value, by_role, site_by}
use Rattle.tree_words.specs.View.{over_in}

-- the laws of terms and of formulas of procedures
pub record Laws : Type 0 where
  pub value_is : EachNodeHasItsValue
  pub keep : EachValueHasItsSort
  pub shaped : TemplatesAreShaped
  pub roles : RolesAreTold
  pub sites : SitesAreTold
  pub firsts : FirstAreTold
  pub ends : EndsAreRuns
  pub failures : FailuresAreRuns
  pub single : OneSiteFails
  pub none_fails : NoneFailsAtEnds

-- the role of a variable in a formula
abbrev pub role_in : Option Formula → ℕ → Role
role_in o n = role_or (option_and_then (λ (t : Formula). slice_get t.roles n) o)

-- a formula as contracts of questions see it
abbrev pub formula_of : Option Formula → Template
formula_of o = record {
  nodes = nodes_by o;
  role = role_in o;
  track = track_by o;
  sites = sites_by o;
  ends = ends_by o;
  fails = fails_by o;
  outs = outs_by o;
  globals = globals_by o;
}

-- a call of the procedure that fits
pub record CallFits (flat : FlatProgram) (proc : ℕ) (call : Request) : Type 0 where
  pub same : call.proc ≡ proc
  pub globals : have_sorts call.globals flat.globals ≡ true
  pub args : have_sorts call.args (ins_at (slice_get flat.procs proc)) ≡ true

pub same_ins : (o : Option FlatProc) → passive_ins o ≡ ins_at o
same_ins None = refl
same_ins (Some q) = refl

free_at : (flat : FlatProgram) (changes : List (List ℕ)) (b : Bool) (broken : ℕ × ℕ) (call : Request) (outs globals : List Value) → FreeEnds flat call (outs ++ map (at globals) (row changes call.proc)) outs globals
    → MayBe flat call (not b) (if b then [] else outs ++ map (at globals) (row changes call.proc)) (over_in b broken outs globals)
free_at flat changes true broken call outs globals h = refl
free_at flat changes false broken call outs globals h = h

module _ (laws : Laws) (flat : FlatProgram) (limits : List (List Bool)) (changes : List (List ℕ)) (proc : ℕ) (t : Formula) (fl : IsFlat flat) (lim : AreLimits flat limits) (ch : AreChanges flat changes)
    (h : IsTemplateOf flat limits proc t) (consts : List Value) (call : Request) (own : ℕ → Value) (ret : ℕ → Returned) where
  -- the values of the variables and of the nodes
  abbrev pub a : ℕ → Value
  a n = by_role consts call own ret n (role_in (Some t) n)

  abbrev pub vals : List Value
  vals = values a t.nodes

  pub shape : IsShaped flat proc t
  shape = laws.shaped flat limits proc t fl h

  pub told : (i : ℕ) (s : SiteTerms) → slice_get t.sites i ≡ Some s → IsToldSite limits t i s
  told i s is = laws.sites flat limits proc t i s fl h is

  -- the value of a variable's node is that of its role
  pub stands : (j n : ℕ) (r : Role) → StandsFor t j n r → at vals j ≡ by_role consts call own ret n r
  stands j n r s = laws.value_is a t.nodes j (Variable n s.sort) shape.sorted s.node_is ∙ ap (λ (x : Option Role). by_role consts call own ret n (role_or x)) s.role_is

  -- ---- a site says what comes back there

  pub fails_is : (i : ℕ) (s : SiteTerms) → slice_get t.sites i ≡ Some s → is_on (at vals s.fails) ≡ (ret i).fails
  fails_is i s is = let f = (told i s is).fails in ap is_on (stands s.fails f.0 (Failed i) f.1)

  module _ (back : (i : ℕ) → comes_back flat (slice_get t.sites i) (ret i) ≡ true) where
    can_be : (i : ℕ) (s : SiteTerms) → slice_get t.sites i ≡ Some s → can_come_back flat s.proc (ret i).outs (ret i).globals ≡ true
    can_be i s is = subst (λ (o : Option SiteTerms). comes_back flat o (ret i) ≡ true) is (back i)

    pub outs_have : (i : ℕ) (s : SiteTerms) → slice_get t.sites i ≡ Some s → have_sorts (ret i).outs (outs_at (slice_get flat.procs s.proc)) ≡ true
    outs_have i s is = (and_parts (have_sorts (ret i).outs (outs_at (slice_get flat.procs s.proc))) (have_sorts (ret i).globals flat.globals) (can_be i s is)).0

    pub globals_have : (i : ℕ) (s : SiteTerms) → slice_get t.sites i ≡ Some s → have_sorts (ret i).globals flat.globals ≡ true
    globals_have i s is = (and_parts (have_sorts (ret i).outs (outs_at (slice_get flat.procs s.proc))) (have_sorts (ret i).globals flat.globals) (can_be i s is)).1

    pub outs_are : (i : ℕ) (s : SiteTerms) → slice_get t.sites i ≡ Some s → (ret i).outs ≡ map (at vals) s.outs
    outs_are i s is =
        let sorts = outs_at (slice_get flat.procs s.proc) in
        let count : length (ret i).outs ≡ length s.outs = have_count (ret i).outs sorts (outs_have i s is) ∙ sym (are_count t.nodes s.outs sorts (shape.sites i s is).outs) in
        same_values (ret i).outs (map (at vals) s.outs) (count ∙ sym (map_count (at vals) s.outs)) (λ k low.
        let within : k < length s.outs = omega (arith, low, map_count (at vals) s.outs) in
        let o = (told i s is).outs k within in
        sym (at_map (at vals) s.outs k within ∙ stands (slice_index s.outs k) o.0 (Out i k) o.1))

    -- where they leave what the callee may not change
    pub globals_are : (i : ℕ) (s : SiteTerms) → slice_get t.sites i ≡ Some s → Unchanged (λ g. MayChange flat g s.proc) (map (at vals) s.before) (ret i).globals → (ret i).globals ≡ map (at vals) s.after
    globals_are i s is keeps =
        let after_count : length s.after ≡ length flat.globals = are_count t.nodes s.after flat.globals (shape.sites i s is).after_are in
        let before_count : length s.before ≡ length flat.globals = are_count t.nodes s.before flat.globals (shape.sites i s is).before_are in
        let count : length (ret i).globals ≡ length flat.globals = have_count (ret i).globals flat.globals (globals_have i s is) in
        same_values (ret i).globals (map (at vals) s.after) (count ∙ sym (map_count (at vals) s.after ∙ after_count)) (λ k low.
        let within : k < length s.after = omega (arith, low, map_count (at vals) s.after) in
        let first : k < length s.before = omega (arith, within, after_count, before_count) in
        sym (at_map (at vals) s.after k within ∙ by_mark k within first (slice_index_or (limits_spec.row limits s.proc) k false) refl))
      where
        by_mark : (k : ℕ) → k < length s.after → k < length s.before → (b : Bool) → slice_index_or (limits_spec.row limits s.proc) k false ≡ b → at vals (slice_index s.after k) ≡ at (ret i).globals k
        by_mark k within first true e = let c = (told i s is).changed k within e in stands (slice_index s.after k) c.0 (After i k) c.1
        by_mark k within first false e =
            ap (at vals) ((told i s is).kept k within e) ∙ (sym (at_map (at vals) s.before k first)
            ∙ ap default (sym (keeps.others k (λ m. true≢false (sym ((lim.exact s.proc k).1 m) ∙ e)))))

    -- ---- values by role fit

    module _ (fit : have_sorts consts flat.consts ≡ true) (called : CallFits flat proc call) (owns : own_nodes (role_in (Some t)) own t.nodes ≡ true) where
      by_told : (j n : ℕ) (sort : Sort) → slice_get t.nodes j ≡ Some (Variable n sort) → (r : Role) → slice_get t.roles n ≡ Some r → RoleIs flat proc t j sort r → IsTrue (has_sort (by_role consts call own ret n r) sort)
      by_told j n sort is (Const k) role r = have_at consts flat.consts k sort fit r
      by_told j n sort is (Global k) role r = have_at call.globals flat.globals k sort called.globals r
      by_told j n sort is (In k) role r = have_at call.args (ins_at (slice_get flat.procs proc)) k sort called.args (subst (λ (ss : List Sort). slice_get ss k ≡ Some sort) (same_ins (slice_get flat.procs proc)) r)
      by_told j n sort is (Failed i) role r = subst (λ (x : Sort). IsTrue (has_sort (bool_value (ret i).fails) x)) (sym r.sort_is) refl
      by_told j n sort is (Out i k) role r =
          let s = r.site in
          let sorts = outs_at (slice_get flat.procs s.proc) in
          let o = of_at t.nodes s.outs sorts k (shape.sites i s r.site_is).outs r.within in
          let here : sort_at t.nodes j ≡ Some sort = variable_sort t.nodes j n sort shape.sorted is in
          let there : sort_at t.nodes j ≡ Some o.0 = ap (sort_at t.nodes) (sym r.node_is) ∙ o.2 in
          have_at (ret i).outs sorts k sort (outs_have i s r.site_is) (o.1 ∙ (sym there ∙ here))
      by_told j n sort is (After i k) role r =
          let s = r.site in
          let o = of_at t.nodes s.after flat.globals k (shape.sites i s r.site_is).after_are r.within in
          let here : sort_at t.nodes j ≡ Some sort = variable_sort t.nodes j n sort shape.sorted is in
          let there : sort_at t.nodes j ≡ Some o.0 = ap (sort_at t.nodes) (sym r.node_is) ∙ o.2 in
          have_at (ret i).globals flat.globals k sort (globals_have i s r.site_is) (o.1 ∙ (sym there ∙ here))
      by_told j n sort is Own role r = own_has (role_in (Some t)) own t.nodes j n sort owns is (ap role_or role)

      pub fits_by_role : IsTrue (fits a t.nodes)
      fits_by_role = make_fits a t.nodes (λ j n sort is.
          let r = laws.roles flat limits proc t j n sort fl h is in
          subst (λ (x : Option Role). IsTrue (has_sort (by_role consts call own ret n (role_or x)) sort)) (sym r.1) (by_told j n sort is r.0 r.1 r.2))

      -- ---- what a free child may be

      unmarked : (p k : ℕ) (b : Bool) → slice_index_or (limits_spec.row limits p) k false ≡ b → (Contains (row changes p) k → ⊥) → b ≡ false
      unmarked p k true e out = absurd (out (((ch p).exact k).1 ((lim.exact p k).0 e)))
      unmarked p k false e out = refl

      pub free_may : (i : ℕ) (s : SiteTerms) (broken : ℕ × ℕ) → slice_get t.sites i ≡ Some s
          → MayBe flat (site_by vals (Some s)).call (not (site_by vals (Some s)).fails) (free_by changes (site_by vals (Some s))) (over_in (site_by vals (Some s)).fails broken (site_by vals (Some s)).outs (site_by vals (Some s)).globals)
      free_may i s broken is =
          let ask : Request = (site_by vals (Some s)).call in
          let outs = map (at vals) s.outs in
          let after = map (at vals) s.after in
          let before = map (at vals) s.before in
          let ns = row changes s.proc in
          let after_count : length s.after ≡ length flat.globals = are_count t.nodes s.after flat.globals (shape.sites i s is).after_are in
          let before_count : length s.before ≡ length flat.globals = are_count t.nodes s.before flat.globals (shape.sites i s is).before_are in
          let count : length after ≡ length before = map_count (at vals) s.after ∙ (after_count ∙ (sym before_count ∙ sym (map_count (at vals) s.before))) in
          free_at flat changes (is_on (at vals s.fails)) broken ask outs after (record {
            numbers = ns;
            changed = ch s.proc;
            new = map (at after) ns;
            one_each = map_count (at after) ns;
            values_are = refl;
            globals_are = set_back before after ns count (λ k low out.
                let within : k < length s.after = omega (arith, low, map_count (at vals) s.after) in
                let first : k < length s.before = omega (arith, within, after_count, before_count) in
                at_map (at vals) s.after k within
                ∙ (ap (at vals) ((told i s is).kept k within (unmarked_is s.proc k out)) ∙ sym (at_map (at vals) s.before k first)));
            fit = and_from (have_sorts outs (outs_at (slice_get flat.procs s.proc))) (have_sorts after flat.globals)
                (have_of laws.keep a t.nodes s.outs (outs_at (slice_get flat.procs s.proc)) fits_by_role (shape.sites i s is).outs)
                (have_of laws.keep a t.nodes s.after flat.globals fits_by_role (shape.sites i s is).after_are);
          })
        where
          unmarked_is : (p k : ℕ) → (Contains (row changes p) k → ⊥) → slice_index_or (limits_spec.row limits p) k false ≡ false
          unmarked_is p k out = unmarked p k (slice_index_or (limits_spec.row limits p) k false) refl out
