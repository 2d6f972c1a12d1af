-- What a formula says under an assignment that has what a run settles: the run's calls and results by site, and its track.
use Rattle.std.proofs.Common.{◌≡◌, ℕ, Bool, List, ◌∷◌, ◌++◌, map, length, take, slice_get, Some, sym, ap, ◌∙◌, subst}
use Rattle.std.specs.Prelude.{Option, IsTrue}
use Rattle.hy_val.specs.Laws.{ValuesKeepSorts}
use Rattle.hy_val.specs.Values.{at}
use Rattle.hy_val.specs.declared.value.Value.{Value}
use Rattle.hy_term.specs.Laws.{EachNodeHasItsSort, NewVariables as NewValues}
use Rattle.hy_term.specs.Meaning.{fits, values}
use Rattle.flat_prog.specs.Changes.{AllKeep}
use Rattle.flat_prog.specs.Laws.{AllRunsKeep, CallsOfRuns, OnceLaw}
use Rattle.flat_prog.specs.Limits.{AreLimits}
use Rattle.flat_prog.specs.Local.{edges_of, Request, Result, Track}
use Rattle.flat_prog.specs.Program.{FlatProgram}
use Rattle.flat_prog.specs.Shape.{IsFlat}
use Rattle.flat_prog.specs.Sites.{sites_passed}
use Rattle.flat_prog.specs.declared.block.FlatBlock.{FlatBlock}
use Rattle.passive_form.specs.Limited.{limited}
use Rattle.passive_form.specs.Local.{State, walk}
use Rattle.passive_form.specs.SameRuns.{LimitedRun, StartIs, slims}
use Rattle.vc_gen.specs.Emit.{site_value}
use Rattle.vc_gen.specs.Exact.{asked, given_back, true_edges, true_sites}
use Rattle.vc_gen.specs.Passages.{blame, path_places}
use Rattle.vc_gen.specs.Requests.{RunsStay}
use Rattle.vc_gen.specs.Taken.{true_values}
use Rattle.vc_gen.specs.Valued.{begin_and_true}
use Rattle.vc_gen.specs.Whole.{BlocksStandOnce, PassiveReady}
use Rattle.tree_terms.proofs.Growth.{are_count}
use Rattle.tree_terms.specs.declared.linked.EdgeTerms.{EdgeTerms}
use Rattle.tree_terms.specs.declared.linked.SiteTerms.{SiteTerms}
use Rattle.tree_terms.specs.declared.linked.Template.{Template as Formula}
use Rattle.proc_template.proofs.Passing.{path_reads}
use Rattle.proc_template.specs.Numbered.{ArePassed, PassedAreNumbered}
use Rattle.proc_template.specs.Runs.{BitsAreNeverBoth, TakenAreRead, passed, values_taken}
use Rattle.proc_template.specs.Starting.{first_sorts}
use Rattle.proc_template.specs.Template.{IsTemplateOf}
use Rattle.proc_template.specs.Track.{edges_with}
use Rattle.tree_words.specs.Compose.{Bits}
use Rattle.tree_words.specs.Reading.{passed_edges, path_by}
use Rattle.tree_words.specs.Template.{view_of}
use Rattle.template_law.proofs.Formula.{Laws}
use Rattle.template_law.proofs.PlanFrom.{Told, formula_of}
use Rattle.template_law.proofs.PlanSites.{SiteSized, sites_said}

-- the laws of the layers below
pub record PlanLaws : Type 0 where
  pub base : Laws
  pub never : BitsAreNeverBoth
  pub numbered : PassedAreNumbered
  pub read : TakenAreRead
  pub new_values : NewValues
  pub sorted : EachNodeHasItsSort
  pub keep : ValuesKeepSorts
  pub ready : PassiveReady
  pub blocks_once : BlocksStandOnce
  pub stay : RunsStay
  pub start_is : StartIs
  pub limited_runs : LimitedRun
  pub passed_once : OnceLaw
  pub of_runs : CallsOfRuns
  pub runs_keep : AllRunsKeep

same_track : (p q : ℕ) (ns ms xs ys : List ℕ) (vs ws : List Value) → p ≡ q → ns ≡ ms → xs ≡ ys → vs ≡ ws →
    ◌≡◌ {A = Track} (record { proc = p; path = ns; places = xs; values = vs }) (record { proc = q; path = ms; places = ys; values = ws })
same_track p q ns ms xs ys vs ws e f g k = cc

module _ (laws : PlanLaws) (flat : FlatProgram) (limits : List (List Bool)) (proc : ℕ) (t : Formula) (is : IsFlat flat) (are : AreLimits flat limits) (h : IsTemplateOf flat limits proc t) where
  sized : (i : ℕ) (s : SiteTerms) → slice_get t.sites i ≡ Some s → SiteSized flat limits s
  sized i s e =
      let shape = (laws.base.shaped flat limits proc t is h).sites i s e in
      record { before = are_count t.nodes s.before flat.globals shape.before_are; after = are_count t.nodes s.after flat.globals shape.after_are; kept = (laws.base.sites flat limits proc t i s is h e).kept }

  -- the track is read off the nodes
  track_read : (b : ℕ → Value) → IsTrue (fits b t.nodes) → (track : Track) (path : List ℕ) (s : State) (r : Option FlatBlock × State) → track.proc ≡ proc → track.path ≡ 0 ∷ path →
      walk (limited flat limits) h.q (0 ∷ path) track.places s ≡ Some r → edges_of (0 ∷ path) track.places ≡ true_edges b t.nodes h.made.instance.edges →
      track.values ≡ begin_and_true h.q (length (first_sorts h.passive)) b t.nodes h.made.instance.values → (view_of (formula_of t) b).track ≡ track
  track_read b fit track path s r proc_is path_is walks edges taken =
      let made = h.made.made in
      let vs = values b t.nodes in
      let edges_are : t.track.edges ≡ edges_with h.q.blocks h.made.instance.edges = ap (λ (x : Formula). x.track.edges) made in
      let e = path_reads (limited flat limits) h.q b t.nodes h.made.instance.edges path track.places s r walks edges in
      let path_same : path_by (passed_edges vs t.track.edges) ≡ track.path =
      ap (λ (es : List EdgeTerms). 0 ∷ map (λ (x : EdgeTerms). x.target) (passed vs es)) edges_are ∙ ap (λ ns. 0 ∷ ns) e.0 ∙ sym path_is in
      let places_same : map (λ (x : EdgeTerms). x.place) (passed_edges vs t.track.edges) ≡ track.places = ap (λ (es : List EdgeTerms). map (λ (x : EdgeTerms). x.place) (passed vs es)) edges_are ∙ e.1 in
      let proc_same : t.track.proc ≡ track.proc = ap (λ (x : Formula). x.track.proc) made ∙ sym proc_is in
      let read = laws.read flat limits proc t b is h fit in
      let values_same : map (at vs) t.track.begin ++ values_taken vs t.track.values ≡ track.values =
      sym (taken ∙ ap (λ xs. xs ++ true_values b t.nodes h.made.instance.values) read.0 ∙ ap (λ xs. map (at vs) t.track.begin ++ xs) read.1) in
      same_track t.track.proc track.proc (path_by (passed_edges vs t.track.edges)) track.path (map (λ (x : EdgeTerms). x.place) (passed_edges vs t.track.edges)) track.places
      (map (at vs) t.track.begin ++ values_taken vs t.track.values) track.values proc_same path_same places_same values_same

  -- the formula says the run
  pub told_so : (b : ℕ → Value) → IsTrue (fits b t.nodes) → (track : Track) (path : List ℕ) (count : ℕ) (passes : List ℕ) (calls : List Request) (results : List Result) (result : Result) (s : State) (r : Option FlatBlock × State) →
      track.proc ≡ proc → track.path ≡ 0 ∷ path → walk (limited flat limits) h.q (0 ∷ path) track.places s ≡ Some r → edges_of (0 ∷ path) track.places ≡ true_edges b t.nodes h.made.instance.edges →
      track.values ≡ begin_and_true h.q (length (first_sorts h.passive)) b t.nodes h.made.instance.values → true_sites b t.nodes h.made.instance.sites ≡ take count (path_places h.q (0 ∷ path)) →
      take count (sites_passed h.q.blocks (0 ∷ path)) ≡ passes → calls ≡ asked (map (site_value b t.nodes) h.made.instance.sites) →
      map blame (slims limits calls results) ≡ map blame (given_back (map (site_value b t.nodes) h.made.instance.sites)) → AllKeep flat calls results → Bits (view_of (formula_of t) b) result →
      Told t b passes calls results result track
  told_so b fit track path count passes calls results result s r proc_is path_is walks edges taken places passes_are calls_are results_are keep bits =
      let p : ArePassed flat limits proc t h b passes =
      subst (λ (ns : List ℕ). ArePassed flat limits proc t h b ns) passes_are (laws.numbered flat limits proc t b (0 ∷ path) count is h fit places) in
      record {
        says = sites_said flat limits are (values b t.nodes) (formula_of t) sized passes calls results (calls_are ∙ p.asked_are) (results_are ∙ ap (map blame) p.given_are) keep (λ i k. p.on i ∙ k);
        on = p.on;
        bits = bits;
        track_is = track_read b fit track path s r proc_is path_is walks edges taken;
        rising = p.rising;
      }
