-- The sites that a run passes, by number, under values of the formula's nodes.
use Rattle.std.specs.Prelude.{◌≡◌, ℕ, Bool, true, false, List, [], ◌∷◌, map, take, slice_get, Option, None, Some, IsTrue, if◌then◌else◌}
use Rattle.hy_val.specs.Values.{at, is_on}
use Rattle.hy_val.specs.declared.value.Value.{Value}
use Rattle.hy_term.specs.Meaning.{fits, value, values}
use Rattle.flat_prog.specs.Local.{Broken, Ended, Request, Result}
use Rattle.flat_prog.specs.Once.{has_number}
use Rattle.flat_prog.specs.Program.{FlatProgram}
use Rattle.flat_prog.specs.Shape.{IsFlat}
use Rattle.flat_prog.specs.Sites.{sites_passed}
use Rattle.passive_form.specs.SameRuns.{slim}
use Rattle.vc_gen.specs.Emit.{AllBehind, site_value}
use Rattle.vc_gen.specs.Exact.{asked, given_back, true_sites}
use Rattle.vc_gen.specs.Passages.{path_places}
use Rattle.tree_terms.specs.declared.linked.SiteTerms.{SiteTerms}
use Rattle.tree_terms.specs.declared.linked.Template.{Template}
use Rattle.proc_template.specs.Template.{IsTemplateOf}

-- ---- a site, where the nodes have these values; one that is not there is not passed

abbrev pub is_passed : List Value → Option SiteTerms → Bool
is_passed vs None = false
is_passed vs (Some s) = is_on (at vs s.node)

-- whether the callee fails
abbrev pub does_fail : List Value → Option SiteTerms → Bool
does_fail vs None = false
does_fail vs (Some s) = is_on (at vs s.fails)

-- what the callee is asked for
abbrev pub request_by : List Value → Option SiteTerms → Request
request_by vs None = record { proc = 0; globals = []; args = [] }
request_by vs (Some s) = record { proc = s.proc; globals = map (at vs) s.before; args = map (at vs) s.args }

-- what comes back: the callee fails in this assert, or ends with its outs and all globals
abbrev pub result_by : (x y : ℕ) → List Value → Option SiteTerms → Result
result_by x y vs None = Ended [] []
result_by x y vs (Some s) = if is_on (at vs s.fails) then Broken x y else Ended (map (at vs) s.outs) (map (at vs) s.after)

-- the same with the globals alone that the callee may change
abbrev pub slim_by : List (List Bool) → List Value → Option SiteTerms → Result
slim_by limits vs o = slim limits (request_by vs o) (result_by 0 0 vs o)

abbrev pub fails_node : Option SiteTerms → ℕ
fails_node None = 0
fails_node (Some s) = s.fails

abbrev pub requests_of : Template → List Value → List ℕ → List Request
requests_of t vs passed = map (λ (i : ℕ). request_by vs (slice_get t.sites i)) passed

abbrev pub results_of : (x y : ℕ) → Template → List Value → List ℕ → List Result
results_of x y t vs passed = map (λ (i : ℕ). result_by x y vs (slice_get t.sites i)) passed

-- ---- the sites that are passed

-- each number stands behind those before it
abbrev pub Ascends : List ℕ → Type 0
Ascends [] = Unit {0}
Ascends (n ∷ ns) = AllBehind n ns × Ascends ns

-- These are the numbers of the sites whose bits are true, in the order in which the run comes to them.
pub record ArePassed (flat : FlatProgram) (limits : List (List Bool)) (proc : ℕ) (t : Template) (h : IsTemplateOf flat limits proc t) (a : ℕ → Value) (passed : List ℕ) : Type 0 where
  pub on : (i : ℕ) → is_passed (values a t.nodes) (slice_get t.sites i) ≡ has_number passed i
  pub asked_are : asked (map (site_value a t.nodes) h.made.instance.sites) ≡ requests_of t (values a t.nodes) passed
  pub given_are : given_back (map (site_value a t.nodes) h.made.instance.sites) ≡ map (λ (i : ℕ). slim_by limits (values a t.nodes) (slice_get t.sites i)) passed
  pub rising : Ascends (map (λ (i : ℕ). fails_node (slice_get t.sites i)) passed)

-- where the sites whose bits are true are the first calls of a path's blocks, they are its first sites
abbrev pub PassedAreNumbered : Type 0
PassedAreNumbered =
    (flat : FlatProgram) (limits : List (List Bool)) (proc : ℕ) (t : Template) (a : ℕ → Value) (path : List ℕ) (count : ℕ) → IsFlat flat → (h : IsTemplateOf flat limits proc t) → IsTrue (fits a t.nodes) →
    true_sites a t.nodes h.made.instance.sites ≡ take count (path_places h.q path) → ArePassed flat limits proc t h a (take count (sites_passed h.q.blocks path))

-- ---- the site that fails

-- of the sites that are passed at most one fails
abbrev pub OneSiteFails : Type 0
OneSiteFails =
    (flat : FlatProgram) (limits : List (List Bool)) (proc : ℕ) (t : Template) (a : ℕ → Value) (i j : ℕ) → IsFlat flat → IsTemplateOf flat limits proc t → IsTrue (fits a t.nodes) →
    is_passed (values a t.nodes) (slice_get t.sites i) ≡ true → does_fail (values a t.nodes) (slice_get t.sites i) ≡ true → is_passed (values a t.nodes) (slice_get t.sites j) ≡ true →
    does_fail (values a t.nodes) (slice_get t.sites j) ≡ true → i ≡ j

-- where the run ends none does
abbrev pub NoneFailsAtEnds : Type 0
NoneFailsAtEnds =
    (flat : FlatProgram) (limits : List (List Bool)) (proc : ℕ) (t : Template) (a : ℕ → Value) (i : ℕ) → IsFlat flat → IsTemplateOf flat limits proc t → IsTrue (fits a t.nodes) → is_on (value a t.nodes t.ends) ≡ true →
    is_passed (values a t.nodes) (slice_get t.sites i) ≡ true → does_fail (values a t.nodes) (slice_get t.sites i) ≡ false
