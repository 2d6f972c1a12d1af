-- The formula of a procedure is shaped as its signatures say.
use Rattle.std.proofs.Common.{◌≡◌, ℕ, zero, suc, ◌+◌, ◌<◌, Bool, true, false, List, [], ◌∷◌, ◌++◌, map, length, sym, ap, subst}
use Rattle.std.specs.Prelude.{slice_get, Some, None, Option, nat_eq, if◌then◌else◌}
use Rattle.hy_val.specs.declared.sort.Sort.{Sort}
use Rattle.hy_term.specs.TermSorts.{sort_at}
use Rattle.hy_term.specs.declared.node.TermNode.{TermNode}
use Rattle.flat_prog.specs.Program.{FlatProgram, outs_at}
use Rattle.flat_prog.specs.Shape.{IsFlat, place_at}
use Rattle.flat_prog.specs.declared.block.FlatBlock.{FlatBlock}
use Rattle.flat_prog.specs.declared.proc.FlatProc.{FlatProc}
use Rattle.passive_form.specs.Laws.{ProcsAreSorted}
use Rattle.passive_form.specs.Limited.{limited}
use Rattle.passive_form.specs.WellSorted.{ins_at}
use Rattle.vc_gen.specs.Emit.{AllBehind, SiteThere, SitesThere, FailsThere}
use Rattle.vc_gen.specs.Exact.{EdgesThere}
use Rattle.vc_gen.specs.Items.{bool_sort}
use Rattle.vc_gen.specs.Requests.{GlobalsBehindCalls}
use Rattle.vc_gen.specs.Signed.{SiteAsked, SiteSigned, SitesAsked, SitesSigned}
use Rattle.vc_gen.specs.Standing.{AreOf as VcAreOf}
use Rattle.vc_gen.specs.Taken.{ValuesThere}
use Rattle.vc_gen.specs.Whole.{PassiveReady}
use Rattle.vc_gen.specs.declared.parts.EdgeTerm.{EdgeTerm}
use Rattle.vc_gen.specs.declared.parts.FailTerm.{FailTerm}
use Rattle.vc_gen.specs.declared.parts.SiteTerm.{SiteTerm}
use Rattle.vc_gen.specs.declared.parts.ValueTerm.{ValueTerm}
use Rattle.tree_terms.specs.Standing.{AreOf}
use Rattle.tree_terms.specs.declared.linked.EdgeTerms.{EdgeTerms}
use Rattle.tree_terms.specs.declared.linked.FailTerms.{FailTerms}
use Rattle.tree_terms.specs.declared.linked.SiteTerms.{SiteTerms}
use Rattle.tree_terms.specs.declared.linked.Template.{Template}
use Rattle.tree_terms.specs.declared.linked.ValueTerms.{ValueTerms}
use Rattle.proc_template.specs.Shape.{IsShaped, IsShapedSite, TemplatesAreShaped}
use Rattle.proc_template.specs.Sites.{site_terms, sites_of_block, sorted_sites}
use Rattle.proc_template.specs.Starting.{first_sorts}
use Rattle.proc_template.specs.Template.{IsTemplateOf, template_from}
use Rattle.proc_template.specs.Track.{edge_to, edges_with, fail_terms, value_terms}
use Rattle.proc_template.proofs.Unique.{once, in_order}

pub are_same : (nodes : List TermNode) (ts : List ℕ) (ss : List Sort) → VcAreOf nodes ts ss → AreOf nodes ts ss
are_same nodes [] [] h = tt
are_same nodes [] (s ∷ ss) h = h
are_same nodes (t ∷ ts) [] h = h
are_same nodes (t ∷ ts) (s ∷ ss) h = (h.0, are_same nodes ts ss h.1)

-- ---- what holds of each element

-- it holds of each element of both lists
appended : {A : Type 0} (P : A → Type 0) (xs ys : List A) → ((i : ℕ) (x : A) → slice_get xs i ≡ Some x → P x) → ((i : ℕ) (x : A) → slice_get ys i ≡ Some x → P x) → (i : ℕ) (x : A) → slice_get (xs ++ ys) i ≡ Some x → P x
appended P [] ys h k i x is = k i x is
appended P (y ∷ xs) ys h k zero x is = h zero x is
appended P (y ∷ xs) ys h k (suc i) x is = appended P xs ys (λ j z e. h (suc j) z e) k i x is

-- it holds of an element that is there only if a test holds, and of the others
picked : {A : Type 0} (P : A → Type 0) (b : Bool) (y : A) (rest : List A) → P y → ((i : ℕ) (x : A) → slice_get rest i ≡ Some x → P x) → (i : ℕ) (x : A) → slice_get (if b then y ∷ rest else rest) i ≡ Some x → P x
picked P true y rest h k zero x is = let same : y ≡ x = cc in subst P same h
picked P true y rest h k (suc i) x is = k i x is
picked P false y rest h k i x is = k i x is

-- ---- sites

behind_left : (n : ℕ) (xs ys : List ℕ) → AllBehind n (xs ++ ys) → AllBehind n xs
behind_left n [] ys h = tt
behind_left n (x ∷ xs) ys h = (h.0, behind_left n xs ys h.1)

shaped_site : (flat : FlatProgram) (limits : List (List Bool)) (nodes : List TermNode) (s : SiteTerm) → GlobalsBehindCalls → SiteThere nodes s → SiteSigned (limited flat limits) nodes s → SiteAsked (limited flat limits) nodes s →
    IsShapedSite flat nodes (site_terms s)
shaped_site flat limits nodes s behind h k m = record {
  node = h.node;
  fails = h.failed;
  outs = are_same nodes s.outs (outs_at (slice_get flat.procs s.proc)) k.outs_are;
  args_are = are_same nodes s.args (ins_at (slice_get flat.procs s.proc)) m.args_are;
  before_are = are_same nodes s.globals_before flat.globals m.before_are;
  after_are = are_same nodes s.globals_after flat.globals (behind (limited flat limits) nodes s k m);
  args = h.args_before;
  before = h.globals_before;
  behind = behind_left s.failed s.outs s.changed h.others_behind;
}

block_site : (flat : FlatProgram) (limits : List (List Bool)) (nodes : List TermNode) (n : ℕ) (ss : List SiteTerm) → GlobalsBehindCalls → SitesThere nodes ss → SitesSigned (limited flat limits) nodes ss →
    SitesAsked (limited flat limits) nodes ss → (i : ℕ) (s : SiteTerms) → slice_get (sites_of_block n ss) i ≡ Some s → IsShapedSite flat nodes s
block_site flat limits nodes n [] behind h k m i s is = cc
block_site flat limits nodes n (x ∷ ss) behind h k m i s is =
    picked (IsShapedSite flat nodes) (nat_eq x.block n) (site_terms x) (sites_of_block n ss) (shaped_site flat limits nodes x behind h.0 k.0 m.0) (block_site flat limits nodes n ss behind h.1 k.1 m.1) i s is

all_sites : (flat : FlatProgram) (limits : List (List Bool)) (nodes : List TermNode) (n : ℕ) (ss : List SiteTerm) → GlobalsBehindCalls → SitesThere nodes ss → SitesSigned (limited flat limits) nodes ss →
    SitesAsked (limited flat limits) nodes ss → (i : ℕ) (s : SiteTerms) → slice_get (sorted_sites n ss) i ≡ Some s → IsShapedSite flat nodes s
all_sites flat limits nodes zero ss behind h k m i s is = cc
all_sites flat limits nodes (suc n) ss behind h k m i s is =
    appended (IsShapedSite flat nodes) (sorted_sites n ss) (sites_of_block n ss) (all_sites flat limits nodes n ss behind h k m) (block_site flat limits nodes n ss behind h k m) i s is

-- ---- edges and asserts

abbrev IsBit : List TermNode → ℕ → Type 0
IsBit nodes t = sort_at nodes t ≡ Some bool_sort

edge_bit : (nodes : List TermNode) (e : EdgeTerm) (o : Option ℕ) → IsBit nodes e.node → (i : ℕ) (x : EdgeTerms) → slice_get (edge_to e o) i ≡ Some x → IsBit nodes x.node
edge_bit nodes e None h i x is = cc
edge_bit nodes e (Some target) h zero x is = let same : e.node ≡ x.node = ap node_or is in subst (IsBit nodes) same h
  where
    node_or : Option EdgeTerms → ℕ
    node_or None = 0
    node_or (Some y) = y.node
edge_bit nodes e (Some target) h (suc i) x is = cc

all_edges : (nodes : List TermNode) (blocks : List FlatBlock) (es : List EdgeTerm) → EdgesThere nodes es → (i : ℕ) (x : EdgeTerms) → slice_get (edges_with blocks es) i ≡ Some x → IsBit nodes x.node
all_edges nodes blocks [] h i x is = cc
all_edges nodes blocks (e ∷ es) h i x is =
    appended (λ (y : EdgeTerms). IsBit nodes y.node) (edge_to e (place_at (slice_get blocks e.block) e.place)) (edges_with blocks es) (edge_bit nodes e (place_at (slice_get blocks e.block) e.place) h.0)
    (all_edges nodes blocks es h.1) i x is

all_asserts : (nodes : List TermNode) (fs : List FailTerm) → FailsThere nodes fs → (i : ℕ) (x : FailTerms) → slice_get (map fail_terms fs) i ≡ Some x → IsBit nodes x.node
all_asserts nodes [] h i x is = cc
all_asserts nodes (f ∷ fs) h zero x is = let same : fail_terms f ≡ x = cc in subst (λ (y : FailTerms). IsBit nodes y.node) same h.0
all_asserts nodes (f ∷ fs) h (suc i) x is = all_asserts nodes fs h.1 i x is

all_values : (nodes : List TermNode) (vs : List ValueTerm) → ValuesThere nodes vs → (i : ℕ) (x : ValueTerms) → slice_get (map value_terms vs) i ≡ Some x → IsBit nodes x.live × (x.node < length nodes)
all_values nodes [] h i x is = cc
all_values nodes (v ∷ vs) h zero x is = let same : value_terms v ≡ x = cc in subst (λ (y : ValueTerms). IsBit nodes y.live × (y.node < length nodes)) same h.0
all_values nodes (v ∷ vs) h (suc i) x is = all_values nodes vs h.1 i x is

-- ---- formulas

-- the laws of the layers below
pub record ShapeLaws : Type 0 where
  pub ready : PassiveReady
  pub sorted : ProcsAreSorted
  pub behind : GlobalsBehindCalls

shaped_from : (flat : FlatProgram) (limits : List (List Bool)) (proc : ℕ) (t : Template) (laws : ShapeLaws) → IsFlat flat → (h : IsTemplateOf flat limits proc t) → IsShaped flat proc (template_from proc h.q.blocks h.passive t.nodes h.made.instance)
shaped_from flat limits proc t laws is h =
    let i = h.made.instance in
    let made = h.made.instance_is in
    let full = limited flat limits in
    let there = (laws.ready flat limits proc h.q h.passive is h.proc_is h.passive_is).1.there in
    let parts = made.there full h.q h.passive_is.order h.passive_is.is there in
    let sites = made.sites full h.q h.passive_is.order h.passive_is.is there in
    let requests = made.requests full h.q h.passive_is.order h.passive_is.is there (laws.sorted flat limits proc h.q is h.proc_is) in
    let values = (made.values full h.q h.passive_is.order h.passive_is.is there).0 in
    let numbers = in_order (first_sorts h.passive) t.nodes i.next made.variables in
    record {
      sorted = made.later.sound;
      once = once 0 (length (first_sorts h.passive) + made.variables.count) t.nodes numbers;
      ends = parts.ended_is;
      fails = parts.fails_is;
      outs = subst (λ (o : Option FlatProc). AreOf t.nodes i.outs (outs_at o)) (sym h.proc_is) (are_same t.nodes i.outs h.q.outs parts.outs_are);
      globals = are_same t.nodes i.globals flat.globals parts.globals_are;
      sites = all_sites flat limits t.nodes (length h.q.blocks) i.sites laws.behind sites.0 sites.1 requests;
      edges = all_edges t.nodes h.q.blocks i.edges parts.edges_are;
      values = all_values t.nodes i.values values;
      asserts = all_asserts t.nodes i.asserts parts.asserts_are;
    }

pub shaped : ShapeLaws → TemplatesAreShaped
shaped laws = λ flat limits proc t is h.
    subst (IsShaped flat proc) (sym h.made.made) (shaped_from flat limits proc t laws is h)
