-- What holds of the formula of a procedure: which nodes are bools, which have the sorts of the signatures, and in which order nodes stand.
use Rattle.std.specs.Prelude.{◌≡◌, ◌<◌, ℕ, Bool, List, length, slice_get, Some, IsSome}
use Rattle.hy_val.specs.declared.sort.Sort.{Sort}
use Rattle.hy_term.specs.TermSorts.{sorts, sort_at}
use Rattle.hy_term.specs.declared.node.TermNode.{TermNode}
use Rattle.hy_term.specs.declared.node.TermNode.TheVariants.{Variable}
use Rattle.flat_prog.specs.Program.{FlatProgram, outs_at}
use Rattle.flat_prog.specs.Shape.{IsFlat}
use Rattle.passive_form.specs.WellSorted.{ins_at}
use Rattle.vc_gen.specs.Emit.{AllBefore, AllBehind}
use Rattle.vc_gen.specs.Items.{bool_sort}
use Rattle.tree_terms.specs.Standing.{AreOf}
use Rattle.tree_terms.specs.declared.linked.EdgeTerms.{EdgeTerms}
use Rattle.tree_terms.specs.declared.linked.FailTerms.{FailTerms}
use Rattle.tree_terms.specs.declared.linked.SiteTerms.{SiteTerms}
use Rattle.tree_terms.specs.declared.linked.Template.{Template}
use Rattle.tree_terms.specs.declared.linked.ValueTerms.{ValueTerms}
use Rattle.proc_template.specs.Template.{IsTemplateOf}

-- of a site: its bit and that its callee fails are bools, its args and outs have the sorts of the callee's, the globals before and after it theirs, and what it
-- is asked for stands before what comes back
pub record IsShapedSite (flat : FlatProgram) (nodes : List TermNode) (s : SiteTerms) : Type 0 where
  pub node : sort_at nodes s.node ≡ Some bool_sort
  pub fails : sort_at nodes s.fails ≡ Some bool_sort
  pub outs : AreOf nodes s.outs (outs_at (slice_get flat.procs s.proc))
  pub args_are : AreOf nodes s.args (ins_at (slice_get flat.procs s.proc))
  pub before_are : AreOf nodes s.before flat.globals
  pub after_are : AreOf nodes s.after flat.globals
  pub args : AllBefore s.fails s.args
  pub before : AllBefore s.fails s.before
  pub behind : AllBehind s.fails s.outs

-- Of a formula: children stand before their nodes, all sorts fit, each variable is one node, and the bits, the outs and the globals have their sorts.
pub record IsShaped (flat : FlatProgram) (proc : ℕ) (t : Template) : Type 0 where
  pub sorted : IsSome (sorts t.nodes)
  pub once : (i j number : ℕ) (one other : Sort) → slice_get t.nodes i ≡ Some (Variable number one) → slice_get t.nodes j ≡ Some (Variable number other) → i ≡ j
  pub ends : sort_at t.nodes t.ends ≡ Some bool_sort
  pub fails : sort_at t.nodes t.fails ≡ Some bool_sort
  pub outs : AreOf t.nodes t.outs (outs_at (slice_get flat.procs proc))
  pub globals : AreOf t.nodes t.globals flat.globals
  pub sites : (i : ℕ) (s : SiteTerms) → slice_get t.sites i ≡ Some s → IsShapedSite flat t.nodes s
  pub edges : (i : ℕ) (e : EdgeTerms) → slice_get t.track.edges i ≡ Some e → sort_at t.nodes e.node ≡ Some bool_sort
  pub values : (i : ℕ) (v : ValueTerms) → slice_get t.track.values i ≡ Some v → (sort_at t.nodes v.live ≡ Some bool_sort) × (v.node < length t.nodes)
  pub asserts : (i : ℕ) (f : FailTerms) → slice_get t.track.asserts i ≡ Some f → sort_at t.nodes f.node ≡ Some bool_sort

-- the formulas of procedures of a flat program are such
abbrev pub TemplatesAreShaped : Type 0
TemplatesAreShaped = (flat : FlatProgram) (limits : List (List Bool)) (proc : ℕ) (t : Template) → IsFlat flat → IsTemplateOf flat limits proc t → IsShaped flat proc t
